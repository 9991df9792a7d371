-- What the steps of a load leave.
use Rattle.std.specs.Prelude.{ℕ, ◌≡◌, List, length}
use Rattle.session.specs.Limits.{max_nodes}
use Rattle.session.specs.Trigger.{admits}
use Rattle.session.specs.Layout.{trigger_of, graph_of}
use Rattle.pair_tables.specs.Tables.{marked}
use Rattle.promises.specs.Standing.{stands, size, pairs_of}

-- a table holds the greatest simulation of what the memory holds, and n is the number of admitted pairs
pub record Solved (xs : List ℕ) (n : ℕ) (ts : List ℕ) : Type 0 where
  pub long : length ts ≡ max_nodes
  pub marks : (u v : ℕ) → marked ts u v ≡ stands (trigger_of xs) (graph_of xs) u v
  pub trials : n ≡ size (trigger_of xs) (graph_of xs) (pairs_of (trigger_of xs) (graph_of xs) (admits (trigger_of xs) (graph_of xs)))
