-- What a session admits, of the trigger and the graph that it holds.
use Rattle.std.specs.Prelude.{ℕ, ◌*◌, ◌/◌, ◌%◌, ◌≡◌, ◌&&◌, List, ltb, length}
use Rattle.simulation.specs.Sets.{Set, count}
use Rattle.session.specs.Limits.{max_nodes}
use Rattle.session.specs.Trigger.{states, nodes, admits}
use Rattle.session.specs.Layout.{trigger_of, graph_of}
use Rattle.pair_tables.specs.Tables.{marked, turned_states}

-- the states whose answer is turned round
abbrev pub turned_in : List ℕ → Set
turned_in xs = turned_states (trigger_of xs).masks (trigger_of xs).inverted

-- the states that admit the node v
abbrev pub admitted_at : List ℕ → ℕ → Set
admitted_at xs v u = ltb u (states (trigger_of xs)) && admits (trigger_of xs) (graph_of xs) u v

-- a table has the admitted pairs, and n is their number
pub record AdmittedPairs (xs : List ℕ) (n : ℕ) (ts : List ℕ) : Type 0 where
  pub long : length ts ≡ max_nodes
  pub words : (u v : ℕ) → marked ts u v ≡ (ltb u (states (trigger_of xs)) && (ltb v (nodes (graph_of xs)) && admits (trigger_of xs) (graph_of xs) u v))
  pub counted : n
      ≡ count (nodes (graph_of xs) * states (trigger_of xs))
      (λ p. admits (trigger_of xs) (graph_of xs) (p % states (trigger_of xs)) (p / states (trigger_of xs)))
