-- The trial set as a table, and what each step of its growth leaves.
use Rattle.std.specs.Prelude.{ℕ, ◌*◌, ◌<◌, ◌≡◌, true, not, ◌&&◌, ◌||◌, List, eqb, length, get_or}
use Rattle.simulation.specs.Sets.{without}
use Rattle.simulation.specs.System.{closure}
use Rattle.simulation.specs.Pattern.{system}
use Rattle.bits.specs.Word.{members}
use Rattle.session.specs.Limits.{max_nodes}
use Rattle.links.specs.Links.{links_to}
use Rattle.pair_tables.specs.Tables.{marked}
use Rattle.worklist.specs.Waiting.{waits}
use Rattle.edge_indexes.specs.Indexes.{predecessors}
use Rattle.refinement.specs.Refining.{pattern_of, tabled}

-- the states of a word are tried at the node v, which waits where it gains one
pub record TriedAt (ts ws : List ℕ) (v more : ℕ) (ts' ws' : List ℕ) : Type 0 where
  pub table_long : length ts' ≡ length ts
  pub waits_long : length ws' ≡ length ws
  pub words : (u w : ℕ) → marked ts' u w ≡ (marked ts u w || (eqb w v && members more u))
  pub waiting : (w : ℕ) → waits ws' w ≡ (waits ws w || not (eqb (get_or ts' w 0) (get_or ts w 0)))

-- one look at the node v: its predecessors have the fresh pairs with a link to a pair at v, and wait where they gained one
pub record Spread (links es fs ts ws : List ℕ) (v : ℕ) (ts' ws' : List ℕ) : Type 0 where
  pub table_long : length ts' ≡ length ts
  pub waits_long : length ws' ≡ length ws
  pub words : (u w : ℕ) → marked ts' u w ≡ (marked ts u w || (predecessors es v w && (marked fs u w && links_to links (get_or ts v 0) u)))
  pub waiting : (w : ℕ) → waits ws' w ≡ (without (waits ws) v w || not (eqb (get_or ts' w 0) (get_or ts w 0)))

-- the trial set: the least set of fresh pairs that has the seeds and each pair with a link and an edge to one of it
pub record Grown (nodes : ℕ) (links es fs seeds ts' : List ℕ) : Type 0 where
  pub long : length ts' ≡ max_nodes
  pub within : (u v : ℕ) → marked ts' u v ≡ true → marked fs u v ≡ true
  pub grown : (p : ℕ) → p < nodes * length links
      → tabled nodes links es ts' p
      ≡ closure (system (pattern_of nodes links es)) (tabled nodes links es fs) (tabled nodes links es seeds) p
