-- `change_words` meets its contract: the words before v are changed, the others are what they were.
use Prim.Native.Nat.{ℕ, ◌≤◌, ◌<◌}
use mathlib.Core.Path.{◌≡◌}
use lib.ListN.{get_or}
use Rattle.pair_tables.proofs.change_words.Given as goal

abbrev pub invariant-loop-v : goal.invariant-loop-v
invariant-loop-v g l =
    ((v : ℕ) → v < l.v → goal.F-post g l.change (get_or l.initial.table v 0) (get_or l.other v 0) (get_or l.table v 0))
    × ((v : ℕ) → l.v ≤ v → get_or l.table v 0 ≡ get_or l.initial.table v 0)
