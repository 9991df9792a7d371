-- `all_ascend` meets its contract: the edges before k are below the next, or not all.
use Prim.Native.Nat.{ℕ, ◌+◌, ◌-◌, ◌≤◌}
use mathlib.Core.Path.{◌≡◌}
use mathlib.Core.List.{List}
use lib.Dec.{ltb}
use lib.ListN.{length, get_or}
use Rattle.simulation.specs.Sets.{Set, all_below}
use Rattle.section_tests.proofs.all_ascend.Given as goal

-- the edge j is below the next
abbrev pub rises : List ℕ → Set
rises edges j = ltb (get_or edges j 0) (get_or edges (j + 1) 0)

abbrev pub invariant-loop-k : goal.invariant-loop-k
invariant-loop-k l =
    (l.k - 1 ≤ length l.edges - 1) × (l.all ≡ all_below (l.k - 1) (rises l.edges))
