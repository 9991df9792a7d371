-- `fill_by` meets its contract: the places before i hold their numbers.
use Prim.Native.Nat.{ℕ, ◌<◌}
use lib.ListN.{get_or}
use Rattle.sections.proofs.fill_by.Given as goal

abbrev pub invariant-loop-i : goal.invariant-loop-i
invariant-loop-i g l =
    (i : ℕ) → i < l.i → goal.F-post g l.number i (get_or l.place i 0)
