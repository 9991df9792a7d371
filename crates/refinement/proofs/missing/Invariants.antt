-- `missing` meets its contract: before the edge k, the links that the edges below it carry are struck off.
use Prim.Native.Nat.{◌-◌, ◌≤◌}
use Rattle.refinement.proofs.Support.{Searching}
use lib.ListN.{length}
use Rattle.refinement.proofs.missing.Given as goal

abbrev pub invariant-loop-k : goal.invariant-loop-k
invariant-loop-k l =
    (l.initial.k ≤ l.k) × Searching l.set l.edges l.settled l.tentative l.rest l.k

abbrev pub decreases-loop-k : goal.decreases-loop-k
decreases-loop-k l =
    length l.edges - l.k

abbrev pub invariant-links : goal.invariant-links
invariant-links l =
    Searching l.set l.edges l.settled l.tentative l.rest l.k

abbrev pub decreases-links : goal.decreases-links
decreases-links l =
    length l.edges - l.k
