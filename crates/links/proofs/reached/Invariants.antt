-- `reached` meets its contract: what was met and followed is reached, and in the end nothing waits.
use Rattle.simulation.specs.Sets.{union, count}
use Rattle.bits.specs.Word.{members, set_bits}
use Rattle.links.proofs.Reaching.{Reaching}
use Rattle.links.proofs.reached.Given as goal

abbrev pub invariant-loop-rest : goal.invariant-loop-rest
invariant-loop-rest l =
    Reaching l.links l.left l.rest

abbrev pub decreases-loop-rest : goal.decreases-loop-rest
decreases-loop-rest l =
    count set_bits (union (members l.left) (members l.rest))
