-- A byte taken is kept after those before it, and the line feed leaves the loop.
use Rattle.frames.proofs.Fronts.{Sofar}
use Rattle.line_gathering.proofs.gather.Given as goal

abbrev pub invariant-loop-next : goal.invariant-loop-next
invariant-loop-next l =
    Sofar l.initial.front l.used l.block l.at l.front l.len l.next
