-- Each turn takes a line, or the rest of the block.
use Prim.Native.Nat.{◌-◌}
use lib.ListN.{length}
use Rattle.frames.specs.Machine.{memory}
use Rattle.frames.specs.Blocks.{point}
use Rattle.frames.proofs.Passing.{Upto}
use Rattle.frame_input.proofs.pass_over.Given as goal

abbrev pub invariant-loop-at : goal.invariant-loop-at
invariant-loop-at l =
    Upto l.block (point l.initial.front l.begun 0 0 (memory l.initial.counts l.initial.words l.initial.session l.initial.changes l.initial.out)) (point l.front l.line l.at l.written (memory l.counts l.words l.session l.changes l.out))

abbrev pub decreases-loop-at : goal.decreases-loop-at
decreases-loop-at l =
    length l.block - l.at
