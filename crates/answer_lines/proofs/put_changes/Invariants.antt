-- A line a change, one after the other.
use Rattle.frames.specs.Outputs.{changed}
use Rattle.frames.proofs.Listed.{Listing}
use Rattle.answer_lines.proofs.put_changes.Given as goal

abbrev pub invariant-loop-change : goal.invariant-loop-change
invariant-loop-change l =
    Listing changed l.list l.initial.out l.at l.out l.next l.change-index
