-- Two digits a state, one after the other.
use Rattle.frames.specs.Digits.{digits}
use Rattle.frames.proofs.Listed.{Listing}
use Rattle.answer_lines.proofs.put_states.Given as goal

abbrev pub invariant-loop-state : goal.invariant-loop-state
invariant-loop-state l =
    Listing (digits 2) l.states l.initial.out l.at l.out l.next l.state-index
