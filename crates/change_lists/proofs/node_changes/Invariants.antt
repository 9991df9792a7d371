-- `node_changes` meets its contract: the changes of the states that are taken out of `rest` are written.
use lib.ListN.{length}
use Rattle.bits.specs.Word.{members}
use Rattle.listing.proofs.Placing.{Writing, left}
use Rattle.change_lists.proofs.node_changes.Given as goal

abbrev pub invariant-loop-rest : goal.invariant-loop-rest
invariant-loop-rest l =
    Writing l.initial.changes l.at l.node l.states l.before l.after l.changes l.next l.rest

abbrev pub decreases-loop-rest : goal.decreases-loop-rest
decreases-loop-rest l =
    length (left l.node l.states l.after (members l.rest))
