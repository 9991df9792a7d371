-- `call_in_by_index` meets its contract: `next` edges are left, and the predecessors by later edges have been called in.
use Rattle.bits.specs.Word.{overlaps}
use Rattle.worklist.proofs.CalledIn.{Calling}
use lib.ListN.{length, get_or}
use mathlib.Core.Path.{◌≡◌}
use Rattle.worklist.specs.Waiting.{waiting_words}
use Rattle.worklist.proofs.call_in_by_index.Given as goal

abbrev pub invariant-loop-next : goal.invariant-loop-next
invariant-loop-next l =
    (length l.waiting ≡ waiting_words) × Calling l.edges (λ w. overlaps (get_or l.table w 0) l.word) l.node l.initial.waiting l.waiting l.next

abbrev pub decreases-loop-next : goal.decreases-loop-next
decreases-loop-next l =
    l.next
