-- `call_in_by_edges` meets its contract: the predecessors by the edges gone through have been called in.
use Rattle.bits.specs.Word.{overlaps}
use Rattle.worklist.proofs.CalledIn.{leads_to}
use Rattle.worklist.specs.Waiting.{waits, waiting_words}
use lib.ListN.{length, get_or}
use mathlib.Core.Bool.{◌&&◌, ◌||◌}
use mathlib.Core.Path.{◌≡◌}
use Rattle.worklist.proofs.call_in_by_edges.Given as goal

abbrev pub invariant-loop-edge : goal.invariant-loop-edge
invariant-loop-edge l =
    (length l.waiting ≡ waiting_words) × (waits l.waiting ≡ (λ w. waits l.initial.waiting w || (leads_to l.edges (λ x. overlaps (get_or l.table x 0) l.word) l.node l.edge-index w && overlaps (get_or l.table w 0) l.word)))
