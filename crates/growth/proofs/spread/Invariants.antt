-- `spread` meets its contract: `next` edges are left, and the predecessors by later edges have been tried.
use Rattle.growth.proofs.Spreading.{Spreading}
use Rattle.growth.proofs.spread.Given as goal

abbrev pub invariant-loop-next : goal.invariant-loop-next
invariant-loop-next l =
    Spreading l.net.edges.now l.fresh l.v l.able l.initial.trials l.initial.waiting l.trials l.waiting l.next

abbrev pub decreases-loop-next : goal.decreases-loop-next
decreases-loop-next l =
    l.next
