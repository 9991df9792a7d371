-- `grow` meets its contract: the table stays within the trial set, and each look leaves less to do.
use Rattle.growth.proofs.Growing.{Growing, left}
use Rattle.growth.proofs.grow.Given as goal

abbrev pub invariant-loop-v : goal.invariant-loop-v
invariant-loop-v l =
    Growing l.net.nodes l.net.links.now l.net.edges.now l.fresh l.initial.trials l.trials l.waiting

abbrev pub decreases-loop-v : goal.decreases-loop-v
decreases-loop-v l =
    left l.net.nodes l.net.links.now l.net.edges.now l.fresh l.trials l.waiting
