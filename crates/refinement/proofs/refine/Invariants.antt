-- Each look keeps how far the refinement has come; without an index the looks are counted down.
use Prim.Native.Nat.{◌+◌, ◌*◌}
use lib.ListN.{length}
use Rattle.simulation.specs.Sets.{count}
use Rattle.refinement.specs.Refining.{Refining, tabled}
use Rattle.worklist.specs.Waiting.{waits, lowest_waiting}
use Rattle.session.specs.Limits.{max_nodes}
use Rattle.edge_indexes.specs.Indexes.{starts_size}
use Rattle.refinement.proofs.refine.Given as goal

abbrev pub invariant-loop-v : goal.invariant-loop-v
invariant-loop-v l =
    Refining l.net.nodes l.net.links.now l.net.edges.now l.settled l.initial.tentative l.initial.waiting l.tentative l.waiting (lowest_waiting l.waiting)

abbrev pub decreases-loop-v : goal.decreases-loop-v
decreases-loop-v l =
    starts_size * count (l.net.nodes * length l.net.links.now) (tabled l.net.nodes l.net.links.now l.net.edges.now l.tentative) + count max_nodes (waits l.waiting)
