-- `visit` meets its contract. The loop's invariant: the walk holds what i links of the state make of its list. The number that falls
-- with each call is that of the states not yet visited.
use lib.ListN.{length}
use Rattle.walk_order.specs.Walks.{unvisited}
use Rattle.walk_order.proofs.Walks.{Along}
use Rattle.walk_order.proofs.Walk.+visit.Given as goal

abbrev pub decreases-visit : goal.decreases-visit
decreases-visit l = unvisited (length l.links.now) l.self.now

abbrev pub invariant-loop-i : goal.invariant-loop-i
invariant-loop-i l = Along l.links l.state l.initial.self l.self l.i
