-- `follow` meets its contract. The loop's invariant: the walk holds what i of the states make of its list.
use Rattle.walk_order.proofs.Walks.{Following}
use Rattle.walk_order.proofs.Walk.follow.Given as goal

abbrev pub invariant-loop-i : goal.invariant-loop-i
invariant-loop-i l =
    Following l.states l.initial.self l.self l.i
