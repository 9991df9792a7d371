-- `fill_in` meets its contract: the places before the index are filled in, the others as they were.
use Rattle.edge_indexes.proofs.Firsts.{Filling}
use Rattle.edge_indexes.proofs.fill_in.Given as goal

abbrev pub invariant-loop-first : goal.invariant-loop-first
invariant-loop-first l =
    Filling l.initial.firsts l.firsts l.place l.first-index
