-- `note_ends` meets its contract: before edge k the ends of the edges before it are noted.
use Rattle.edge_indexes.proofs.Firsts.{Noting}
use Rattle.edge_indexes.proofs.note_ends.Given as goal

abbrev pub invariant-loop-k : goal.invariant-loop-k
invariant-loop-k l =
    Noting l.edges l.firsts l.k
