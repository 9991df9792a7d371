-- `index` meets its contract: before edge k the tables are the index of the edges before it.
use Rattle.edge_indexes.proofs.Incoming.{Indexing}
use Rattle.edge_indexes.proofs.index.Given as goal

abbrev pub invariant-loop-k : goal.invariant-loop-k
invariant-loop-k l =
    Indexing l.edges l.heads l.nexts l.k
