use native.Mathlib.Omega.{arith}
use Rattle.edge_indexes.proofs.Incoming.{indexing_more}
use Rattle.edge_indexes.proofs.index.Goals as goal

pub loop-k-preserved : goal.loop-k-preserved
loop-k-preserved c =
    indexing_more c.loop-k.invariant (omega arith) (omega arith)
