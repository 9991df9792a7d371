use native.Mathlib.Omega.{arith}
use Rattle.session.proofs.Tables.{below-take}
use Rattle.edge_indexes.proofs.Firsts.{noting_more}
use Rattle.session.specs.Limits.{edge_numbers}
use Rattle.edge_indexes.proofs.note_ends.Goals as goal

pub bounds-firsts-start : goal.bounds-firsts-start
bounds-firsts-start c =
    omega (arith, c.loop-k.invariant.long, below-take edge_numbers c.args.edges.now c.requires.edges_len_bound.1 c.loop-k.k c.loop-k-test.true)

pub loop-k-preserved : goal.loop-k-preserved
loop-k-preserved c =
    noting_more c.loop-k.invariant c.loop-k-test.true c.requires.edges_len_bound.1
