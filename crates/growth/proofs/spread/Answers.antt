use borrow.Author.Rules.{rules}
use Rattle.edge_indexes.proofs.Incoming.{chained_less}
use Rattle.growth.proofs.Spreading.{spreading_start, spreading_more, spreading_done}
use Rattle.growth.proofs.spread.Goals as goal

pub loop-next-init : goal.loop-next-init
loop-next-init c =
    let out = c.take_out in
    spreading_start c.requires.indexed c.args.fresh.now c.args.v c.calling-able.result c.args.trials.now out.new.waiting
    (search rules) (search rules) out.ensures.0

pub loop-next-smaller : goal.loop-next-smaller
loop-next-smaller c =
    chained_less c.requires.indexed c.loop-next.invariant.chain c.loop-next-test.true

pub loop-next-preserved : goal.loop-next-preserved
loop-next-preserved c =
    spreading_more c.requires.indexed _ _ _ _ _ c.loop-next.invariant c.loop-next-test.true c.try_at.ensures

pub returns : goal.returns
returns c =
    spreading_done c.args.net.now.links.now (rw c.loop-next-test.false at c.loop-next.invariant) c.requires.fresh_len.1 c.requires.fresh_len.2
    c.calling-able.ensures c.take_out.ensures.1
