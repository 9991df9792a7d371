use mathlib.Core.Path.{◌≡◌}
use Rattle.simulation.specs.Sets.{without}
use Rattle.bits.specs.Word.{members}
use Rattle.links.proofs.Reaching.{reaching_start, reaching_next, reaching_done}
use Rattle.links.proofs.reached.Goals as goal
use Rattle.links.proofs.reached.Goals.{After-without_lowest}

-- the lowest state that waits is taken out
gone : (c : After-without_lowest) → members c.without_lowest.result ≡ without (members c.loop-rest.rest) c.lowest-u.result
gone c = let low = c.lowest-u in c.without_lowest.ensures low.result low.ensures.1 low.ensures.2

pub loop-rest-init : goal.loop-rest-init
loop-rest-init c =
    reaching_start c.args.links.now c.below-all.result c.difference-left.result c.requires.0 c.below-all.ensures.1 c.difference-left.ensures

pub loop-rest-preserved : goal.loop-rest-preserved
loop-rest-preserved c =
    let a = c.args in
    let low = c.lowest-u in
    reaching_next a.links.now c.loop-rest.left c.loop-rest.rest c.loop-rest.invariant low.result c.without_lowest.result c.difference-left-in-loop-rest.result low.ensures.1 (gone c) c.difference-left-in-loop-rest.ensures

pub returns : goal.returns
returns c =
    let a = c.args in
    reaching_done a.links.now c.loop-rest.left c.loop-rest.rest c.loop-rest.invariant c.loop-rest-test.false c.below-all.result c.difference.result c.below-all.ensures.1 c.difference.ensures
