use native.Mathlib.Omega.{arith}
use mathlib.Core.Path.{◌≡◌}
use Rattle.growth.proofs.Growing.{growing_start, growing_more, growing_less, growing_end}
use Rattle.session.specs.Limits.{max_nodes}
use Rattle.worklist.specs.Waiting.{lowest_waiting}
use borrow.Author.Rules.{rules}
use Rattle.growth.proofs.grow.Goals as goal

pub loop-v-init : goal.loop-v-init
loop-v-init c =
    growing_start _ _ _ c.args.net.now.sound _ c.requires.by_index _ c.requires.fresh_len.1 c.requires.fresh_len.2 c.requires.by_index_2

pub loop-v-smaller : goal.loop-v-smaller
loop-v-smaller c =
    growing_less _ _ _ c.args.net.now.sound _ c.requires.by_index _ c.loop-v.invariant c.in-Some.ensures.1 c.if-v-net.true c.spread.ensures

pub loop-v-preserved : goal.loop-v-preserved
loop-v-preserved c =
    growing_more _ _ _ c.args.net.now.sound _ c.requires.by_index _ c.loop-v.invariant c.spread.ensures

pub returns-in-loop-v : goal.returns-in-loop-v
returns-in-loop-v c =
    let none : lowest_waiting c.loop-v.waiting ≡ max_nodes = search rules in
    growing_end _ _ _ c.args.net.now.sound _ c.requires.by_index _ c.loop-v.invariant (omega (arith, none, c.args.net.now.sound.few_nodes))

pub returns-else-v-net : goal.returns-else-v-net
returns-else-v-net c =
    growing_end _ _ _ c.args.net.now.sound _ c.requires.by_index _ c.loop-v.invariant (omega (arith, c.in-Some.ensures.1, c.if-v-net.false))
