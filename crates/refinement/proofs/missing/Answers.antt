use Rattle.refinement.proofs.Support.{searching_none, searching_more, searching_end, searching_done}
use native.Mathlib.Omega.{arith}
use Rattle.refinement.proofs.missing.Goals as goal

pub links-init : goal.links-init
links-init c =
    let a = c.args in searching_none a.set a.edges.now a.settled.now a.tentative.now

pub loop-k-init : goal.loop-k-init
loop-k-init c =
    (omega arith, c.links.invariant)

pub has-requires : goal.has-requires
has-requires c =
    c.lowest-link.ensures.0

pub loop-k-smaller : goal.loop-k-smaller
loop-k-smaller c =
    omega (arith, c.if-edges-k.false)

pub loop-k-preserved : goal.loop-k-preserved
loop-k-preserved c =
    let a = c.args in
    (omega (arith, c.loop-k.invariant.0), searching_more a.set a.edges.now a.settled.now a.tentative.now c.loop-k.rest c.loop-k.k c.loop-k.invariant.1 (omega (arith, c.if-edges-k.false)) c.difference-rest.result c.difference-rest.ensures)

pub links-smaller : goal.links-smaller
links-smaller c =
    omega (arith, c.if-edges-k.false, c.loop-k.invariant.0)

pub links-preserved : goal.links-preserved
links-preserved c =
    let a = c.args in
    searching_more a.set a.edges.now a.settled.now a.tentative.now c.loop-k.rest c.loop-k.k c.loop-k.invariant.1 (omega (arith, c.if-edges-k.false)) c.difference-rest.result c.difference-rest.ensures

pub returns-after-links : goal.returns-after-links
returns-after-links c =
    let a = c.args in searching_done a.set a.edges.now a.settled.now a.tentative.now c.links.rest c.links.k c.links.invariant c.links-test.false

pub returns-then-edges-k : goal.returns-then-edges-k
returns-then-edges-k c =
    let a = c.args in searching_end a.set a.edges.now a.settled.now a.tentative.now c.loop-k.rest c.loop-k.k c.loop-k.invariant.1 c.if-edges-k.true
