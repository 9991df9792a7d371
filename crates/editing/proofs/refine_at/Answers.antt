-- The one node waits, and the table is refined from it.
use native.Mathlib.Omega.{arith}
use mathlib.Core.Path.{refl}
use lib.ListN.{replicate}
use Rattle.session.proofs.Decoded.{layout-facts}
use Rattle.refinement.proofs.Systems.{held_sound}
use Rattle.editing.proofs.Refining.{start-waits, refined-at}
use Rattle.worklist.specs.Waiting.{waiting_words}
use Rattle.editing.proofs.refine_at.Goals as goal

pub put_in-requires : goal.put_in-requires
put_in-requires c =
    (refl, omega (arith, c.requires.0, (layout-facts c.args.session.now c.nodes.ensures.held).graph.few))

pub invariant_of-net : goal.invariant_of-net
invariant_of-net c = record {
  sound = rw c.nodes.ensures.is (held_sound c.args.session.now c.nodes.ensures.held _ _ c.links.ensures.is c.edges.ensures.is);
  called = tt;
  started = tt;
  indexed = tt;
}

pub refine_few-requires-clause-inside : goal.refine_few-requires-clause-inside
refine_few-requires-clause-inside c =
    λ u v e. omega (arith, c.nodes.ensures.is, (layout-facts c.args.session.now c.nodes.ensures.held).counts.1, (c.requires.3 u v e).1)

pub returns : goal.returns
returns c =
    let put = c.put_in in
    refined-at c.args.session.now c.nodes.ensures.held _ _ c.links.ensures.is c.edges.ensures.is _ _ _ _
    (rw c.nodes.ensures.is at c.refine_few.ensures)
    c.requires.2 c.requires.3 c.args.node (start-waits (replicate waiting_words 0) put.new.waiting c.args.node put.ensures.1)
