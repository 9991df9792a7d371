-- The seeds are fresh, and the trial set is grown from them.
use native.Mathlib.Omega.{arith}
use mathlib.Core.Path.{refl}
use lib.ListN.{replicate}
use Rattle.session.proofs.Decoded.{LayoutFacts, layout-facts}
use Rattle.pair_tables.proofs.Zeros.{zeros}
use Rattle.refinement.proofs.Systems.{held_sound}
use Rattle.trials.proofs.Trying.{seeded, seeds-fit, trial-held}
use Rattle.session.specs.Limits.{max_nodes}
use Rattle.worklist.specs.Waiting.{waiting_words}
use Rattle.bits.specs.Word.{set_bits}
use Rattle.trials.proofs.try_pairs.Goals as goal
use Rattle.trials.proofs.try_pairs.Goals.{After-nodes-nodes}

abbrev facts : (c : After-nodes-nodes) → LayoutFacts c.args.session.now
facts c = layout-facts c.args.session.now c.nodes-nodes.ensures.held

pub fresh_pairs-requires : goal.fresh_pairs-requires
fresh_pairs-requires c =
    (refl, zeros max_nodes)

pub put_in-requires : goal.put_in-requires
put_in-requires c =
    (refl, omega (arith, c.requires.session_value.0, (facts (goal.at.put_in-requires c).After-nodes-nodes).graph.few))

pub bounds-table-start : goal.bounds-table-start
bounds-table-start c =
    omega (arith, c.requires.session_value.0, c.requires.session_value.1, (facts (goal.at.bounds-table-start c).After-nodes-nodes).graph.few)

pub index_callers-requires : goal.index_callers-requires
index_callers-requires c =
    let f = (facts (goal.at.index_callers-requires c).After-nodes-nodes).trigger in
    (rw c.links-links.ensures.is (omega (arith, f.links, f.few)), refl, zeros set_bits)

pub invariant_of-net : goal.invariant_of-net
invariant_of-net c =
    record {
      sound = rw c.nodes-nodes.ensures.is (held_sound c.args.session.now c.nodes-nodes.ensures.held _ _ c.links-links.ensures.is c.edges.ensures.is);
      called = c.index_callers.ensures;
      started = tt;
      indexed = tt;
    }

pub grow-requires-clause-by_index : goal.grow-requires-clause-by_index
grow-requires-clause-by_index c =
    let f = facts (goal.at.grow-requires-clause-by_index c).After-nodes-nodes in
    λ u v e.
    let i = c.fresh_pairs.ensures.inside u v e in
    (rw c.links-links.ensures.is (omega (arith, i.0, f.trigger.links)), omega (arith, c.nodes-nodes.ensures.is, i.1, f.counts.1))

pub grow-requires-clause-by_index_2 : goal.grow-requires-clause-by_index_2
grow-requires-clause-by_index_2 c =
    let a = c.args in
    let fresh = c.fresh_pairs.ensures in
    seeds-fit a.session.now c.nodes-nodes.ensures.held a.start c.requires.indexed.1.0 a.seeds c.requires.session_value.0 c.requires.indexed.1.1 a.table.now c.requires.session_value.1 c.requires.session_value.2
    c.fresh_pairs.new.table (replicate waiting_words 0) c.put_in.new.waiting fresh c.put_in.ensures.1

pub returns : goal.returns
returns c =
    let a = c.args in
    λ b is.
    trial-held a.session.now c.nodes-nodes.ensures.held a.start b _ _ _ _ _ c.links-links.ensures.is c.edges.ensures.is c.fresh_pairs.ensures
    (seeded a.session.now c.nodes-nodes.ensures.held a.start b a.seeds c.requires.session_value.0 is a.table.now c.requires.session_value.1 c.requires.session_value.2)
    (rw c.nodes-nodes.ensures.is at c.grow.ensures)
