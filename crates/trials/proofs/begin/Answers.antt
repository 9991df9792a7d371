-- The trials are refined beside the marks, from every node that has one, to the end, since there is an index.
use native.Mathlib.Omega.{arith}
use mathlib.Core.Path.{◌≡◌, refl, ◌∙◌, ap}
use mathlib.Core.Bool.{Bool, true, false}
use Rattle.std.specs.Bool.{then_some}
use Rattle.std.specs.Prelude.{IfSome}
use lib.ListN.{length, get_or, replicate}
use borrow.Author.Tests.{ne_eqb}
use Rattle.simulation.proofs.Sets.{or_r, not_make}
use Rattle.session.specs.Layout.{trigger_of}
use Rattle.session.proofs.Decoded.{layout-facts}
use Rattle.worklist.specs.Waiting.{waits, waiting_words}
use Rattle.pair_tables.proofs.Zeros.{zeros}
use Rattle.refinement.proofs.Turns.{sound_below}
use Rattle.refinement.proofs.Settling.{refining_end}
use Rattle.refinement.proofs.Systems.{held_sound}
use Rattle.session_parts.proofs.Parts.{marks-long}
use Rattle.editing.proofs.Refining.{trials-refined}
use Rattle.bits.specs.Word.{set_bits}
use Rattle.edge_indexes.specs.Indexes.{Started, starts_size}
use Rattle.trials.proofs.begin.Goals as goal

-- the index is there only where it was built
if_built : {A : Type 0} (P : A → Type 0) (b : Bool) (x : A) → (b ≡ true → P x) → IfSome (then_some b x) P
if_built P true x holds = holds refl
if_built P false x holds = tt

pub starts_for-built-requires : goal.starts_for-built-requires
starts_for-built-requires c =
    let xs = c.args.session.now in
    let sound = held_sound xs c.nodes-nodes.ensures.held (trigger_of xs).links _ refl c.edges-edges.ensures.is in
    record {
      edges_len_bound = (omega (arith, sound.few_edges), sound.ascend, sound_below _ _ _ sound, refl);
      by_index = zeros starts_size;
    }

pub index_callers-requires : goal.index_callers-requires
index_callers-requires c =
    let f = (layout-facts c.args.session.now c.nodes-nodes.ensures.held).trigger in
    (rw c.links-links.ensures.is (omega (arith, f.links, f.few)), refl, zeros set_bits)

pub invariant_of-net : goal.invariant_of-net
invariant_of-net c =
    record {
      sound = rw c.nodes-nodes.ensures.is (held_sound c.args.session.now c.nodes-nodes.ensures.held _ _ c.links-links.ensures.is c.edges-edges.ensures.is);
      called = c.index_callers.ensures;
      started = rw c.then_some-firsts.ensures (if_built (λ index. Started c.edges-edges.result.now index.now) c.starts_for-built.result _ c.starts_for-built.ensures);
      indexed = rw c.edges-edges.ensures.is c.requires.indexed;
    }

pub refine-requires : goal.refine-requires
refine-requires c =
    (ap length c.marks.ensures.is ∙ marks-long c.args.session.now c.nodes-nodes.ensures.held, c.requires.session_value.0, c.call_all.ensures.0)

pub returns : goal.returns
returns c =
    let xs = c.args.session.now in
    let r = rw c.nodes-nodes.ensures.is at c.refine.ensures in
    let sound = held_sound xs c.nodes-nodes.ensures.held _ _ c.links-links.ensures.is c.edges-edges.ensures.is in
    let few = (layout-facts xs c.nodes-nodes.ensures.held).counts.1 in
    trials-refined xs c.nodes-nodes.ensures.held _ _ c.links-links.ensures.is c.edges-edges.ensures.is _ _ _ _
    (refining_end _ _ _ sound _ _ _ _ _ _ r.refining (rw r.ended at r.lowest) (λ u v e. omega (arith, few, (c.requires.session_value.1 u v e).1)) c.requires.session_value.0)
    c.requires.session_value.0 c.requires.session_value.1 c.marks.ensures.is
    (λ v some. c.call_all.ensures.1 v ∙ or_r (waits (replicate waiting_words 0) v) (not_make (ne_eqb (get_or c.args.table.now v 0) 0 some)))
