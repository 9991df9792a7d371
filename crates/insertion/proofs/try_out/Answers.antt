-- The seeds are the whole trial set, and their members are counted; or it is grown from them.
use native.Mathlib.Omega.{arith}
use Prim.Native.Nat.{ℕ}
use mathlib.Core.List.{List}
use mathlib.Core.Path.{◌≡◌, sym, ap, ◌∙◌}
use lib.ListN.{set, get_or}
use lib.Seq.{get_or-set_same, get_or-set_other}
use Rattle.simulation.specs.Sets.{count}
use Rattle.bits.specs.Word.{members, set_bits}
use Rattle.session.specs.Layout.{trigger_of, graph_of, marks_of}
use Rattle.session.proofs.Decoded.{LayoutFacts, layout-facts}
use Rattle.pair_tables.proofs.Tabling.{pairs_single}
use Rattle.promises.specs.Standing.{trial_set}
use Rattle.editing.specs.Steps.{Holds, seeds_of}
use Rattle.trials.proofs.Lonely.{alone-held}
use Rattle.insertion.proofs.try_out.Goals as goal
use Rattle.insertion.proofs.try_out.Goals.{Start, After-links, Else-not-alone}

abbrev facts : (c : After-links) → LayoutFacts c.args.session.now
facts c = layout-facts c.args.session.now c.links.ensures.held

abbrev seeded : Start → List ℕ
seeded c = set c.args.table.now c.args.start c.args.seeds

-- where the seeds are alone
held : (c : Else-not-alone) (b : ℕ)
    → let xs = c.args.session.now in
    members c.args.seeds ≡ seeds_of xs c.args.start b
    → Holds xs (trial_set (trigger_of xs) (graph_of xs) (marks_of xs) c.args.start b) (set c.args.table.now c.args.start c.args.seeds)
held c b is =
    let a = c.args in
    alone-held a.session.now c.links.ensures.held a.start b a.seeds c.linking-able.result c.requires.session_value.0 is _ c.links.ensures.is
    c.linking-able.ensures (sym c.alone.ensures ∙ c.if-not-alone.false) a.table.now c.requires.session_value.1 c.requires.session_value.2

-- the other words are zero
others : (c : Start) (v : ℕ) → (v ≡ c.args.start → ⊥) → get_or (seeded c) v 0 ≡ 0
others c v ne = let a = c.args in get_or-set_other a.table.now a.start v a.seeds 0 ne ∙ c.requires.session_value.2 v

pub linking-able-requires : goal.linking-able-requires
linking-able-requires c =
    let f = (facts (goal.at.linking-able-requires c).After-links).trigger in rw c.links.ensures.is (omega (arith, f.links, f.few))

pub bounds-table-start : goal.bounds-table-start
bounds-table-start c =
    omega (arith, c.requires.session_value.0, c.requires.session_value.1, (facts (goal.at.bounds-table-start c).After-links).graph.few)

pub begin_at-requires : goal.begin_at-requires
begin_at-requires c =
    let h = held (goal.at.begin_at-requires c).Else-not-alone c.requires.by_index.0 c.requires.by_index.1 in
    record {
      session_value = (c.requires.session_value.0, h.long, h.inside);
      by_index = others (goal.at.begin_at-requires c).Start;
    }

pub returns : goal.returns
returns c =
    let a = c.args in
    λ b is.
    let h = held (goal.at.returns c).Else-not-alone b is in
    let f = facts (goal.at.returns c).After-links in
    record {
      trials = set a.table.now a.start a.seeds;
      tried = h;
      left = c.begin_at.ensures;
      counted =
          c.size.ensures
          ∙ ap (λ (w : ℕ). count set_bits (members w)) (sym (get_or-set_same a.table.now a.start a.seeds 0 (omega (arith, c.requires.session_value.0, c.requires.session_value.1, f.graph.few))))
          ∙ sym (pairs_single (seeded (goal.at.returns c).Start) (get_or a.session.now 0 0) (omega (arith, f.counts.0, f.trigger.few)) (λ u v e. omega (arith, (h.inside u v e).0, f.counts.0)) a.start (others (goal.at.returns c).Start) _ (omega (arith, c.requires.session_value.0, f.counts.1)));
    }
