-- 02, Job 6: a trigger of at most k states needs k bits, in the session's memory too, and its marks do not depend on the number of places for states that
-- it is held in. Of every k; that of sixteen states, as sessions once had, cites it.
use Prim.Native.Nat.{ℕ, ◌+◌, ◌^◌, ◌<◌, ◌≤◌}
use native.Mathlib.Nat.{lt_of_lt_of_le}
use native.Mathlib.Omega.{arith}
use mathlib.Core.Path.{◌≡◌, sym, ap, subst, ◌∙◌}
use mathlib.Core.Bool.{true, ◌&&◌}
use mathlib.Core.List.{List, [], ◌++◌, append-nil}
use lib.Dec.{ltb}
use lib.ListN.{length, get_or, drop, get_or-eq_default}
use lib.Pow.{pow_pos, pow_mono}
use Rattle.bits.proofs.Words.{word_below}
use Rattle.session.specs.Limits.{max_nodes, inverted_at, masks_at, values_at, links_at, marks_for, marks_at, fixed_size}
use Rattle.session.specs.Trigger.{Trigger, Graph, Marks, states, nodes}
use Rattle.session.specs.Layout.{mark_word, image_for, image, trigger_of, graph_of, marks_in, marks_of, in_layout}
use Rattle.session.specs.Former.{former_states, Narrow, NarrowIn, MarksAsHeld}
use Rattle.session.proofs.Tables.{below_at}
use Rattle.session.proofs.Valid.{TriggerFacts}
use Rattle.session.proofs.Image.{mark_for, mask_word, value_word, link-word, inverted-word, mark_word_lem}
use Rattle.session.proofs.Decoded.{Inside, marks_for_lem, marks-image, LayoutFacts, layout-facts, layout-whole}

pub narrow : (k : ℕ) (t : Trigger) → TriggerFacts t → states t ≤ k → Narrow k t
unfolding mark_word
narrow k t f l =
    let wide : 2 ^ states t ≤ 2 ^ k = pow_mono l in
    record {
      links = λ u. lt_of_lt_of_le (below_at (2 ^ states t) t.links f.links_fit (pow_pos (states t)) u) wide;
      inverted = lt_of_lt_of_le f.inverted_fit wide;
      marks = λ g m v. lt_of_lt_of_le (word_below (states t) (λ u. ltb v (nodes g) && m u v)) wide;
    }

pub narrow_in : (k : ℕ) (xs : List ℕ) → in_layout xs ≡ true → get_or xs 0 0 ≤ k → NarrowIn k xs
narrow_in k xs h l = record {
  links = λ i b. subst (λ (w : ℕ). w < 2 ^ k) (sym (at (links_at + i) ∙ link-word t g m rest i b)) (n.links i);
  inverted = subst (λ (w : ℕ). w < 2 ^ k) (sym (at inverted_at ∙ inverted-word t g m rest)) n.inverted;
  marks = λ v b. subst (λ (w : ℕ). w < 2 ^ k) (sym (at (marks_at + v) ∙ mark_word_lem t g m rest v b)) (n.marks g m v);
  unused = λ i b c. (
    at (masks_at + i) ∙ mask_word t g m rest i c ∙ past t.masks i (omega (arith, few)),
    at (values_at + i) ∙ value_word t g m rest i c ∙ past t.values i (omega (arith, few, f.trigger.values)),
    at (links_at + i) ∙ link-word t g m rest i c ∙ past t.links i (omega (arith, few, f.trigger.links)),
  );
}
  where
    t : Trigger
    t = trigger_of xs

    g : Graph
    g = graph_of xs

    m : Marks
    m = marks_of xs

    rest : List ℕ
    rest = drop fixed_size xs

    f : LayoutFacts xs
    f = layout-facts xs h

    few : states t ≤ k
    few = subst (λ (x : ℕ). x ≤ k) f.counts.0 l

    n : Narrow k t
    n = narrow k t f.trigger few

    at : (p : ℕ) → get_or xs p 0 ≡ get_or (image t g m ++ rest) p 0
    at p = ap (λ (r : List ℕ). get_or r p 0) (layout-whole xs h)

    past : (ys : List ℕ) (i : ℕ) → length ys ≤ i → get_or ys i 0 ≡ 0
    past ys i b = get_or-eq_default ys 0 b

pub marks_as_held : (k : ℕ) (t : Trigger) (g : Graph) (m : Marks) → nodes g ≤ max_nodes → Inside t g m → MarksAsHeld k t g m
marks_as_held k t g m few inside = record {
  read = ap (marks_in k) (sym (append-nil (image_for k t g m)))
      ∙ marks_for_lem k t g m [] few inside
      ∙ sym (ap marks_of (sym (append-nil (image t g m))) ∙ marks-image t g m [] few inside);
  words = λ v l.
      ap (λ (r : List ℕ). get_or r (marks_for k + v) 0) (sym (append-nil (image_for k t g m)))
      ∙ mark_for k t g m [] v l
      ∙ sym (ap (λ (r : List ℕ). get_or r (marks_at + v) 0) (sym (append-nil (image t g m))) ∙ mark_word_lem t g m [] v l);
}

-- ---- sixteen states

pub older : (t : Trigger) → TriggerFacts t → states t ≤ former_states → Narrow former_states t
older = narrow former_states

pub older_in : (xs : List ℕ) → in_layout xs ≡ true → get_or xs 0 0 ≤ former_states → NarrowIn former_states xs
older_in = narrow_in former_states

pub older_marks : (t : Trigger) (g : Graph) (m : Marks) → nodes g ≤ max_nodes → Inside t g m → MarksAsHeld former_states t g m
older_marks = marks_as_held former_states
