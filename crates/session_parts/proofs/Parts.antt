-- A session in layout: how many links there are, and the mark words are those of the marks that it holds.
use Prim.Native.Nat.{ℕ, ◌+◌, ◌<◌, ◌≤◌}
use native.Mathlib.Omega.{arith}
use mathlib.Core.Path.{◌≡◌, sym, ◌∙◌, ap, fun_ext}
use mathlib.Core.Logic.{⊎_elim}
use mathlib.Core.Bool.{true, ◌&&◌}
use mathlib.Core.List.{List}
use lib.Dec.{ltb}
use lib.ListN.{length, get_or, take, drop, length-take, length-drop}
use lib.Seq.{get_or-take, get_or-drop}
use borrow.Author.Tests.{lt-ltb}
use Rattle.simulation.proofs.Sets.{same, refuted, and_make, and_r}
use Rattle.simulation.proofs.Search.{lt-or-le}
use Rattle.bits.specs.Word.{members}
use Rattle.bits.proofs.Words.{word-members}
use Rattle.session.specs.Limits.{max_states, marks_at, fixed_size, max_nodes}
use Rattle.session.specs.Trigger.{Trigger, Graph, states, nodes}
use Rattle.session.specs.Layout.{mark_word, trigger_of, graph_of, marks_of, in_layout}
use Rattle.session.proofs.Decoded.{LayoutFacts, layout-facts, layout_limits, layout-whole}
use Rattle.session.proofs.Image.{mark_word_lem}
use Rattle.pair_tables.specs.Tables.{marked}
use Rattle.pair_tables.proofs.Tabling.{unmarked}

module _ (xs : List ℕ) (h : in_layout xs ≡ true) where
  abbrev facts : LayoutFacts xs
  facts = layout-facts xs h

  -- there are links of at least one state, and of no more than there may be
  pub held-links : (0 < length (trigger_of xs).links) × (length (trigger_of xs).links ≤ max_states)
  held-links = rw facts.trigger.links (facts.trigger.some, facts.trigger.few)

  -- the mark words are those of the marks that are held
  abbrev t : Trigger
  t = trigger_of xs

  abbrev g : Graph
  g = graph_of xs

  mark_is : (u v : ℕ) → v < max_nodes → members (get_or xs (marks_at + v) 0) u ≡ (ltb u (states t) && (ltb v (nodes g) && marks_of xs u v))
  unfolding mark_word
  mark_is u v l =
      ap (λ (ys : List ℕ). members (get_or ys (marks_at + v) 0) u) (layout-whole xs h)
      ∙ ap (λ (w : ℕ). members w u) (mark_word_lem t g (marks_of xs) (drop fixed_size xs) v l)
      ∙ word-members (states t) (λ u. ltb v (nodes g) && marks_of xs u v) u

  pub marks-long : length (take max_nodes (drop marks_at xs)) ≡ max_nodes
  marks-long = length-take max_nodes (drop marks_at xs) ∙ omega (arith, length-drop marks_at xs, layout_limits xs h)

  pub held-marks : marked (take max_nodes (drop marks_at xs)) ≡ marks_of xs
  held-marks = fun_ext (λ u. fun_ext (λ v. ⊎_elim (near u v) (far u v) (lt-or-le v max_nodes)))
    where
      near : (u v : ℕ) → v < max_nodes → marked (take max_nodes (drop marks_at xs)) u v ≡ marks_of xs u v
      near u v l =
          ap (λ (w : ℕ). members w u) (get_or-take max_nodes (drop marks_at xs) v 0 l ∙ get_or-drop marks_at xs v 0)
          ∙ mark_is u v l
          ∙ same (ltb u (states t) && (ltb v (nodes g) && marks_of xs u v)) (marks_of xs u v)
          (λ e. and_r (ltb v (nodes g)) (marks_of xs u v) (and_r (ltb u (states t)) (ltb v (nodes g) && marks_of xs u v) e))
          (λ e. let i = facts.inside u v e in and_make (lt-ltb u (states t) i.0) (and_make (lt-ltb v (nodes g) i.1) e))

      far : (u v : ℕ) → max_nodes ≤ v → marked (take max_nodes (drop marks_at xs)) u v ≡ marks_of xs u v
      far u v l =
          unmarked (take max_nodes (drop marks_at xs)) u v (omega (arith, length-take max_nodes (drop marks_at xs)))
          ∙ sym (refuted (marks_of xs u v) (λ e. absurd (omega (arith, (facts.inside u v e).1, facts.graph.few))))
