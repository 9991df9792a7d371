-- The rules of an edit, row by row.
use Prim.Native.Nat.{ℕ, ◌<◌, ◌≤◌}
use native.Mathlib.Omega.{arith}
use mathlib.Core.Path.{◌≡◌, refl, ap}
use mathlib.Core.Bool.{Bool, true, false, not, ◌&&◌, ◌||◌}
use mathlib.Core.List.{List, [], ◌∷◌}
use lib.Dec.{ltb, leb}
use lib.ListN.{length, get_or}
use borrow.Author.Tests.{ltb-true, lt-ltb, le-leb, lt-leb, not-false}
use Rattle.simulation.proofs.Sets.{refuted, and_make, and_l, and_r, not_make}
use Rattle.session.specs.Limits.{max_edges, max_changes, fixed_size}
use Rattle.session.specs.Trigger.{nodes, edge}
use Rattle.session.specs.Layout.{graph_of, in_layout}
use Rattle.session.proofs.Decoded.{layout-facts}
use Rattle.promises.specs.Rules.{Rule, rule, verdict, Kind, insertion, deletion, edit_rules}
use Rattle.promises.proofs.Verdicts.{Unbroken, verdict_pass, row-passed, row-broken, rows_end, rows-broken, rows-passed}
use Rattle.editing.specs.Steps.{shared_rules}

module _ (xs : List ℕ) (room a b : ℕ) where
  abbrev short : Bool
  short = ltb (length xs) fixed_size || ltb room max_changes

  abbrev named : Bool
  named = ltb a (nodes (graph_of xs)) && ltb b (nodes (graph_of xs))

  -- ---- the rules that both edits share

  pub shared_short : (r : Bool) → r ≡ (ltb (length xs) fixed_size || ltb room max_changes) → r ≡ true → 3 ≡ verdict (shared_rules xs room a b)
  shared_short r e h = row-broken 3 short r _ e h

  module _ (r : Bool) (e : r ≡ (ltb (length xs) fixed_size || ltb room max_changes)) (long : r ≡ false) where
    pub shared_loose : not (in_layout xs) ≡ true → 10 ≡ verdict (shared_rules xs room a b)
    shared_loose h = row-passed 3 short r _ e 10 long (row-broken 10 (not (in_layout xs)) (not (in_layout xs)) _ refl h)

    module _ (h : in_layout xs ≡ true) where
      passed : (k : ℕ) → k ≡ verdict (rule 11 (not named) ∷ []) → k ≡ verdict (shared_rules xs room a b)
      passed k z = row-passed 3 short r _ e k long (row-passed 10 (not (in_layout xs)) (not (in_layout xs)) _ refl k (ap not h) z)

      pub shared_start : get_or xs 1 0 ≤ a → 11 ≡ verdict (shared_rules xs room a b)
      shared_start l =
          passed 11 (row-broken 11 (not named) (not named) [] refl
          (not_make (refuted named
          (λ d. absurd (omega (arith, (layout-facts xs h).counts.1, ltb-true a (nodes (graph_of xs)) (and_l (ltb a (nodes (graph_of xs))) (ltb b (nodes (graph_of xs))) d)))))))

      pub shared_end : get_or xs 1 0 ≤ b → 11 ≡ verdict (shared_rules xs room a b)
      shared_end l =
          passed 11 (row-broken 11 (not named) (not named) [] refl
          (not_make (refuted named
          (λ d. absurd (omega (arith, (layout-facts xs h).counts.1, ltb-true b (nodes (graph_of xs)) (and_r (ltb a (nodes (graph_of xs))) (ltb b (nodes (graph_of xs))) d)))))))

      pub shared_none : a < get_or xs 1 0 → b < get_or xs 1 0 → 0 ≡ verdict (shared_rules xs room a b)
      shared_none l k =
          passed 0 (row-passed 11 (not named) (not named) [] refl 0
          (ap not (and_make (lt-ltb a (nodes (graph_of xs)) (omega (arith, (layout-facts xs h).counts.1))) (lt-ltb b (nodes (graph_of xs)) (omega (arith, (layout-facts xs h).counts.1)))))
          rows_end)

  -- ---- and those of each

  abbrev own : Kind → List Rule
  own insertion = rule 12 (edge (graph_of xs) a b) ∷ rule 13 (leb max_edges (length (graph_of xs).edges)) ∷ []
  own deletion = rule 14 (not (edge (graph_of xs) a b)) ∷ []

  pub edit-broken : (k : Kind) (n : ℕ) → n ≡ verdict (shared_rules xs room a b) → (n ≡ 0 → ⊥) → n ≡ verdict (edit_rules k xs room a b)
  edit-broken insertion = rows-broken (shared_rules xs room a b) (own insertion)
  edit-broken deletion = rows-broken (shared_rules xs room a b) (own deletion)

  module _ (z : verdict (shared_rules xs room a b) ≡ 0) where
    unbroken : Unbroken (shared_rules xs room a b)
    unbroken =
        let first = verdict_pass 3 short _ (omega arith) z in
        let second = verdict_pass 10 (not (in_layout xs)) _ (omega arith) first.1 in
        let third = verdict_pass 11 (not named) [] (omega arith) second.1 in
        (first.0, (second.0, (third.0, tt)))

    pub shared_passed : (in_layout xs ≡ true) × (a < nodes (graph_of xs)) × (b < nodes (graph_of xs))
    shared_passed =
        let both = not-false named unbroken.1.1.0 in (
          not-false (in_layout xs) unbroken.1.0,
          ltb-true a (nodes (graph_of xs)) (and_l (ltb a (nodes (graph_of xs))) (ltb b (nodes (graph_of xs))) both),
          ltb-true b (nodes (graph_of xs)) (and_r (ltb a (nodes (graph_of xs))) (ltb b (nodes (graph_of xs))) both),
        )

    module _ (r : Bool) (e : r ≡ edge (graph_of xs) a b) where
      pub insert_present : r ≡ true → 12 ≡ verdict (edit_rules insertion xs room a b)
      insert_present h = rows-passed (shared_rules xs room a b) (own insertion) 12 unbroken (row-broken 12 (edge (graph_of xs) a b) r _ e h)

      module _ (new : r ≡ false) where
        absent : (k : ℕ) → k ≡ verdict (rule 13 (leb max_edges (length (graph_of xs).edges)) ∷ []) → k ≡ verdict (edit_rules insertion xs room a b)
        absent k y = rows-passed (shared_rules xs room a b) (own insertion) k unbroken (row-passed 12 (edge (graph_of xs) a b) r _ e k new y)

        pub insert-full : max_edges ≤ get_or xs 2 0 → 13 ≡ verdict (edit_rules insertion xs room a b)
        insert-full l =
            absent 13 (row-broken 13 _ _ [] refl (le-leb max_edges (length (graph_of xs).edges) (omega (arith, (layout-facts xs shared_passed.0).counts.2))))

        pub insert-none : get_or xs 2 0 < max_edges → 0 ≡ verdict (edit_rules insertion xs room a b)
        insert-none l =
            absent 0 (row-passed 13 _ _ [] refl 0 (lt-leb max_edges (length (graph_of xs).edges) (omega (arith, (layout-facts xs shared_passed.0).counts.2))) rows_end)

      pub delete_absent : not r ≡ true → 14 ≡ verdict (edit_rules deletion xs room a b)
      delete_absent h = rows-passed (shared_rules xs room a b) (own deletion) 14 unbroken (row-broken 14 (not (edge (graph_of xs) a b)) (not r) [] (ap not e) h)

      pub delete_none : not r ≡ false → 0 ≡ verdict (edit_rules deletion xs room a b)
      delete_none h = rows-passed (shared_rules xs room a b) (own deletion) 0 unbroken (row-passed 14 (not (edge (graph_of xs) a b)) (not r) [] (ap not e) 0 h rows_end)
