-- Ascending edges that name nodes: the last start is the greatest, so that the ends are left to be tested.
use Prim.Native.Nat.{ℕ, ◌-◌, ◌/◌, ◌%◌, ◌<◌, ◌≤◌}
use native.Mathlib.Omega.{arith}
use mathlib.Core.Path.{◌≡◌, refl, sym, ap, ◌∙◌}
use mathlib.Core.Logic.{⊎_elim}
use mathlib.Core.Bool.{Bool, true, false, ◌&&◌}
use mathlib.Core.List.{List, [], ◌∷◌}
use lib.Dec.{ltb, eqb}
use lib.ListN.{length, get_or}
use Rattle.std.specs.Prelude.{Some, None}
use Rattle.std.specs.List.{slice_get}
use Rattle.std.proofs.lemmas.Option.{slice_get-get_or, slice_get_within, get_or_from_slice_get}
use borrow.Author.Tests.{lt-ltb, le-ltb, eqb-true, eqb-false}
use Rattle.simulation.specs.Sets.{Set, all_below}
use Rattle.simulation.specs.Ordered.{ascends}
use Rattle.simulation.proofs.Sets.{clash, split, refuted, and_l, all_make, all_take, all_both}
use Rattle.simulation.proofs.Ordered.{rising-take, ascending}
use Rattle.session.specs.Tests.{all_named}
use Rattle.session.specs.Limits.{max_nodes}

-- the last entry of a list, or none
pub no_last : (es : List ℕ) → slice_get es (length es - 1) ≡ None → length es ≡ 0
no_last [] h = refl
no_last (x ∷ xs) h = let e = slice_get-get_or (x ∷ xs) (length (x ∷ xs) - 1) 0 (omega arith) in absurd (cc (h, e))

pub last_here : (es : List ℕ) (x : ℕ) → slice_get es (length es - 1) ≡ Some x → (length es - 1 < length es) × (get_or es (length es - 1) 0 ≡ x)
last_here es x h = (slice_get_within es (length es - 1) x h, get_or_from_slice_get es (length es - 1) x 0 h)

module _ (nodes : ℕ) (es : List ℕ) where
  abbrev starting : Set
  starting k = ltb (get_or es k 0 / max_nodes) nodes

  abbrev pub ending : Set
  ending k = ltb (get_or es k 0 % max_nodes) nodes

  pub none_named : length es ≡ 0 → true ≡ all_named nodes es
  unfolding all_named
  none_named e = sym (all_make (length es) (λ k. starting k && ending k) (λ k l. absurd (omega (arith, e, l))))

  pub start_fails : (k : ℕ) → k < length es → nodes ≤ get_or es k 0 / max_nodes → false ≡ all_named nodes es
  unfolding all_named
  start_fails k l high =
      sym
      (refuted (all_named nodes es)
      (λ h. clash (and_l (starting k) (ending k) (all_take (length es) (λ j. starting j && ending j) h k l)) (le-ltb (get_or es k 0 / max_nodes) nodes high)))

  -- where the last start is a node, the ends decide
  pub ends_decide : ascends es ≡ true → get_or es (length es - 1) 0 / max_nodes < nodes → all_below (length es) ending ≡ all_named nodes es
  unfolding all_named
  ends_decide up low =
      ap (λ (b : Bool). b && all_below (length es) ending) (sym starts)
      ∙ sym (all_both (length es) starting ending)
    where
      before_last : (k : ℕ) → k < length es → get_or es k 0 ≤ get_or es (length es - 1) 0
      before_last k l =
          ⊎_elim
          (λ (e : eqb k (length es - 1) ≡ true). rw (eqb-true k (length es - 1) e) (omega arith))
          (λ (e : eqb k (length es - 1) ≡ false).
          let ne = eqb-false k (length es - 1) e in
          let less = ascending es (rising-take es up) k (length es - 1) (omega (arith, l, ne)) (omega (arith, l)) in
          omega (arith, less))
          (split (eqb k (length es - 1)))

      starts : all_below (length es) starting ≡ true
      starts = all_make (length es) starting (λ k l. lt-ltb (get_or es k 0 / max_nodes) nodes (omega (arith, before_last k l, low)))
