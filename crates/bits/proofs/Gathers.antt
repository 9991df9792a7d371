-- The members of several words together: one word more, and what a comparison of all of them at once says of each.
use Prim.Native.Nat.{ℕ, ◌+◌, ◌-◌, ◌^◌, ◌<◌}
use native.Mathlib.Numerals.{add-one}
use native.Mathlib.Omega.{arith}
use mathlib.Core.Path.{◌≡◌, sym, ap, ap₂, fun_ext, ◌∙◌}
use mathlib.Core.Bool.{Bool, false, not, ◌||◌, or_comm}
use mathlib.Core.List.{List}
use lib.Bits.{bit_or}
use lib.Dec.{ltb, eqb}
use lib.ListN.{length, get_or}
use borrow.Author.Tests.{ltb-true, lt-ltb, eqb-true, eq-eqb}
use Rattle.simulation.specs.Sets.{Set, In, any_below, all_below}
use Rattle.simulation.proofs.Sets.{clash, same, refuted, any_make, any_take, all_make, all_take, implies_make, implies_take}
use Rattle.bits.specs.Word.{members, within}
use Rattle.bits.proofs.Words.{zero-members, members-below, below-members, same-members, or-members, full-members}

-- ---- the members of n sets together, gathered one by one

abbrev pub gathers : ℕ → (ℕ → Set) → Set
gathers n X i = any_below n (λ k. X k i)

module _ (X : ℕ → Set) where
  pub gather_none : members 0 ≡ gathers 0 X
  unfolding any_below
  gather_none = fun_ext zero-members

  pub gather_more : (all w k : ℕ) → members all ≡ gathers k X → members w ≡ X k → members (bit_or all w) ≡ gathers (k + 1) X
  unfolding any_below
  gather_more all w k e h =
      or-members all w
      ∙ fun_ext
      (λ i.
      or_comm (members all i) (members w i)
      ∙ ap₂ (λ (Y Z : Set). Y i || Z i) h e
      ∙ ap (λ (n : ℕ). any_below n (λ k. X k i)) (sym (add-one k)))

  pub gather_pass : (all k : ℕ) → members all ≡ gathers k X → ((i : ℕ) → X k i ≡ false) → members all ≡ gathers (k + 1) X
  unfolding any_below
  gather_pass all k e h =
      e
      ∙ fun_ext
      (λ i.
      ap (λ (t : Bool). t || any_below k (λ k. X k i)) (sym (h i))
      ∙ ap (λ (n : ℕ). any_below n (λ k. X k i)) (sym (add-one k)))

-- ---- the members of the words of a list

module _ (g : ℕ) (xs : List ℕ) (e : members g ≡ gathers (length xs) (λ k. members (get_or xs k 0))) where
  -- those of each are among them
  each : (q : ℕ) → q < length xs → (i : ℕ) → In (members (get_or xs q 0)) i → In (members g) i
  each q l i m = ap (λ (X : Set). X i) e ∙ any_make (length xs) (λ k. members (get_or xs k 0) i) q l m

  some : (i : ℕ) → In (members g) i → (q : ℕ) × (q < length xs) × In (members (get_or xs q 0)) i
  some i m = any_take (length xs) (λ k. members (get_or xs k 0) i) (ap (λ (X : Set). X i) (sym e) ∙ m)

  -- all of them are below k just where each word has k bits
  pub gathered_below : (n k : ℕ) → g < 2 ^ n → within n g (2 ^ k - 1) ≡ all_below (length xs) (λ q. ltb (get_or xs q 0) (2 ^ k))
  unfolding within
  gathered_below n k h =
      same (within n g (2 ^ k - 1)) (all_below (length xs) fit)
      (λ a.
      all_make (length xs) fit
      (λ q l.
      lt-ltb (get_or xs q 0) (2 ^ k)
      (below-members k (get_or xs q 0)
      (λ i m.
      let inside = each q l i m in
      ltb-true i k
      (sym (full i)
      ∙ implies_take (members g i) (members (2 ^ k - 1) i) (all_take n held a i (members-below n g h i inside)) inside)))))
      (λ a.
      all_make n held
      (λ i l.
      implies_make (members g i) (members (2 ^ k - 1) i)
      (λ m.
      let r = some i m in
      full i
      ∙ lt-ltb i k
      (members-below k (get_or xs r.0 0) (ltb-true (get_or xs r.0 0) (2 ^ k) (all_take (length xs) fit a r.0 r.1)) i
      r.2))))
    where
      fit : Set
      fit q = ltb (get_or xs q 0) (2 ^ k)

      held : Set
      held i = not (members g i) || members (2 ^ k - 1) i

      full : (i : ℕ) → members (2 ^ k - 1) i ≡ ltb i k
      full i = ap (λ (X : Set). X i) (full-members k)

  -- there are none just where each word is zero
  pub gathered_zero : eqb g 0 ≡ all_below (length xs) (λ q. ltb (get_or xs q 0) 1)
  gathered_zero =
      same (eqb g 0) (all_below (length xs) fit)
      (λ a.
      all_make (length xs) fit
      (λ q l.
      lt-ltb (get_or xs q 0) 1
      (below-members 0 (get_or xs q 0)
      (λ i m. clash (each q l i m) (ap (λ (w : ℕ). members w i) (eqb-true g 0 a) ∙ zero-members i)))))
      (λ a.
      eq-eqb g 0
      (same-members g 0
      (fun_ext
      (λ i.
      refuted (members g i)
      (λ m.
      let r = some i m in
      let w = get_or xs r.0 0 in
      omega (
        arith,
        members-below 0 w (ltb-true w 1 (all_take (length xs) fit a r.0 r.1)) i r.2,
      ))
      ∙ sym (zero-members i)))))
    where
      fit : Set
      fit q = ltb (get_or xs q 0) 1
