-- The laws of `first` and `found`: how a search begins, goes on and ends, and what its answer says.
use Prim.Native.Nat.{ℕ, zero, suc, ◌+◌, ◌-◌, ◌<◌, ◌≤◌}
use native.Mathlib.Nat.{eq-or-lt_of_le}
use native.Mathlib.Omega.{arith}
use lib.Dec.{ltb}
use borrow.Author.Tests.{ltb-true, ltb-false, lt-ltb, le-ltb}
use mathlib.Core.Path.{◌≡◌, refl, sym, ◌∙◌, ap}
use mathlib.Core.Logic.{◌⊎◌, inl, inr, ⊎_elim}
use mathlib.Core.Bool.{Bool, true, false, cond}
use Rattle.simulation.specs.Sets.{Set}
use Rattle.simulation.specs.Search.{first_of, first, found}
use Rattle.simulation.proofs.Sets.{clash, split}

pub lt-or-le : (a b : ℕ) → (a < b) ⊎ (b ≤ a)
lt-or-le a b = ⊎_elim (λ e. inl (ltb-true a b e)) (λ e. inr (ltb-false a b e)) (split (ltb a b))

module _ (P : Set) where
  -- ---- the first index

  pub first-end : (i n : ℕ) → n ≤ i → first P i n ≡ i
  unfolding first first_of
  first-end i n h =
      let none : n - i ≡ 0 = omega arith in
      rw none

  next : (i n : ℕ) → i < n → first P i n ≡ cond (P i) i (first P (i + 1) n)
  unfolding first first_of
  next i n h =
      let more : n - i ≡ suc (n - (i + 1)) = omega arith in
      ap (first_of P i) more

  pub first-here : (i n : ℕ) → i < n → P i ≡ true → first P i n ≡ i
  first-here i n h t = next i n h ∙ ap (λ (b : Bool). cond b i (first P (i + 1) n)) t

  pub first_on : (i n : ℕ) → i < n → P i ≡ false → first P i n ≡ first P (i + 1) n
  first_on i n h t = next i n h ∙ ap (λ (b : Bool). cond b i (first P (i + 1) n)) t

  cond-within : (b : Bool) (x y l m : ℕ) → (l ≤ x) × (x ≤ m) → (l ≤ y) × (y ≤ m) → (l ≤ cond b x y) × (cond b x y ≤ m)
  cond-within true x y l m p q = p
  cond-within false x y l m p q = q

  within : (k i : ℕ) → (i ≤ first_of P i k) × (first_of P i k ≤ i + k)
  unfolding first_of
  within zero i = omega arith
  within (suc k) i =
      let r = within k (i + 1) in
      cond-within (P i) i (first_of P (i + 1) k) i (i + suc k) (omega arith) (omega arith)

  pub first-le : (i n : ℕ) → i ≤ n → first P i n ≤ n
  unfolding first
  first-le i n h = omega (arith, within (n - i) i)

  pub first-from : (i n : ℕ) → i ≤ first P i n
  unfolding first
  first-from i n = (within (n - i) i).0

  before : (f i k : ℕ) → i ≤ k → k < first_of P i f → P k ≡ false
  unfolding first_of
  before zero i k h l = absurd (omega arith)
  before (suc f) i k h l = by (P i) refl l (λ m. before f (i + 1) k m)
    where
      by : (b : Bool) → P i ≡ b → k < cond b i (first_of P (i + 1) f) → (i + 1 ≤ k → k < first_of P (i + 1) f → P k ≡ false) → P k ≡ false
      by true e m ih = absurd (omega arith)
      by false e m ih = ⊎_elim (λ q. ap P (sym q) ∙ e) (λ q. ih (omega arith) m) (eq-or-lt_of_le h)

  at : (f i : ℕ) → first_of P i f < i + f → P (first_of P i f) ≡ true
  unfolding first_of
  at zero i l = absurd (omega arith)
  at (suc f) i l = by (P i) refl l (λ m. at f (i + 1) m)
    where
      by : (b : Bool) → P i ≡ b → cond b i (first_of P (i + 1) f) < i + suc f → (first_of P (i + 1) f < i + 1 + f → P (first_of P (i + 1) f) ≡ true)
          → P (cond b i (first_of P (i + 1) f)) ≡ true
      by true e m ih = e
      by false e m ih = ih (omega arith)

  -- below the answer P fails, and at it P holds
  pub first-before : (i n k : ℕ) → i ≤ k → k < first P i n → P k ≡ false
  unfolding first
  first-before i n k h l = before (n - i) i k h l

  pub first-at : (i n : ℕ) → i ≤ n → first P i n < n → P (first P i n) ≡ true
  unfolding first
  first-at i n h l = at (n - i) i (omega arith)

  -- ---- whether there is one

  pub found-end : (i n : ℕ) → n ≤ i → found P i n ≡ false
  unfolding found
  found-end i n h = ap (λ (x : ℕ). ltb x n) (first-end i n h) ∙ le-ltb i n h

  pub found_here : (i n : ℕ) → i < n → P i ≡ true → found P i n ≡ true
  unfolding found
  found_here i n h t = ap (λ (x : ℕ). ltb x n) (first-here i n h t) ∙ lt-ltb i n h

  pub found_on : (i n : ℕ) → i < n → P i ≡ false → found P i n ≡ found P (i + 1) n
  unfolding found
  found_on i n h t = ap (λ (x : ℕ). ltb x n) (first_on i n h t)

  pub found_make : (i n k : ℕ) → i ≤ k → k < n → P k ≡ true → found P i n ≡ true
  unfolding found
  found_make i n k h l t =
      ⊎_elim
      (λ m. clash t (first-before i n k h m))
      (λ (m : first P i n ≤ k). lt-ltb (first P i n) n (omega arith))
      (lt-or-le k (first P i n))

  pub found_take : (i n : ℕ) → found P i n ≡ true → (k : ℕ) × (i ≤ k) × (k < n) × (P k ≡ true)
  unfolding found
  found_take i n h =
      let l = ltb-true (first P i n) n h in
      let b = first-from i n in
      (first P i n, b, l, first-at i n (omega arith) l)
