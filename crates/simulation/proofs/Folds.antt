-- A loop that tests each number below a bound and keeps 0 until a test fails: how it begins, goes on and ends.
use Prim.Native.Nat.{ℕ, ◌+◌, ◌<◌, ◌≤◌}
use native.Mathlib.Numerals.{add-one}
use native.Mathlib.Omega.{arith}
use mathlib.Core.Path.{◌≡◌, refl, ap, ◌∙◌}
use mathlib.Core.Bool.{true, false}
use lib.Dec.{eqb}
use Rattle.simulation.specs.Sets.{Set, all_below}

-- no fault is noted just where the first k numbers pass
pub record Folded (P : Set) (n faults k : ℕ) : Type 0 where
  pub inside : k ≤ n
  pub passed : eqb faults 0 ≡ all_below k P

module _ (P : Set) (n : ℕ) where
  pub fold_start : Folded P n 0 0
  unfolding all_below
  fold_start = record { inside = omega arith; passed = refl }

  pub fold_pass : (faults k : ℕ) → Folded P n faults k → k < n → P k ≡ true → Folded P n faults (k + 1)
  unfolding all_below
  fold_pass faults k h l e = record { inside = omega arith; passed = rw (add-one, e) h.passed }

  pub fold_fault : (k : ℕ) → k < n → P k ≡ false → Folded P n 1 (k + 1)
  unfolding all_below
  fold_fault k l e = record { inside = omega arith; passed = rw (add-one, e) }

  pub fold_end : (faults k : ℕ) → Folded P n faults k → n ≤ k → eqb faults 0 ≡ all_below n P
  fold_end faults k h l =
      let whole : k ≡ n = omega (arith, h.inside) in
      h.passed ∙ ap (λ (m : ℕ). all_below m P) whole
