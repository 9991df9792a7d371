-- Packing has an inverse.
use Prim.Native.Nat.{ℕ, ◌/◌, ◌%◌, ◌<◌}
use native.Mathlib.Omega.{arith}
use mathlib.Core.Path.{◌≡◌, refl, ap}
use mathlib.Core.Bool.{Bool, true, false}
use borrow.Author.Tests.{ne_eqb}
use Rattle.promises.specs.Answers.{Outcome, accepted, refused, Summary}
use Rattle.answer_numbers.specs.Packed.{count_span, yes_at, fields, packing, packed, packed_yes, packed_count, rule_part, yes_part, trials_part, changes_part, unpacking, unpacked, unpacked_yes, unpacked_count, Fitting, Fits, FitsYes, FitsCount}

-- ---- the parts of an accepted answer

fields-rule : (flag : Bool) (t c : ℕ) → rule_part (fields flag t c) ≡ 0
unfolding fields
fields-rule true t c = omega arith
fields-rule false t c = omega arith

fields_yes : (flag : Bool) (t c : ℕ) → yes_part (fields flag t c) ≡ flag
unfolding fields
fields_yes true t c = let z : (fields true t c / yes_at) % 2 ≡ 1 = omega arith in rw z refl
fields_yes false t c = let z : (fields false t c / yes_at) % 2 ≡ 0 = omega arith in rw z refl

fields-trials : (flag : Bool) (t c : ℕ) → t < count_span → trials_part (fields flag t c) ≡ t
unfolding fields
fields-trials true t c l = omega arith
fields-trials false t c l = omega arith

fields-changes : (flag : Bool) (t c : ℕ) → c < count_span → changes_part (fields flag t c) ≡ c
unfolding fields
fields-changes true t c l = omega arith
fields-changes false t c l = omega arith

-- ---- the inverse, for every kind of answer whose parts are read back from its number

module _ {A : Type 0} (number : A → ℕ) (part : ℕ → A) (F : A → Type 0)
    (clear : (a : A) → rule_part (number a) ≡ 0) (back : (a : A) → F a → part (number a) ≡ a) where
  pub unpacking-packing : (o : Outcome A) → Fitting F o → unpacking part (packing number o) ≡ o
  unfolding unpacking
  unpacking-packing (accepted a) f = rw (clear a) (ap accepted (back a f))
  unpacking-packing (refused n) f =
      let z : rule_part n ≡ n = omega (arith, f.1) in
      rw (z, ne_eqb n 0 (λ (e : n ≡ 0). absurd (omega (arith, f.0)))) refl

pub unpacked-packed : (o : Outcome Summary) → Fits o → unpacked (packed o) ≡ o
unpacked-packed =
    unpacking-packing _ _ _
    (λ s. fields-rule s.fires s.trials s.changes)
    (λ s f. rw (fields_yes s.fires s.trials s.changes, fields-trials s.fires s.trials s.changes f.0, fields-changes s.fires s.trials s.changes f.1) refl)

pub unpacked_yes_lem : (o : Outcome Bool) → FitsYes o → unpacked_yes (packed_yes o) ≡ o
unpacked_yes_lem = unpacking-packing _ _ _ (λ flag. fields-rule flag 0 0) (λ flag f. fields_yes flag 0 0)

pub unpacked-count : (o : Outcome ℕ) → FitsCount o → unpacked_count (packed_count o) ≡ o
unpacked-count = unpacking-packing _ _ _ (λ n. fields-rule false 0 n) (λ n f. fields-changes false 0 n f)
