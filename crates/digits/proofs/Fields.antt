-- A word in fields of j + k bits: a mask keeps the lowest k bits of each.
use Prim.Native.Nat.{ℕ, zero, suc, ◌+◌, ◌-◌, ◌*◌, ◌/◌, ◌%◌, ◌^◌, ◌<◌}
use native.Mathlib.Omega.{arith}
use native.Mathlib.Nat.{mod-lt, lt_of_lt_of_le, add_comm}
use mathlib.Core.Path.{◌≡◌, refl, sym, ap, ap₂, ◌∙◌}
use lib.Bits.{bit_and, and_block, and_mask, and_zero_r}
use lib.Pow.{pow_pos, pow_mono, split, high, low, field, shr-shr, mod-mod-pow, ones_lt}

-- the mask of m fields
unfoldable pub mask : (j k m : ℕ) → ℕ
mask j k zero = 0
mask j k (suc m) = mask j k m * 2 ^ (j + k) + (2 ^ k - 1)

-- what it keeps of a word
unfoldable pub kept : (j k m x : ℕ) → ℕ
kept j k zero x = 0
kept j k (suc m) x = kept j k m (x / 2 ^ (j + k)) * 2 ^ (j + k) + x % 2 ^ k

pub mask-keeps : (j k m x : ℕ) → bit_and x (mask j k m) ≡ kept j k m x
unfolding mask kept
mask-keeps j k zero x = and_zero_r x
mask-keeps j k (suc m) x =
    let w = j + k in
    let top = x / 2 ^ w in
    let lowest = x % 2 ^ w in
    let few : 2 ^ k - 1 < 2 ^ w = lt_of_lt_of_le (ones_lt k) (pow_mono (omega arith)) in
    let apart : bit_and (top * 2 ^ w + lowest) (mask j k (suc m)) ≡ bit_and top (mask j k m) * 2 ^ w + bit_and lowest (2 ^ k - 1) =
    and_block w top (mask j k m) lowest (2 ^ k - 1) (mod-lt x (pow_pos w)) few in
    let here : bit_and lowest (2 ^ k - 1) ≡ x % 2 ^ k = and_mask lowest k ∙ mod-mod-pow x j k in
    rw (split x w) at apart ∙ ap₂ (λ (a b : ℕ). a * 2 ^ w + b) (mask-keeps j k m top) here

-- a lowest field f and the fields r above it
module _ (j k m r f : ℕ) (fits : f < 2 ^ (j + k)) where
  abbrev fields : ℕ
  fields = r * 2 ^ (j + k) + f

  pub kept-lowest : kept j k (suc m) fields ≡ kept j k m r * 2 ^ (j + k) + f % 2 ^ k
  unfolding kept
  kept-lowest =
      ap₂ (λ (a b : ℕ). kept j k m a * 2 ^ (j + k) + b) (high r (j + k) fits)
      (sym (mod-mod-pow fields j k) ∙ ap (λ (n : ℕ). n % 2 ^ k) (low r (j + k) fits))

  -- shifted by i, where the field has room for i bits beside the k
  module _ (i h : ℕ) (room : j + k ≡ h + (k + i)) where
    upper : fields / 2 ^ i / 2 ^ (j + k) ≡ r / 2 ^ i
    upper = rw (shr-shr fields i (j + k), add_comm i (j + k), ← shr-shr fields (j + k) i, high r (j + k) fits) refl

    cut : fields % 2 ^ (k + i) ≡ f % 2 ^ (k + i)
    cut =
        sym (mod-mod-pow fields h (k + i)) ∙ ap (λ (n : ℕ). fields % 2 ^ n % 2 ^ (k + i)) (sym room)
        ∙ ap (λ (n : ℕ). n % 2 ^ (k + i)) (low r (j + k) fits)

    pub kept_shifted : kept j k (suc m) (fields / 2 ^ i) ≡ kept j k m (r / 2 ^ i) * 2 ^ (j + k) + f / 2 ^ i % 2 ^ k
    unfolding kept
    kept_shifted =
        ap₂ (λ (a b : ℕ). kept j k m a * 2 ^ (j + k) + b) upper
        (sym (field fields k i) ∙ ap (λ (n : ℕ). n / 2 ^ i) cut ∙ field f k i)
