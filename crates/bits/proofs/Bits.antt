-- The laws of one bit of a word: under &, |, ^ and the complement, and of a power of two.
use Prim.Native.Nat.{ℕ, zero, suc, ◌+◌, ◌-◌, ◌*◌, ◌/◌, ◌%◌, ◌^◌, ◌≤◌, ◌<◌, min, max}
use native.Mathlib.Nat.{pow-suc, div-one, zero-div, div-eq_of_lt, zero-lt-suc, min-le_left, lt_of_le_of_lt, lt_of_lt_of_le}
use native.Mathlib.Numerals.{one-add}
use native.Mathlib.Omega.{arith}
use mathlib.Core.Path.{◌≡◌, refl, sym, ap, ap₂, ◌∙◌}
use lib.Arith.{digits_mod, lt-one}
use lib.Pow.{pow_mono, shr-shr}
use lib.Bits.{bit_and, bit_or, bit_xor, differ, and_step, or_step, xor_step, and_shr, or_shr, xor_shr}
use Rattle.bits.specs.Word.{bit}

-- ---- the lowest bit, the others one down, and those of zero

pub bit-zero : (w : ℕ) → bit w 0 ≡ w % 2
bit-zero w = ap (λ (x : ℕ). x % 2) (div-one w)

pub bit-suc : (w i : ℕ) → bit w (suc i) ≡ bit (w / 2) i
bit-suc w i = ap (λ (x : ℕ). x % 2) (sym (shr-shr w 1 i ∙ ap (λ (x : ℕ). w / 2 ^ x) (one-add i)))

pub bit_of_zero : (i : ℕ) → bit 0 i ≡ 0
bit_of_zero i = ap (λ (x : ℕ). x % 2) (zero-div (2 ^ i))

-- a word of k bits has no bit from k on
pub bit_above : (k w i : ℕ) → w < 2 ^ k → k ≤ i → bit w i ≡ 0
bit_above k w i h l = ap (λ (x : ℕ). x % 2) (div-eq_of_lt (lt_of_lt_of_le h (pow_mono l)))

-- two words of k bits with the same bits are equal
pub same_bits : (k a b : ℕ) → a < 2 ^ k → b < 2 ^ k → ((i : ℕ) → i < k → bit a i ≡ bit b i) → a ≡ b
same_bits zero a b ha hb h = lt-one ha ∙ sym (lt-one hb)
same_bits (suc k) a b ha hb h =
    let ha' : a < 2 ^ k * 2 = rw pow-suc at ha in
    let hb' : b < 2 ^ k * 2 = rw pow-suc at hb in
    let low : a % 2 ≡ b % 2 = sym (bit-zero a) ∙ h 0 (zero-lt-suc k) ∙ bit-zero b in
    let high : a / 2 ≡ b / 2 =
    same_bits k (a / 2) (b / 2) (omega arith) (omega arith)
    (λ i l. sym (bit-suc a i) ∙ h (suc i) (omega arith) ∙ bit-suc b i) in
    omega arith

-- ---- the bits of &, | and ^

low_and : (x y : ℕ) → bit_and x y % 2 ≡ min (x % 2) (y % 2)
low_and x y =
    ap (λ (n : ℕ). n % 2) (and_step x y)
    ∙ digits_mod (bit_and (x / 2) (y / 2)) (lt_of_le_of_lt (min-le_left (x % 2) (y % 2)) (omega arith))

low_or : (x y : ℕ) → bit_or x y % 2 ≡ max (x % 2) (y % 2)
low_or x y = ap (λ (n : ℕ). n % 2) (or_step x y) ∙ digits_mod (bit_or (x / 2) (y / 2)) (omega arith)

differ_lt : (x y : ℕ) → x < 2 → y < 2 → differ x y < 2
differ_lt zero y hx hy = hy
differ_lt (suc zero) zero hx hy = hx
differ_lt (suc zero) (suc y) hx hy = omega arith
differ_lt (suc (suc x)) y hx hy = absurd (omega arith)

low_xor : (x y : ℕ) → bit_xor x y % 2 ≡ differ (x % 2) (y % 2)
low_xor x y =
    ap (λ (n : ℕ). n % 2) (xor_step x y)
    ∙ digits_mod (bit_xor (x / 2) (y / 2)) (differ_lt (x % 2) (y % 2) (omega arith) (omega arith))

pub and-bit : (a b i : ℕ) → bit (bit_and a b) i ≡ min (bit a i) (bit b i)
and-bit a b i = ap (λ (n : ℕ). n % 2) (and_shr a b i) ∙ low_and (a / 2 ^ i) (b / 2 ^ i)

pub or-bit : (a b i : ℕ) → bit (bit_or a b) i ≡ max (bit a i) (bit b i)
or-bit a b i = ap (λ (n : ℕ). n % 2) (or_shr a b i) ∙ low_or (a / 2 ^ i) (b / 2 ^ i)

pub xor_bit : (a b i : ℕ) → bit (bit_xor a b) i ≡ differ (bit a i) (bit b i)
xor_bit a b i = ap (λ (n : ℕ). n % 2) (xor_shr a b i) ∙ low_xor (a / 2 ^ i) (b / 2 ^ i)

-- ---- the bits of a power of two

pow-half : (i : ℕ) → 2 ^ suc i / 2 ≡ 2 ^ i
pow-half i = omega (arith, pow-suc 2 i)

pub pow-same : (i : ℕ) → bit (2 ^ i) i ≡ 1
pow-same zero = refl
pow-same (suc i) = bit-suc (2 ^ suc i) i ∙ ap (λ (x : ℕ). bit x i) (pow-half i) ∙ pow-same i

pub pow_other : (j i : ℕ) → (i ≡ j → ⊥) → bit (2 ^ j) i ≡ 0
pow_other zero zero h = absurd (h refl)
pow_other zero (suc i) h = bit-suc 1 i ∙ bit_of_zero i
pow_other (suc j) zero h = bit-zero (2 ^ suc j) ∙ omega (arith, pow-suc 2 j)
pow_other (suc j) (suc i) h =
    bit-suc (2 ^ suc j) i ∙ ap (λ (x : ℕ). bit x i) (pow-half j) ∙ pow_other j i (λ e. h (ap suc e))

-- ---- the complement within k bits: the bit and its own add up to 1

odd_not : (p a : ℕ) → a < p * 2 → (p * 2 - 1 - a) % 2 + a % 2 ≡ 1
odd_not p a h = omega arith

half-not : (p a : ℕ) → a < p * 2 → (p * 2 - 1 - a) / 2 ≡ p - 1 - a / 2
half-not p a h = omega arith

pub not-bit : (k a i : ℕ) → a < 2 ^ k → i < k → bit (2 ^ k - 1 - a) i + bit a i ≡ 1
not-bit zero a i ha h = absurd (omega arith)
not-bit (suc k) a zero ha h =
    let ha' : a < 2 ^ k * 2 = rw pow-suc at ha in
    ap₂ ◌+◌ (bit-zero (2 ^ suc k - 1 - a) ∙ ap (λ (x : ℕ). (x - 1 - a) % 2) (pow-suc 2 k)) (bit-zero a)
    ∙ odd_not (2 ^ k) a ha'
not-bit (suc k) a (suc i) ha h =
    let half : (2 ^ suc k - 1 - a) / 2 ≡ 2 ^ k - 1 - a / 2 = rw pow-suc (half-not (2 ^ k) a (rw pow-suc at ha)) in
    omega (
      arith,
      bit-suc (2 ^ suc k - 1 - a) i,
      ap (λ (x : ℕ). bit x i) half,
      bit-suc a i,
      not-bit k (a / 2) i (omega (arith, pow-suc 2 k)) (omega arith),
    )
