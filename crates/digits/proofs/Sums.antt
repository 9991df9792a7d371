-- The bytes of digits as sums: of one digit, and of four at once.
use Prim.Native.Nat.{ℕ, ◌+◌, ◌*◌, ◌/◌, ◌%◌, ◌^◌, ◌<◌, ◌≤◌}
use native.Mathlib.Omega.{arith}
use mathlib.Core.Path.{◌≡◌, refl, ap, ◌∙◌}
use mathlib.Core.Logic.{⊎_elim}
use lib.Bits.{bit_and, and_mask}
use Rattle.simulation.proofs.Search.{lt-or-le}
use Rattle.frames.specs.Digits.{letter, place}
use Rattle.frames.proofs.Written.{place_is, place-fits, letter_low, letter_high}
use Rattle.digits.proofs.Fields.{mask, kept, mask-keeps, kept-lowest, kept_shifted}

-- seven more where the digit is above 9
pub letter_sum : (n t : ℕ) → (n < 10 → t ≡ 0) → (10 ≤ n → t ≡ 1) → (48 + n) + 7 * t ≡ letter n
letter_sum n t few many = ⊎_elim figure beyond (lt-or-le n 10)
  where
    figure : n < 10 → (48 + n) + 7 * t ≡ letter n
    figure l = omega (arith, few l, letter_low n l)

    beyond : 10 ≤ n → (48 + n) + 7 * t ≡ letter n
    beyond l = omega (arith, many l, letter_high n l)

pub letter-fits : (n : ℕ) → n < 16 → letter n < 256
letter-fits n l = ⊎_elim (λ (h : n < 10). omega (arith, h, letter_low n h)) (λ (h : 10 ≤ n). omega (arith, l, letter_high n h)) (lt-or-le n 10)

-- ---- two bytes in fields of 16 bits: the digits of each

uppers : (p q : ℕ) → p < 256 → q < 256 → bit_and ((q * 65536 + p) / 2 ^ 4) 0xF000F ≡ q / 16 * 65536 + p / 16
unfolding mask kept
uppers p q lp lq =
    let tail : (0 + q / 16 % 16) * 65536 + p / 16 % 16 ≡ q / 16 * 65536 + p / 16 = omega (arith, lp, lq) in
    mask-keeps 12 4 2 ((q * 65536 + p) / 2 ^ 4) ∙ kept_shifted 12 4 1 q p (omega (arith, lp)) 4 8 refl ∙ tail

lowers : (p q : ℕ) → p < 256 → bit_and (q * 65536 + p) 0xF000F ≡ q % 16 * 65536 + p % 16
unfolding mask kept
lowers p q lp =
    let tail : (0 + q % 16) * 65536 + p % 16 ≡ q % 16 * 65536 + p % 16 = omega arith in
    mask-keeps 12 4 2 (q * 65536 + p) ∙ kept-lowest 12 4 1 q p (omega (arith, lp)) ∙ tail

-- ---- four bytes, a the lowest

abbrev four : (a b c d : ℕ) → ℕ
four a b c d = ((d * 256 + c) * 256 + b) * 256 + a

digits_of : (p q : ℕ) → p < 256 → q < 256
    → bit_and ((q * 65536 + p) / 2 ^ 4) 0xF000F + bit_and (q * 65536 + p) 0xF000F * 2 ^ 8 % 2 ^ 32 ≡ four (p / 16) (p % 16) (q / 16) (q % 16)
digits_of p q lp lq = rw (uppers p q lp lq, lowers p q lp) (omega (arith, lp, lq))

-- their fifth bits
tops : (a b c d : ℕ) → a < 256 → b < 256 → c < 256
    → bit_and (four a b c d / 2 ^ 4) 0x1010101 ≡ four (a / 16 % 2) (b / 16 % 2) (c / 16 % 2) (d / 16 % 2)
unfolding mask kept
tops a b c d la lb lc =
    mask-keeps 7 1 4 (four a b c d / 2 ^ 4) ∙ kept_shifted 7 1 3 ((d * 256 + c) * 256 + b) a la 4 3 refl
    ∙ ap (λ (n : ℕ). n * 256 + a / 16 % 2)
    (kept_shifted 7 1 2 (d * 256 + c) b lb 4 3 refl
    ∙ ap (λ (n : ℕ). n * 256 + b / 16 % 2) (kept_shifted 7 1 1 d c lc 4 3 refl ∙ ap (λ (n : ℕ). n * 256 + c / 16 % 2) (omega arith)))

-- 48 and seven times a bit added to each
sums : (a b c d s t u v : ℕ)
    → four a b c d + 0x30303030 + 7 * four s t u v ≡ ((48 + a) + 7 * s) + 256 * (((48 + b) + 7 * t) + 256 * (((48 + c) + 7 * u) + 256 * ((48 + d) + 7 * v)))
sums a b c d s t u v = omega arith

-- ---- the steps of the code

module _ (x : ℕ) where
  abbrev bytes : ℕ
  bytes = bit_and (x / 2 ^ 8) 255 + bit_and x 255 * 2 ^ 16 % 2 ^ 32

  abbrev places : ℕ
  places = bit_and (bytes / 2 ^ 4) 0xF000F + bit_and bytes 0xF000F * 2 ^ 8 % 2 ^ 32

  abbrev raised : ℕ
  raised = bit_and ((places + 0x6060606) / 2 ^ 4) 0x1010101

  bytes_are : bytes ≡ x % 256 * 65536 + x / 256 % 256
  bytes_are = omega (arith, and_mask (x / 2 ^ 8) 8, and_mask x 8)

  pub bytes_fit : bytes < 2 ^ 24
  bytes_fit = omega (arith, bytes_are)

  places_are : places ≡ four (place x 3) (place x 2) (place x 1) (place x 0)
  places_are =
      let p = x / 256 % 256 in
      let q = x % 256 in
      let d₃ : p / 16 ≡ place x 3 = omega (arith, place_is x 3) in
      let d₂ : p % 16 ≡ place x 2 = omega (arith, place_is x 2) in
      let d₁ : q / 16 ≡ place x 1 = omega (arith, place_is x 1) in
      let d₀ : q % 16 ≡ place x 0 = omega (arith, place_is x 0) in
      rw (bytes_are, digits_of p q (omega arith) (omega arith), d₃, d₂, d₁, d₀) refl

  pub places-fit : places < 2 ^ 28
  places-fit = rw places_are (omega (arith, place-fits x 0, place-fits x 1, place-fits x 2, place-fits x 3))

  -- with six more, 16 is reached by a digit above 9
  abbrev top : ℕ → ℕ
  top i = (place x i + 6) / 16 % 2

  raised_are : raised ≡ four (top 3) (top 2) (top 1) (top 0)
  raised_are =
      let more : places + 0x6060606 ≡ four (place x 3 + 6) (place x 2 + 6) (place x 1 + 6) (place x 0 + 6) = rw places_are (omega arith) in
      rw more
      (tops (place x 3 + 6) (place x 2 + 6) (place x 1 + 6) (place x 0 + 6) (omega (arith, place-fits x 3)) (omega (arith, place-fits x 2)) (omega (arith, place-fits x 1)))

  pub raised-fit : raised < 2 ^ 25
  raised-fit = rw raised_are (omega arith)

  letter-top : (i : ℕ) → (48 + place x i) + 7 * top i ≡ letter (place x i)
  letter-top i =
      letter_sum (place x i) (top i) (λ (l : place x i < 10). omega (arith, l)) (λ (l : 10 ≤ place x i). omega (arith, l, place-fits x i))

  -- the bytes of the last four digits, the first one lowest
  abbrev pub word : ℕ
  word = letter (place x 3) + 256 * (letter (place x 2) + 256 * (letter (place x 1) + 256 * letter (place x 0)))

  pub word-is : places + 0x30303030 + 7 * raised ≡ word
  word-is =
      rw (raised_are, places_are, ← letter-top 3, ← letter-top 2, ← letter-top 1, ← letter-top 0)
      (sums (place x 3) (place x 2) (place x 1) (place x 0) (top 3) (top 2) (top 1) (top 0))
