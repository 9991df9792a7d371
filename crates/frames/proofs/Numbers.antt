-- Reading is the inverse of writing.
use Prim.Native.Nat.{ℕ, zero, suc, ◌+◌, ◌*◌, ◌%◌, ◌^◌, ◌<◌, ◌≤◌}
use native.Mathlib.Nat.{pow-succ', mod-eq_of_lt, mul_assoc, add_assoc, add-mul}
use native.Mathlib.Omega.{arith}
use mathlib.Core.Path.{◌≡◌, refl, sym, ◌∙◌, ap, ap₂}
use mathlib.Core.Logic.{⊎_elim}
use mathlib.Core.Bool.{true}
use lib.Dec.{ltb}
use lib.ListN.{length, get_or}
use lib.Pow.{mod-pow-add, pow-add}
use borrow.Author.Tests.{lt-ltb}
use Rattle.simulation.proofs.Search.{lt-or-le}
use Rattle.simulation.proofs.Sets.{all_make}
use Rattle.frames.specs.Digits.{digit, hexadecimal, number_from, number, letter, place, digits}
use Rattle.frames.proofs.Hex as hex
use Rattle.frames.proofs.Written.{place_is, place-fits, letter_low, letter_high, digits_long}

pub digit_of_letter : (d : ℕ) → d < 16 → digit (letter d) ≡ d
digit_of_letter d h =
    ⊎_elim
    (λ (l : d < 10). ap digit (sym (letter_low d l)) ∙ hex.digit_decimal (48 + d) (omega arith) (omega arith) ∙ omega arith)
    (λ (l : 10 ≤ d). ap digit (sym (letter_high d l)) ∙ hex.digit-letter (55 + d) (omega arith) (omega arith) ∙ omega arith)
    (lt-or-le d 10)

-- every byte written is a digit
digits-fit : (n x i : ℕ) → i < n → digit (get_or (digits n x) i 0) < 16
unfolding digits
digits-fit zero x i l = absurd (omega arith)
digits-fit (suc n) x zero l = rw (digit_of_letter (place x n) (place-fits x n)) (place-fits x n)
digits-fit (suc n) x (suc i) l = digits-fit n x i (omega arith)

pub digits-hexadecimal : (n x : ℕ) → hexadecimal (digits n x) ≡ true
unfolding hexadecimal
digits-hexadecimal n x =
    all_make (length (digits n x)) (λ i. ltb (digit (get_or (digits n x) i 0)) 16)
    (λ i l. lt-ltb (digit (get_or (digits n x) i 0)) 16 (digits-fit n x i (omega (arith, digits_long n x))))

-- sixteen to the n, by its bits
sixteen : (n : ℕ) → 2 ^ (n * 4) ≡ 16 ^ n
sixteen zero = refl
sixteen (suc n) =
    let more : suc n * 4 ≡ 4 + n * 4 = omega arith in
    ap (λ (i : ℕ). 2 ^ i) more ∙ pow-add 2 4 (n * 4) ∙ ap (λ (i : ℕ). 16 * i) (sixteen n) ∙ sym (pow-succ' 16 n)

-- the digit at the place n stands above the n digits after it
place_above : (n x : ℕ) → x % 16 ^ suc n ≡ place x n * 16 ^ n + x % 16 ^ n
place_above n x =
    let more : suc n * 4 ≡ 4 + n * 4 = omega arith in
    ap (λ (i : ℕ). x % i) (sym (sixteen (suc n)))
    ∙ ap (λ (i : ℕ). x % 2 ^ i) more
    ∙ mod-pow-add x 4 (n * 4)
    ∙ ap₂ (λ (d q : ℕ). d * q + x % q) (place_is x n) (sixteen n)

-- n digits written after the number k are read as the digits of x below 16 ^ n after it
pub number-after : (n k x : ℕ) → number_from k (digits n x) ≡ k * 16 ^ n + x % 16 ^ n
unfolding number_from digits
number-after zero k x = omega arith
number-after (suc n) k x =
    ap (λ (d : ℕ). number_from (k * 16 + d) (digits n x)) (digit_of_letter (place x n) (place-fits x n))
    ∙ number-after n (k * 16 + place x n) x
    ∙ ap (λ (i : ℕ). i + x % 16 ^ n) (add-mul (k * 16) (place x n) (16 ^ n) ∙ ap (λ (i : ℕ). i + place x n * 16 ^ n) (mul_assoc k 16 (16 ^ n)))
    ∙ add_assoc (k * (16 * 16 ^ n)) (place x n * 16 ^ n) (x % 16 ^ n)
    ∙ ap₂ (λ (i j : ℕ). k * i + j) (sym (pow-succ' 16 n)) (sym (place_above n x))

-- a number written in enough digits is read again
pub number_digits : (n x : ℕ) → x < 16 ^ n → number (digits n x) ≡ x
number_digits n x l = omega (arith, number-after n 0 x, mod-eq_of_lt l)
