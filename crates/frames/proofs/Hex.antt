-- Digits by their byte, and a number read digit by digit.
use Prim.Native.Nat.{ℕ, zero, suc, ◌+◌, ◌-◌, ◌*◌, ◌^◌, ◌<◌, ◌≤◌}
use native.Mathlib.Nat.{lt_of_lt_of_le, pow-le-pow_right, pow-suc}
use native.Mathlib.Omega.{arith}
use native.Mathlib.Numerals.{add-one}
use mathlib.Core.Path.{◌≡◌, refl, sym, ◌∙◌, ap, subst}
use mathlib.Core.Bool.{true}
use mathlib.Core.List.{List}
use lib.Dec.{ltb}
use lib.ListN.{length, get_or, drop, drop_of_length-le}
use lib.Seq.{drop-cons}
use borrow.Author.Tests.{le-leb, lt-leb, ltb-true}
use Rattle.simulation.proofs.Sets.{all_take}
use Rattle.frames.specs.Digits.{digit, hexadecimal, number_from, number}

-- ---- the value of a byte

pub digit_low : (c : ℕ) → c < 48 → digit c ≡ 16
unfolding digit
digit_low c l = rw (lt-leb 48 c l, lt-leb 65 c (omega arith))

pub digit_decimal : (c : ℕ) → 48 ≤ c → c ≤ 57 → digit c ≡ c - 48
unfolding digit
digit_decimal c l h = rw (le-leb 48 c l, le-leb c 57 h)

pub digit_between : (c : ℕ) → 57 < c → c < 65 → digit c ≡ 16
unfolding digit
digit_between c l h = rw (le-leb 48 c (omega arith), lt-leb c 57 l, lt-leb 65 c h)

pub digit-letter : (c : ℕ) → 65 ≤ c → c ≤ 70 → digit c ≡ c - 55
unfolding digit
digit-letter c l h = rw (le-leb 48 c (omega arith), lt-leb c 57 (omega arith), le-leb 65 c l, le-leb c 70 h)

pub digit_high : (c : ℕ) → 70 < c → digit c ≡ 16
unfolding digit
digit_high c l = rw (le-leb 48 c (omega arith), lt-leb c 57 (omega arith), le-leb 65 c (omega arith), lt-leb c 70 l)

-- ---- a number, digit by digit

pub digit-fits : (ds : List ℕ) → hexadecimal ds ≡ true → (k : ℕ) → k < length ds → digit (get_or ds k 0) < 16
unfolding hexadecimal
digit-fits ds h k l = ltb-true (digit (get_or ds k 0)) 16 (all_take (length ds) (λ i. ltb (digit (get_or ds i 0)) 16) h k l)

-- the first k digits are read, with the value v: the rest after it makes the number
pub record Reading (ds : List ℕ) (v k : ℕ) : Type 0 where
  pub inside : k ≤ length ds
  pub rest : number_from v (drop k ds) ≡ number ds
  pub small : v < 16 ^ k

module _ (ds : List ℕ) (hex : hexadecimal ds ≡ true) where
  pub reading-start : Reading ds 0 0
  reading-start = record { inside = omega arith; rest = refl; small = omega arith }

  pub reading-more : (v k : ℕ) → Reading ds v k → k < length ds → Reading ds (v * 16 + digit (get_or ds k 0)) (k + 1)
  unfolding number_from
  reading-more v k r l = record {
    inside = omega arith;
    rest = ap (λ (j : ℕ). number_from (v * 16 + digit (get_or ds k 0)) (drop j ds)) (add-one k) ∙ sym (ap (number_from v) (drop-cons ds k 0 l)) ∙ r.rest;
    small = rw (add-one k) (omega (arith, r.small, pow-suc 16 k, digit-fits ds hex k l));
  }

  pub reading-end : (v k : ℕ) → Reading ds v k → length ds ≤ k → v ≡ number ds
  unfolding number_from
  reading-end v k r l = sym (ap (number_from v) (drop_of_length-le ds l)) ∙ r.rest

-- one digit more than k fits n digits, where n is more than k
pub reading-fits : (ds : List ℕ) (v k n : ℕ) → Reading ds v k → k < n → v * 16 + 15 < 16 ^ n
reading-fits ds v k n r l =
    let grows : 16 ^ suc k ≤ 16 ^ n = pow-le-pow_right (omega arith) l in
    omega (arith, r.small, pow-suc 16 k, grows)

-- and n digits or fewer make a number below 16 ^ n
pub number_fits : (ds : List ℕ) (n : ℕ) → hexadecimal ds ≡ true → length ds ≤ n → number ds < 16 ^ n
number_fits ds n hex few =
    let w = whole (length ds) (omega arith) in
    lt_of_lt_of_le (rw (← reading-end ds hex w.0 (length ds) w.1 (omega arith)) w.1.small) (pow-le-pow_right (omega arith) few)
  where
    whole : (k : ℕ) → k ≤ length ds → (v : ℕ) × Reading ds v k
    whole zero l = (0, reading-start ds hex)
    whole (suc k) l =
        let w = whole k (omega arith) in
        let v = w.0 * 16 + digit (get_or ds k 0) in
        (v, subst (Reading ds v) (add-one k) (reading-more ds hex w.0 k w.1 (omega arith)))
