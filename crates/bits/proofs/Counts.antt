-- The counts of a word's digits.
use Prim.Native.Nat.{ℕ, zero, suc, ◌+◌, ◌-◌, ◌/◌, ◌%◌, ◌^◌, ◌≤◌, ◌<◌}
use native.Mathlib.Nat.{pow-suc}
use native.Mathlib.Omega.{arith}
use mathlib.Core.Path.{◌≡◌, refl, sym, ap, ap₂, fun_ext, ◌∙◌}
use mathlib.Core.Bool.{true, false, not, ◌&&◌, cond, and-true, and_self}
use lib.Arith.{lt-one}
use lib.Bits.{bit_and}
use lib.Count.{ones, ones_in, ones_step, count_trailing_zeros, under}
use lib.Dec.{eqb}
use borrow.Author.Tests.{eqb-true, eqb-false, eq-eqb, ne_eqb}
use Rattle.simulation.specs.Sets.{Set, without, count}
use Rattle.simulation.proofs.Sets.{same}
use Rattle.simulation.proofs.Loops.{count_same, count_beyond}
use Rattle.bits.specs.Word.{bit, members}
use Rattle.bits.proofs.Bits.{bit-zero, bit-suc}
use Rattle.bits.proofs.Words.{bit_member, members-below, and-members}

-- a wider range counts the same members of a word of k bits
pub count_wider : (k j w : ℕ) → w < 2 ^ k → k ≤ j → count j (members w) ≡ count k (members w)
count_wider k j w h l = count_beyond k j (members w) (members-below k w h) l

-- ---- the counts of a word's digits

-- the members of a word but 0, one down
half-members : (w i : ℕ) → members w (suc i) ≡ members (w / 2) i
half-members w i = ap (λ (x : ℕ). eqb x 1) (bit-suc w i)

-- 0 counted first, and the others one down
count_low : (n : ℕ) (X : Set) → count (suc n) X ≡ cond (X 0) 1 0 + count n (λ i. X (suc i))
unfolding count
count_low zero X = refl
count_low (suc n) X = omega (arith, count_low n X)

-- how many digits are set
pub ones_count : (k w : ℕ) → w < 2 ^ k → ones w ≡ count k (members w)
unfolding count ones ones_in
ones_count zero w h = ap ones (lt-one h)
ones_count (suc k) w h =
    ones_step w
    ∙ ap₂ ◌+◌ (sym (bit-zero w) ∙ bit_member w 0)
    (ones_count k (w / 2) (omega (arith, pow-suc 2 k))
    ∙ count_same k (members (w / 2)) (λ i. members w (suc i)) (λ i l. sym (half-members w i)))
    ∙ sym (count_low k (members w))

-- t is the lowest member, and is below k
abbrev pub Lowest : ℕ → ℕ → ℕ → Type 0
Lowest k w t = (t < k) × (members w t ≡ true) × ((i : ℕ) → i < t → members w i ≡ false)

under-lowest : (w t : ℕ) → w % 2 ≡ 0 → ((i : ℕ) → i < t → members (w / 2) i ≡ false) → (i : ℕ) → i < suc t → members w i ≡ false
under-lowest w t e h zero l = ap (λ (x : ℕ). eqb x 1) (bit-zero w ∙ e)
under-lowest w t e h (suc i) l = half-members w i ∙ h i (omega arith)

-- as many digits are below the lowest member as the word has zeros at its end
pub trailing_lowest : (k w : ℕ) → w < 2 ^ k → (w ≡ 0 → ⊥) → Lowest k w (count_trailing_zeros k w)
unfolding count_trailing_zeros
trailing_lowest zero w h some = absurd (some (lt-one h))
trailing_lowest (suc k) w h some = by (w % 2) refl (λ rest. trailing_lowest k (w / 2) (omega (arith, pow-suc 2 k)) rest)
  where
    by : (d : ℕ) → w % 2 ≡ d → ((w / 2 ≡ 0 → ⊥) → Lowest k (w / 2) (count_trailing_zeros k (w / 2)))
        → Lowest (suc k) w (under d (count_trailing_zeros k (w / 2)))
    by zero e rest =
        let r = rest (λ (z : w / 2 ≡ 0). some (omega arith)) in
        (omega (arith, r.0), half-members w (count_trailing_zeros k (w / 2)) ∙ r.1, λ i l. under-lowest w (count_trailing_zeros k (w / 2)) e r.2 i l)
    by (suc d) e rest = (omega arith, eq-eqb (bit w 0) 1 (bit-zero w ∙ omega arith), λ i l. absurd (omega arith))

-- the word before a word: it lacks the lowest member, and has the higher ones
before-members : (u w : ℕ) → members w u ≡ true → ((i : ℕ) → i < u → members w i ≡ false) → (i : ℕ)
    → (members w i && members (w - 1) i) ≡ (members w i && not (eqb i u))
before-members zero w m h zero =
    let odd : w % 2 ≡ 1 = sym (bit-zero w) ∙ eqb-true (bit w 0) 1 m in
    let even : (w - 1) % 2 ≡ 0 = omega arith in
    let off : members (w - 1) 0 ≡ false = ap (λ (x : ℕ). eqb x 1) (bit-zero (w - 1) ∙ even) in
    rw off
before-members zero w m h (suc j) =
    let odd : w % 2 ≡ 1 = sym (bit-zero w) ∙ eqb-true (bit w 0) 1 m in
    let half : (w - 1) / 2 ≡ w / 2 = omega arith in
    let on : members (w - 1) (suc j) ≡ members w (suc j) =
    half-members (w - 1) j ∙ ap (λ (x : ℕ). members x j) half ∙ sym (half-members w j) in
    rw (on, ne_eqb (suc j) 0 (omega arith)) (and_self (members w (suc j)) ∙ sym (and-true (members w (suc j))))
before-members (suc u) w m h zero = rw (h 0 (omega arith))
before-members (suc u) w m h (suc j) =
    let none = eqb-false (bit w 0) 1 (h 0 (omega arith)) in
    let even : w % 2 ≡ 0 = omega (arith, bit-zero w) in
    let half : (w - 1) / 2 ≡ w / 2 - 1 = omega arith in
    let off : members (w - 1) (suc j) ≡ members (w / 2 - 1) j = half-members (w - 1) j ∙ ap (λ (x : ℕ). members x j) half in
    rw (half-members w j, off, one_down)
    (before-members u (w / 2) (sym (half-members w u) ∙ m) (λ i l. sym (half-members w i) ∙ h (suc i) (omega arith)) j)
  where
    one_down : eqb (suc j) (suc u) ≡ eqb j u
    one_down =
        same (eqb (suc j) (suc u)) (eqb j u)
        (λ e. let q = eqb-true (suc j) (suc u) e in eq-eqb j u (omega arith))
        (λ e. let q = eqb-true j u e in eq-eqb (suc j) (suc u) (omega arith))

pub without-lowest : (w u : ℕ) → members w u ≡ true → ((i : ℕ) → i < u → members w i ≡ false)
    → members (bit_and w (w - 1)) ≡ without (members w) u
without-lowest w u m h = fun_ext (λ i. and-members w (w - 1) i ∙ before-members u w m h i)
