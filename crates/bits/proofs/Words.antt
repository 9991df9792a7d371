-- The laws of a word as the set of its members: bounds, equality, operations, the word of a set, and a part of a word.
use Prim.Native.Nat.{ℕ, zero, suc, ◌+◌, ◌-◌, ◌/◌, ◌%◌, ◌^◌, ◌≤◌, ◌<◌, zero-le, min, max}
use native.Mathlib.Nat.{pow-suc, zero-add, sub-zero, one-mul, le_refl, lt_of_lt_of_le}
use native.Mathlib.Omega.{arith}
use mathlib.Core.Path.{◌≡◌, refl, sym, ap, ap₂, subst, fun_ext, ◌∙◌}
use mathlib.Core.Logic.{⊎_elim}
use mathlib.Core.Bool.{Bool, true, false, not, ◌&&◌, ◌||◌, beq, cond, and-true, and-false, or-false}
use lib.Dec.{ltb, eqb}
use lib.Pow.{pow_pos, pow_mono, pow-lt, ones_sub-lt, shr-shr}
use lib.Bits.{bit_and, bit_or, bit_xor, differ, or_shifted, and_mask}
use borrow.Author.Tests.{eqb-true, eqb-false, eq-eqb, ltb-true, ltb-false, lt-ltb, le-ltb}
use Rattle.simulation.specs.Sets.{Set, In, union, minus, also, without}
use Rattle.simulation.proofs.Sets.{clash, split, same}
use Rattle.bits.specs.Word.{bit, members, word}
use Rattle.bits.proofs.Bits.{bit_of_zero, bit_above, same_bits, and-bit, or-bit, xor_bit, pow-same, pow_other, not-bit}

-- a bit is 1 for a member, and 0 for any other number
pub bit_member : (w i : ℕ) → bit w i ≡ cond (members w i) 1 0
bit_member w i =
    ⊎_elim
    (λ (e : members w i ≡ true). rw e (eqb-true (bit w i) 1 e))
    (λ (e : members w i ≡ false). let n = eqb-false (bit w i) 1 e in rw e (omega arith))
    (split (members w i))

pub zero-members : (i : ℕ) → members 0 i ≡ false
zero-members i = ap (λ (x : ℕ). eqb x 1) (bit_of_zero i)

-- the members of a word of k bits are below k (`below-members` is the converse)
pub members-below : (k w : ℕ) → w < 2 ^ k → (i : ℕ) → In (members w) i → i < k
members-below k w h i m =
    ⊎_elim
    (λ e. ltb-true i k e)
    (λ e. clash m (ap (λ (x : ℕ). eqb x 1) (bit_above k w i h (ltb-false i k e))))
    (split (ltb i k))

-- ---- equality: two words with the same members are equal, at k bits and at any width

pub same-below : (k a b : ℕ) → a < 2 ^ k → b < 2 ^ k → ((i : ℕ) → i < k → members a i ≡ members b i) → a ≡ b
same-below k a b ha hb h =
    same_bits k a b ha hb
    (λ i l. bit_member a i ∙ ap (λ (t : Bool). cond t 1 0) (h i l) ∙ sym (bit_member b i))

pub lt-pow : (n : ℕ) → n < 2 ^ n
lt-pow zero = omega arith
lt-pow (suc n) = omega (arith, lt-pow n, pow-suc 2 n)

pub same-members : (a b : ℕ) → members a ≡ members b → a ≡ b
same-members a b e =
    same-below (a + b) a b
    (lt_of_lt_of_le (lt-pow a) (pow_mono (omega arith)))
    (lt_of_lt_of_le (lt-pow b) (pow_mono (omega arith)))
    (λ i l. ap (λ (X : Set). X i) e)

-- ---- the members of &, | and ^

and-digit : (p q : Bool) → eqb (min (cond p 1 0) (cond q 1 0)) 1 ≡ (p && q)
and-digit true true = refl
and-digit true false = refl
and-digit false true = refl
and-digit false false = refl

or-digit : (p q : Bool) → eqb (max (cond p 1 0) (cond q 1 0)) 1 ≡ (p || q)
or-digit true true = refl
or-digit true false = refl
or-digit false true = refl
or-digit false false = refl

xor_digit : (p q : Bool) → eqb (differ (cond p 1 0) (cond q 1 0)) 1 ≡ not (eqb (cond p 1 0) (cond q 1 0))
xor_digit true true = refl
xor_digit true false = refl
xor_digit false true = refl
xor_digit false false = refl

pub and-members : (a b i : ℕ) → members (bit_and a b) i ≡ (members a i && members b i)
and-members a b i =
    ap (λ (x : ℕ). eqb x 1) (and-bit a b i ∙ ap₂ min (bit_member a i) (bit_member b i))
    ∙ and-digit (members a i) (members b i)

-- what is masked already
pub and_again : (a b : ℕ) → bit_and (bit_and a b) b ≡ bit_and a b
and_again a b =
    same-members (bit_and (bit_and a b) b) (bit_and a b)
    (fun_ext
    (λ i.
    and-members (bit_and a b) b i
    ∙ ap (λ (t : Bool). t && members b i) (and-members a b i)
    ∙ twice (members a i) (members b i)
    ∙ sym (and-members a b i)))
  where
    twice : (p q : Bool) → ((p && q) && q) ≡ (p && q)
    twice true true = refl
    twice true false = refl
    twice false q = refl

pub or-members : (a b : ℕ) → members (bit_or a b) ≡ union (members a) (members b)
or-members a b =
    fun_ext
    (λ i.
    ap (λ (x : ℕ). eqb x 1) (or-bit a b i ∙ ap₂ max (bit_member a i) (bit_member b i))
    ∙ or-digit (members a i) (members b i))

pub xor_members : (a b i : ℕ) → members (bit_xor a b) i ≡ not (eqb (bit a i) (bit b i))
xor_members a b i =
    ap (λ (x : ℕ). eqb x 1) (xor_bit a b i ∙ ap₂ differ (bit_member a i) (bit_member b i))
    ∙ xor_digit (members a i) (members b i)
    ∙ ap₂ (λ (x y : ℕ). not (eqb x y)) (sym (bit_member a i)) (sym (bit_member b i))

pub differ_members : (a b : ℕ) → members (bit_xor a b) ≡ (λ i. not (beq (members a i) (members b i)))
differ_members a b =
    fun_ext
    (λ i.
    xor_members a b i
    ∙ ap₂ (λ (x y : ℕ). not (eqb x y)) (bit_member a i) (bit_member b i)
    ∙ ap not (digits (members a i) (members b i)))
  where
    digits : (p q : Bool) → eqb (cond p 1 0) (cond q 1 0) ≡ beq p q
    digits true true = refl
    digits true false = refl
    digits false true = refl
    digits false false = refl

-- ---- the members of a power of two and of the complement, and what these do to another word

-- i alone
pub only_members : (i : ℕ) → members (2 ^ i) ≡ (λ j. eqb j i)
only_members i =
    fun_ext
    (λ j.
    ⊎_elim
    (λ (e : eqb j i ≡ true). rw e (rw (eqb-true j i e) (eq-eqb (bit (2 ^ i) i) 1 (pow-same i))))
    (λ (e : eqb j i ≡ false). rw e (ap (λ (x : ℕ). eqb x 1) (pow_other i j (eqb-false j i e))))
    (split (eqb j i)))

-- the numbers below k that are not in a
pub not-members : (k a : ℕ) → a < 2 ^ k → (i : ℕ) → members (2 ^ k - 1 - a) i ≡ (ltb i k && not (members a i))
not-members k a h i =
    ⊎_elim
    (λ (e : ltb i k ≡ true).
    rw e
    (flip (members (2 ^ k - 1 - a) i) (members a i)
    (ap₂ ◌+◌ (sym (bit_member (2 ^ k - 1 - a) i)) (sym (bit_member a i)) ∙ not-bit k a i h (ltb-true i k e))))
    (λ (e : ltb i k ≡ false).
    rw e (ap (λ (x : ℕ). eqb x 1) (bit_above k (2 ^ k - 1 - a) i (ones_sub-lt k a) (ltb-false i k e))))
    (split (ltb i k))
  where
    flip : (p q : Bool) → cond p 1 0 + cond q 1 0 ≡ 1 → p ≡ not q
    flip true true e = absurd (omega arith)
    flip true false e = refl
    flip false true e = refl
    flip false false e = absurd (omega arith)

-- all the numbers below k
pub full-members : (k : ℕ) → members (2 ^ k - 1) ≡ (λ i. ltb i k)
full-members k =
    fun_ext
    (λ i.
    ap (λ (w : ℕ). members w i) (sym (sub-zero (2 ^ k - 1)))
    ∙ not-members k 0 (pow_pos k) i
    ∙ ap (λ (t : Bool). ltb i k && not t) (zero-members i)
    ∙ and-true (ltb i k))

pub andnot_members : (k a b : ℕ) → a < 2 ^ k → b < 2 ^ k → members (bit_and a (2 ^ k - 1 - b)) ≡ minus (members a) (members b)
andnot_members k a b ha hb =
    fun_ext
    (λ i.
    and-members a (2 ^ k - 1 - b) i
    ∙ ⊎_elim
    (λ (e : members a i ≡ true).
    let l : ltb i k ≡ true = lt-ltb i k (members-below k a ha i e) in
    rw e (not-members k b hb i ∙ ap (λ (t : Bool). t && not (members b i)) l))
    (λ (e : members a i ≡ false). rw e)
    (split (members a i)))

pub also-members : (a i : ℕ) → members (bit_or a (2 ^ i)) ≡ also (members a) i
also-members a i = or-members a (2 ^ i) ∙ ap (union (members a)) (only_members i)

pub without-members : (k a i : ℕ) → a < 2 ^ k → i < k → members (bit_and a (2 ^ k - 1 - 2 ^ i)) ≡ without (members a) i
without-members k a i h l = andnot_members k a (2 ^ i) h (pow-lt l) ∙ ap (minus (members a)) (only_members i)

-- ---- the word of a set

cond-le : (b : Bool) (n : ℕ) → cond b n 0 ≤ n
cond-le true n = le_refl n
cond-le false n = omega arith

pub word_below : (k : ℕ) (X : Set) → word k X < 2 ^ k
unfolding word
word_below zero X = omega arith
word_below (suc k) X = omega (arith, pow-suc 2 k, cond-le (X k) (2 ^ k), word_below k X)

-- with one power of two above all others, the sum is |
above : (k r : ℕ) (b : Bool) → r < 2 ^ k → cond b (2 ^ k) 0 + r ≡ bit_or (cond b (2 ^ k) 0) r
above k r true h =
    let e = one-mul (2 ^ k) in
    ap (λ (x : ℕ). x + r) (sym e) ∙ sym (or_shifted 1 k r h) ∙ ap (λ (x : ℕ). bit_or x r) e
above k r false h = zero-add r

cond-members : (b : Bool) (k i : ℕ) → members (cond b (2 ^ k) 0) i ≡ (b && eqb i k)
cond-members true k i = ap (λ (X : Set). X i) (only_members k)
cond-members false k i = zero-members i

-- below suc k is k, or below k
next : (X : Set) (i k : ℕ) → (X k && eqb i k || ltb i k && X i) ≡ (ltb i (suc k) && X i)
next X i k =
    ⊎_elim
    (λ (e : eqb i k ≡ true).
    rw (e, eqb-true i k e, le-ltb k k (le_refl k), lt-ltb k (suc k) (omega arith), and-true, or-false))
    (λ (e : eqb i k ≡ false).
    let ne = eqb-false i k e in
    let step : ltb i (suc k) ≡ ltb i k =
    same (ltb i (suc k)) (ltb i k)
    (λ t. lt-ltb i k (omega (arith, ltb-true i (suc k) t)))
    (λ t. lt-ltb i (suc k) (omega (arith, ltb-true i k t))) in
    rw (e, step, and-false))
    (split (eqb i k))

-- its members are those of the set below k
pub word-members : (k : ℕ) (X : Set) (i : ℕ) → members (word k X) i ≡ (ltb i k && X i)
unfolding word
word-members zero X i = zero-members i ∙ ap (λ (t : Bool). t && X i) (sym (le-ltb i 0 zero-le))
word-members (suc k) X i =
    ap (λ (w : ℕ). members w i) (above k (word k X) (X k) (word_below k X))
    ∙ ap (λ (Y : Set). Y i) (or-members (cond (X k) (2 ^ k) 0) (word k X))
    ∙ ap₂ ◌||◌ (cond-members (X k) k i) (word-members k X i)
    ∙ next X i k

-- it depends on nothing from k on
pub word_same : (k : ℕ) (X Y : Set) → ((i : ℕ) → i < k → X i ≡ Y i) → word k X ≡ word k Y
unfolding word
word_same zero X Y h = refl
word_same (suc k) X Y h = rw (h k (omega arith), word_same k X Y (λ i l. h i (omega arith)))

-- the word of a word's members is that word, where these are below k
whole : (k w : ℕ) → ((i : ℕ) → In (members w) i → i < k) → word k (members w) ≡ w
whole k w h =
    same-members (word k (members w)) w
    (fun_ext
    (λ i.
    word-members k (members w) i
    ∙ ⊎_elim
    (λ (e : members w i ≡ true). rw (e, lt-ltb i k (h i e)))
    (λ (e : members w i ≡ false). rw e (and-false (ltb i k)))
    (split (members w i))))

pub members-word : (k w : ℕ) → w < 2 ^ k → word k (members w) ≡ w
members-word k w h = whole k w (members-below k w h)

pub below-members : (k w : ℕ) → ((i : ℕ) → In (members w) i → i < k) → w < 2 ^ k
below-members k w h = subst (λ (x : ℕ). x < 2 ^ k) (whole k w h) (word_below k (members w))

-- ---- a part of a word: its bits from j on, and k of these

pub shifted_members : (j w i : ℕ) → members (w / 2 ^ j) i ≡ members w (j + i)
shifted_members j w i = ap (λ (x : ℕ). eqb (x % 2) 1) (shr-shr w j i)

pub part-members : (k j w i : ℕ) → i < k → members (w / 2 ^ j % 2 ^ k) i ≡ members w (j + i)
part-members k j w i l =
    ap (λ (x : ℕ). members x i) (sym (and_mask (w / 2 ^ j) k))
    ∙ and-members (w / 2 ^ j) (2 ^ k - 1) i
    ∙ ap (λ (X : Set). members (w / 2 ^ j) i && X i) (full-members k)
    ∙ rw (lt-ltb i k l, and-true) (shifted_members j w i)
