-- What a comparison of words says of their members: no member, a subset, the same bits under a mask.
use Prim.Native.Nat.{ℕ, ◌-◌, ◌^◌, ◌%◌, ◌<◌, ◌≤◌}
use native.Mathlib.Omega.{arith}
use native.Mathlib.Nat.{lt_of_le_of_lt, lt_of_lt_of_le, mod-lt, mod-eq_of_lt}
use mathlib.Core.Path.{◌≡◌, refl, sym, ap, ap₂, subst, fun_ext, ◌∙◌}
use mathlib.Core.Bool.{Bool, true, false, not, ◌&&◌, ◌||◌, beq, not-not, cond, and-false}
use lib.Dec.{ltb, eqb}
use lib.Pow.{pow_pos, pow_mono}
use lib.Bits.{bit_and, bit_xor, and_le_l, and_le_r, and_mask}
use borrow.Author.Tests.{ltb-true, lt-ltb, eqb-true, eq-eqb}
use Rattle.simulation.specs.Sets.{Set, any_below, all_below}
use Rattle.simulation.proofs.Sets.{same, implies_make, implies_take, all_make, all_take, not_any}
use Rattle.bits.specs.Word.{bit, members, within, meets}
use Rattle.bits.proofs.Words.{bit_member, zero-members, same-below, and-members, xor_members}

beq_same : (p : Bool) → beq p p ≡ true
beq_same true = refl
beq_same false = refl

beq-take : (p q : Bool) → beq p q ≡ true → p ≡ q
beq-take true true e = refl
beq-take true false e = sym e
beq-take false true e = e
beq-take false false e = refl

-- two words of k bits are equal where P holds below k, if P says that both or neither have the number
pub equal-all : (k a b : ℕ) (P : Set) → a < 2 ^ k → b < 2 ^ k → ((i : ℕ) → beq (members a i) (members b i) ≡ P i)
    → eqb a b ≡ all_below k P
equal-all k a b P ha hb h =
    same (eqb a b) (all_below k P)
    (λ (e : eqb a b ≡ true).
    all_make k P
    (λ i l.
    sym (h i)
    ∙ ap (λ (x : ℕ). beq (members x i) (members b i)) (eqb-true a b e)
    ∙ beq_same (members b i)))
    (λ (e : all_below k P ≡ true).
    eq-eqb a b (same-below k a b ha hb (λ i l. beq-take (members a i) (members b i) (h i ∙ all_take k P e i l))))

-- ---- no member

beq-false : (p : Bool) → beq p false ≡ not p
beq-false true = refl
beq-false false = refl

-- a word of k bits is zero where P holds below k, if P fails at the members alone
zero-all : (k w : ℕ) (P : Set) → w < 2 ^ k → ((i : ℕ) → not (members w i) ≡ P i) → eqb w 0 ≡ all_below k P
zero-all k w P h e =
    equal-all k w 0 P h (pow_pos k)
    (λ i. ap (beq (members w i)) (zero-members i) ∙ beq-false (members w i) ∙ e i)

pub empty_any : (k w : ℕ) → w < 2 ^ k → eqb w 0 ≡ not (any_below k (members w))
empty_any k w h = zero-all k w (λ i. not (members w i)) h (λ i. refl) ∙ sym (not_any k (members w))

-- ---- a common member: a & b is not zero

pub meets-test : (k a b : ℕ) → a < 2 ^ k → not (eqb (bit_and a b) 0) ≡ meets k a b
meets-test k a b h =
    ap not (empty_any k (bit_and a b) (lt_of_le_of_lt (and_le_l a b) h))
    ∙ not-not (any_below k (members (bit_and a b)))
    ∙ ap (any_below k) (fun_ext (λ i. and-members a b i))

-- a wider range has no more of a word of k bits in common with another
pub meets_wider : (k j a b : ℕ) → a < 2 ^ k → k ≤ j → meets j a b ≡ meets k a b
meets_wider k j a b h l = sym (meets-test j a b (lt_of_lt_of_le h (pow_mono l))) ∙ meets-test k a b h

-- ---- a subset: a & b is a

part : (p q : Bool) → beq (p && q) p ≡ (not p || q)
part true true = refl
part true false = refl
part false q = refl

pub subset_within : (k a b : ℕ) → a < 2 ^ k → eqb (bit_and a b) a ≡ within k a b
unfolding within
subset_within k a b h =
    equal-all k (bit_and a b) a (λ i. not (members a i) || members b i) (lt_of_le_of_lt (and_le_l a b) h) h
    (λ i. ap (λ (t : Bool). beq t (members a i)) (and-members a b i) ∙ part (members a i) (members b i))

-- a word has n bits where each member is below n
pub within-inside : (k n w : ℕ) → w < 2 ^ k → within k w (2 ^ n - 1) ≡ ltb w (2 ^ n)
within-inside k n w h =
    sym (subset_within k w (2 ^ n - 1) h)
    ∙ ap (λ (x : ℕ). eqb x w) (and_mask w n)
    ∙ same (eqb (w % 2 ^ n) w) (ltb w (2 ^ n))
    (λ (e : eqb (w % 2 ^ n) w ≡ true). lt-ltb w (2 ^ n) (subst (λ (x : ℕ). x < 2 ^ n) (eqb-true (w % 2 ^ n) w e) (mod-lt w (pow_pos n))))
    (λ (e : ltb w (2 ^ n) ≡ true). eq-eqb (w % 2 ^ n) w (mod-eq_of_lt (ltb-true w (2 ^ n) e)))

-- ---- the same bits where m has a 1: (v ^ s) & m is zero

under : (e m : Bool) → not (not e && m) ≡ (not m || e)
under true true = refl
under true false = refl
under false true = refl
under false false = refl

pub masked : (k m v s : ℕ) → m < 2 ^ k
    → eqb (bit_and (bit_xor v s) m) 0 ≡ all_below k (λ i. not (members m i) || eqb (bit v i) (bit s i))
masked k m v s h =
    zero-all k (bit_and (bit_xor v s) m) (λ i. not (members m i) || eqb (bit v i) (bit s i))
    (lt_of_le_of_lt (and_le_r (bit_xor v s) m) h)
    (λ i.
    ap not (and-members (bit_xor v s) m i ∙ ap (λ (t : Bool). t && members m i) (xor_members v s i))
    ∙ under (eqb (bit v i) (bit s i)) (members m i))

-- and s & m is v & m
both : (p q m : Bool) → beq (p && m) (q && m) ≡ (not m || eqb (cond q 1 0) (cond p 1 0))
both true true true = refl
both true false true = refl
both false true true = refl
both false false true = refl
both p q false = ap₂ beq (and-false p) (and-false q)

pub masked-equal : (k m v s : ℕ) → m < 2 ^ k
    → eqb (bit_and s m) (bit_and v m) ≡ all_below k (λ i. not (members m i) || eqb (bit v i) (bit s i))
masked-equal k m v s h =
    equal-all k (bit_and s m) (bit_and v m) (λ i. not (members m i) || eqb (bit v i) (bit s i))
    (lt_of_le_of_lt (and_le_r s m) h)
    (lt_of_le_of_lt (and_le_r v m) h)
    (λ i.
    ap₂ beq (and-members s m i) (and-members v m i)
    ∙ both (members s i) (members v i) (members m i)
    ∙ ap₂ (λ (x y : ℕ). not (members m i) || eqb x y) (sym (bit_member v i)) (sym (bit_member s i)))

-- the numbers below n are all in g
pub within-below : (k n b g : ℕ) → n ≤ k → members b ≡ (λ i. ltb i n) → within k b g ≡ all_below n (members g)
unfolding within
within-below k n b g l e =
    same (all_below k test) (all_below n (members g))
    (λ h. all_make n (members g) (λ i m. implies_take (members b i) (members g i) (all_take k test h i (omega arith)) (ap (λ (X : Set). X i) e ∙ lt-ltb i n m)))
    (λ h.
    all_make k test
    (λ i m.
    implies_make (members b i) (members g i) (λ d. all_take n (members g) h i (ltb-true i n (sym (ap (λ (X : Set). X i) e) ∙ d)))))
  where
    test : Set
    test i = not (members b i) || members g i
