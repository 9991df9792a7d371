use Prim.Native.Nat.{ℕ, ◌+◌}
use native.Mathlib.Numerals.{add-one}
use native.Mathlib.Omega.{arith}
use borrow.Author.Tests.{eqb-true, eq-eqb}
use mathlib.Core.Path.{◌≡◌, refl, sym, ap, ◌∙◌}
use mathlib.Core.Bool.{Bool, ◌&&◌}
use mathlib.Core.List.{List}
use lib.Bits.{bit_or, bit_xor, and_le_l, and_le_r, and_self, or_add_and, xor_add_and}
use lib.Dec.{eqb}
use lib.ListN.{get_or}
use Rattle.simulation.specs.Sets.{all_below}
use Rattle.simulation.proofs.Sets.{same, and_make, and_l, and_r}
use Rattle.change_lists.proofs.same_words.Goals as goal

-- one difference more
folded : (all x y : ℕ) → eqb (bit_or all (bit_xor x y)) 0 ≡ (eqb x y && eqb all 0)
folded all x y =
    same (eqb (bit_or all (bit_xor x y)) 0) (eqb x y && eqb all 0)
    (λ h.
    let none : bit_or all (bit_xor x y) ≡ 0 = eqb-true (bit_or all (bit_xor x y)) 0 h in
    let parts = or_add_and all (bit_xor x y) in
    let less = and_le_l all (bit_xor x y) in
    let less' = and_le_r all (bit_xor x y) in
    and_make
    (eq-eqb x y (omega (arith, xor_add_and x y, and_le_l x y, and_le_r x y)))
    (eq-eqb all 0 (omega arith)))
    (λ h.
    let e : x ≡ y = eqb-true x y (and_l (eqb x y) (eqb all 0) h) in
    let z : all ≡ 0 = eqb-true all 0 (and_r (eqb x y) (eqb all 0) h) in
    let none : bit_xor y y ≡ 0 = omega (arith, xor_add_and y y, and_self y) in
    rw (e, z, none))

folded_more : (bs cs : List ℕ) (all v : ℕ) → eqb all 0 ≡ all_below v (λ j. eqb (get_or bs j 0) (get_or cs j 0))
    → eqb (bit_or all (bit_xor (get_or bs v 0) (get_or cs v 0))) 0 ≡ all_below (v + 1) (λ j. eqb (get_or bs j 0) (get_or cs j 0))
unfolding all_below
folded_more bs cs all v h =
    folded all (get_or bs v 0) (get_or cs v 0)
    ∙ ap (λ (t : Bool). eqb (get_or bs v 0) (get_or cs v 0) && t) h
    ∙ ap (λ (n : ℕ). all_below n (λ j. eqb (get_or bs j 0) (get_or cs j 0))) (sym (add-one v))

pub loop-v-init : goal.loop-v-init
unfolding all_below
loop-v-init c =
    refl

pub loop-v-preserved : goal.loop-v-preserved
loop-v-preserved c =
    let a = c.args in
    let l = c.loop-v in
    folded_more a.before.now a.after.now l.all l.v l.invariant
