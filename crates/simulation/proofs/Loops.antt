-- What a loop needs that shrinks or grows a set until nothing changes: a step, its measure, and the end. And the laws of counts.
use Prim.Native.Nat.{ℕ, zero, suc, ◌+◌, ◌*◌, ◌<◌, ◌≤◌}
use native.Mathlib.Nat.{add-suc, add-zero, suc-mul, zero-mul}
use native.Mathlib.Decide.{le_ind}
use native.Mathlib.Omega.{arith}
use lib.Dec.{eqb}
use borrow.Author.Tests.{eqb-true, eqb-false, eq-eqb, ne_eqb}
use mathlib.Core.Path.{◌≡◌, refl, sym, ◌∙◌, ap}
use mathlib.Core.Logic.{⊎_elim}
use mathlib.Core.Bool.{Bool, true, false, not, ◌&&◌, ◌||◌, cond, and-false, and-true, or-true, or-false}
use Rattle.simulation.specs.Sets.{Set, In, union, count, without, also}
use Rattle.simulation.specs.System.{System, supported, refined, reaches, closure}
use Rattle.simulation.proofs.Sets.{clash, split, refuted, and_make, and_l, or_l, or_r, or-take, not_make, count-drop}
use Rattle.simulation.proofs.System.{extensional, sweep, closure-seed, closure-step, closure_least, reaches-take, reaches_make}

-- ---- one number less, one more

pub without_sub : (X : Set) (x p : ℕ) → In (without X x) p → In X p
without_sub X x p h = and_l (X p) (not (eqb p x)) h

pub without_other : (X : Set) (x p : ℕ) → In X p → without X x p ≡ false → p ≡ x
without_other X x p h e =
    ⊎_elim (λ b. eqb-true p x b) (λ b. clash (and_make h (not_make b)) e) (split (eqb p x))

pub without_gone : (X : Set) (x : ℕ) → without X x x ≡ false
without_gone X x = rw (eq-eqb x x refl) (and-false (X x))

pub without_falls : (n : ℕ) (X : Set) (x : ℕ) → x < n → In X x → count n (without X x) < count n X
without_falls n X x l h = count-drop n (without X x) X (without_sub X x) x l h (without_gone X x)

pub also-rises : (n : ℕ) (X : Set) (x : ℕ) → x < n → X x ≡ false → count n X < count n (also X x)
also-rises n X x l h = count-drop n X (also X x) (λ p m. or_l (eqb p x) m) x l (or_r (X x) (eq-eqb x x refl)) h

module _ (s : System) where
  -- ---- shrinking: a pair of T that S and T do not support may go; `swept` says when to stop

  pub sweep_one : (S T : Set) (x : ℕ) → supported s (union S T) x ≡ false → refined s S (without T x) ≡ refined s S T
  sweep_one S T x h = sweep s S T (without T x) (without_sub T x) (λ p m e. rw (without_other T x p m e) h)

  -- ---- growing: X within the closure; a pair of the domain that is a seed or reaches X may come; when none is left X is the closure

  module _ (domain seeds X : Set) (sub : (p : ℕ) → In X p → In (closure s domain seeds) p) where
    pub grow-one : (x : ℕ) → x < s.pairs → In domain x → (seeds x || reaches s X x) ≡ true → (p : ℕ) → In (also X x) p → In (closure s domain seeds) p
    grow-one x l d h p m =
        ⊎_elim (λ e. sub p e)
        (λ e. rw (eqb-true p x e)
        (⊎_elim
        (λ b. closure-seed s domain seeds x l d b)
        (λ b. let w = reaches-take s X x b in closure-step s domain seeds x w.0 w.3.0 l d w.1 w.2 w.3.2 (sub w.3.0 w.3.3))
        (or-take (seeds x) (reaches s X x) h)))
        (or-take (X p) (eqb p x) m)

    pub grown-whole : ((x : ℕ) → x < s.pairs → In domain x → (seeds x || reaches s X x) ≡ true → In X x) → X ≡ closure s domain seeds
    grown-whole done =
        extensional s X (closure s domain seeds) sub
        (λ p h.
        (closure_least s domain seeds (λ p. In X p × (p < s.pairs))
        (λ p l d e. (done p l d (or_l (reaches s X p) e), l))
        (λ p o q l d k w m r. (done p l d (or_r (seeds p) (reaches_make s X p o q k w r.1 m r.0)), l))
        p h).0)

-- ---- counts

pub count_same : (n : ℕ) (f g : Set) → ((p : ℕ) → p < n → f p ≡ g p) → count n f ≡ count n g
unfolding count
count_same zero f g h = refl
count_same (suc n) f g h = rw (h n (omega arith), count_same n f g (λ p l. h p (omega arith)))

bit_apart : (a b : Bool) → (a ≡ true → b ≡ true → ⊥) → cond (a || b) 1 0 ≡ cond a 1 0 + cond b 1 0
bit_apart true true h = absurd (h refl refl)
bit_apart true false h = refl
bit_apart false b h = omega arith

-- two sets that share nothing
pub count_apart : (n : ℕ) (f g : Set) → ((p : ℕ) → In f p → In g p → ⊥) → count n (union f g) ≡ count n f + count n g
unfolding count
count_apart zero f g h = refl
count_apart (suc n) f g h = omega (arith, bit_apart (f n) (g n) (h n), count_apart n f g h)

-- no member below n
pub count_none : (n : ℕ) (X : Set) → ((p : ℕ) → p < n → X p ≡ false) → count n X ≡ 0
unfolding count
count_none zero X h = refl
count_none (suc n) X h = rw (h n (omega arith), count_none n X (λ p l. h p (omega arith)))

-- one member
-- those in the set and those out of it
pub count-not : (n : ℕ) (X : Set) → count n X + count n (λ p. not (X p)) ≡ n
unfolding count
count-not zero X = refl
count-not (suc n) X = omega (arith, one (X n), count-not n X)
  where
    one : (b : Bool) → cond b 1 0 + cond (not b) 1 0 ≡ 1
    one true = refl
    one false = refl

pub count_only : (n i : ℕ) → i < n → count n (λ p. eqb p i) ≡ 1
unfolding count
count_only zero i l = absurd (omega arith)
count_only (suc n) i l =
    ⊎_elim
    (λ (e : eqb n i ≡ true).
    rw (e, count_none n (λ p. eqb p i) (λ p m. let here = eqb-true n i e in ne_eqb p i (omega arith))))
    (λ (e : eqb n i ≡ false). let away = eqb-false n i e in rw (e, count_only n i (omega arith)))
    (split (eqb n i))

-- one member more, and one less
pub count-also : (n : ℕ) (X : Set) (i : ℕ) → i < n → X i ≡ false → count n (also X i) ≡ suc (count n X)
count-also n X i l e =
    omega (
      arith,
      count_apart n X (λ p. eqb p i) (λ p m t. clash m (ap X (eqb-true p i t) ∙ e)),
      count_only n i l,
    )

pub count-without : (n : ℕ) (X : Set) (i : ℕ) → i < n → X i ≡ true → suc (count n (without X i)) ≡ count n X
count-without n X i l e =
    sym (count-also n (without X i) i l (without_gone X i)) ∙ count_same n (also (without X i) i) X (λ p m. back p)
  where
    back : (p : ℕ) → also (without X i) i p ≡ X p
    back p =
        ⊎_elim
        (λ (t : eqb p i ≡ true). rw t (or-true (X p && false) ∙ sym (ap X (eqb-true p i t) ∙ e)))
        (λ (t : eqb p i ≡ false). rw (t, and-true, or-false))
        (split (eqb p i))

-- no member from k on: a wider range counts the same
pub count_beyond : (k j : ℕ) (X : Set) → ((p : ℕ) → In X p → p < k) → k ≤ j → count j X ≡ count k X
unfolding count
count_beyond k j X h =
    le_ind (λ (n : ℕ). count n X ≡ count k X) refl
    (λ n l e. rw (refuted (X n) (λ m. omega (arith, h n m))) (omega arith)) j

count_add : (n k : ℕ) (X : Set) → count (k + n) X ≡ count n (λ u. X (k + u)) + count k X
unfolding count
count_add zero k X = rw add-zero (omega arith)
count_add (suc n) k X = rw add-suc (omega (arith, count_add n k X))

unfoldable pub total : ℕ → (ℕ → ℕ) → ℕ
total zero f = 0
total (suc m) f = f m + total m f

-- m rows of n, each counted by itself
pub count-rows : (n m : ℕ) (X : Set) → count (m * n) X ≡ total m (λ v. count n (λ u. X (v * n + u)))
unfolding total count
count-rows n zero X = rw zero-mul
count-rows n (suc m) X = rw suc-mul (count_add n (m * n) X ∙ ap (λ (c : ℕ). count n (λ u. X (m * n + u)) + c) (count-rows n m X))
