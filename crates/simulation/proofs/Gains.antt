-- Sets that a loop builds, number by number.
use Prim.Native.Nat.{ℕ, ◌+◌, ◌≤◌, zero-le}
use native.Mathlib.Omega.{arith}
use mathlib.Core.Path.{◌≡◌, refl, sym, ap, fun_ext, ◌∙◌}
use mathlib.Core.Logic.{⊎_elim}
use mathlib.Core.Bool.{Bool, true, false, ◌&&◌, ◌||◌, or-false, and-false, or-true}
use lib.Dec.{ltb, eqb}
use borrow.Author.Tests.{ltb-true, lt-ltb, le-ltb, eqb-true, eqb-false, eq-eqb, ltb-false}
use Rattle.simulation.proofs.Sets.{split, same}
use Rattle.simulation.specs.Sets.{Set, also}

-- ---- one number more

pub more-here : (k : ℕ) → ltb k (k + 1) ≡ true
more-here k = lt-ltb k (k + 1) (omega arith)

pub more_other : (i k : ℕ) → (i ≡ k → ⊥) → ltb i (k + 1) ≡ ltb i k
more_other i k ne =
    same (ltb i (k + 1)) (ltb i k)
    (λ h. let l = ltb-true i (k + 1) h in lt-ltb i k (omega arith))
    (λ h. let l = ltb-true i k h in lt-ltb i (k + 1) (omega arith))

-- a set of pairs that has the rows of A below k: its row k is put in
pub row_more : (A X X' : ℕ → ℕ → Bool) (k : ℕ) → ((u v : ℕ) → X u v ≡ (ltb u k && A u v)) → ((u v : ℕ) → X' u v ≡ (X u v || (eqb u k && A k v)))
    → (u v : ℕ) → X' u v ≡ (ltb u (k + 1) && A u v)
row_more A X X' k old new u v =
    ⊎_elim
    (λ (t : eqb u k ≡ true).
    let q : u ≡ k = eqb-true u k t in
    rw (q, more-here k, new k v, old k v, le-ltb k k (omega arith), eq-eqb k k refl))
    (λ (t : eqb u k ≡ false). rw (more_other u k (eqb-false u k t), new u v, t, or-false) (old u v))
    (split (eqb u k))

-- ---- the set B, with the numbers below u that pass the test P

module _ (B P : Set) where
  abbrev pub gained : ℕ → Set
  gained u x = B x || (ltb x u && P x)

  pub gained-none : B ≡ gained 0
  gained-none = fun_ext (λ x. sym (ap (λ (b : Bool). B x || (b && P x)) (le-ltb x 0 zero-le) ∙ or-false (B x)))

  module _ (u : ℕ) {Y : Set} (e : Y ≡ gained u) where
    away : (x : ℕ) → eqb x u ≡ false → Y x ≡ gained (u + 1) x
    away x t = ap (λ (X : Set). X x) e ∙ ap (λ (b : Bool). B x || (b && P x)) (sym (more_other x u (eqb-false x u t)))

    -- u passes, and is put in
    pub gained-more : {Y' : Set} → P u ≡ true → Y' ≡ also Y u → Y' ≡ gained (u + 1)
    gained-more h m =
        m
        ∙ fun_ext
        (λ x.
        ⊎_elim
        (λ (t : eqb x u ≡ true). rw t (rw (eqb-true x u t, more-here u, h) (or-true (Y u) ∙ sym (or-true (B u)))))
        (λ (t : eqb x u ≡ false). rw (t, or-false) (away x t))
        (split (eqb x u)))

    -- u fails
    pub gained_pass : P u ≡ false → Y ≡ gained (u + 1)
    gained_pass h =
        fun_ext
        (λ x. ⊎_elim (λ (t : eqb x u ≡ true). rw (eqb-true x u t) here) (λ (t : eqb x u ≡ false). away x t) (split (eqb x u)))
      where
        here : Y u ≡ gained (u + 1) u
        here = ap (λ (X : Set). X u) e ∙ rw (h, and-false (ltb u u), and-false (ltb u (u + 1))) refl

-- every number that passes is below n
pub gained-all : (B P : Set) (n : ℕ) → ((x : ℕ) → n ≤ x → P x ≡ false) → (x : ℕ) → gained B P n x ≡ (B x || P x)
gained-all B P n h x =
    ap (λ (b : Bool). B x || b)
    (⊎_elim (λ (t : ltb x n ≡ true). rw t refl) (λ (t : ltb x n ≡ false). rw (t, h x (ltb-false x n t)) refl) (split (ltb x n)))
