-- The first rule broken.
use Prim.Native.Nat.{ℕ, zero, suc, ◌<◌}
use native.Mathlib.Omega.{arith}
use mathlib.Core.Path.{◌≡◌, refl, sym, ap, ◌∙◌}
use mathlib.Core.Logic.{◌⊎◌, inl, inr}
use mathlib.Core.Bool.{Bool, true, false}
use mathlib.Core.List.{List, [], ◌∷◌, ◌++◌}
use Rattle.promises.specs.Rules.{Rule, rule, verdict}

-- no rule of the list is broken
abbrev pub Unbroken : List Rule → Type 0
Unbroken [] = Unit {0}
Unbroken (r ∷ rs) = (r.broken ≡ false) × Unbroken rs

-- a verdict accepts or refuses
pub accepts-or : (n : ℕ) → (n ≡ 0) ⊎ (n ≡ 0 → ⊥)
accepts-or zero = inl refl
accepts-or (suc n) = inr (λ e. absurd (omega arith))

-- a row that is not broken leaves the verdict to the rows after it
pub verdict_skip : (n : ℕ) (b : Bool) (rs : List Rule) → b ≡ false → verdict (rule n b ∷ rs) ≡ verdict rs
unfolding verdict
verdict_skip n b rs e = rw e

pub verdict_pass : (n : ℕ) (b : Bool) (rs : List Rule) → 0 < n → verdict (rule n b ∷ rs) ≡ 0 → (b ≡ false) × (verdict rs ≡ 0)
unfolding verdict
verdict_pass n true rs l e = absurd (omega arith)
verdict_pass n false rs l e = (refl, e)

-- a test that found what a row says: one that holds is passed, and one that is broken gives its number
module _ (n : ℕ) (b r : Bool) (rs : List Rule) (e : r ≡ b) where
  pub row-passed : (k : ℕ) → r ≡ false → k ≡ verdict rs → k ≡ verdict (rule n b ∷ rs)
  row-passed k f h = h ∙ sym (verdict_skip n b rs (sym e ∙ f))

  pub row-broken : r ≡ true → n ≡ verdict (rule n b ∷ rs)
  unfolding verdict
  row-broken t = rw (← e, t)

pub rows_end : 0 ≡ verdict []
unfolding verdict
rows_end = refl

-- rows before others: what breaks one of them is their verdict, and where none is broken the others tell it
pub rows-broken : (rs more : List Rule) (n : ℕ) → n ≡ verdict rs → (n ≡ 0 → ⊥) → n ≡ verdict (rs ++ more)
unfolding verdict
rows-broken [] more n e bad = absurd (bad e)
rows-broken (r ∷ rs) more n e bad = by r.broken refl (λ h. rows-broken rs more n h bad)
  where
    by : (b : Bool) → r.broken ≡ b → (n ≡ verdict rs → n ≡ verdict (rs ++ more)) → n ≡ verdict ((r ∷ rs) ++ more)
    by true q on = rw q (rw q at e)
    by false q on = rw q (on (rw q at e))

pub rows-passed : (rs more : List Rule) (k : ℕ) → Unbroken rs → k ≡ verdict more → k ≡ verdict (rs ++ more)
rows-passed [] more k h e = e
rows-passed (r ∷ rs) more k h e = rows-passed rs more k h.1 e ∙ sym (verdict_skip r.number r.broken (rs ++ more) h.0)

-- the verdict is 0 where no rule is broken, and else the number of a broken rule before which none is
pub verdict-none : (rs : List Rule) → Unbroken rs → verdict rs ≡ 0
unfolding verdict
verdict-none [] h = refl
verdict-none (r ∷ rs) h = verdict_skip r.number r.broken rs h.0 ∙ verdict-none rs h.1

pub verdict-first : (rs : List Rule) → (verdict rs ≡ 0 → ⊥)
    → (earlier : List Rule) × (r : Rule) × (later : List Rule) × (rs ≡ earlier ++ r ∷ later) × Unbroken earlier × (r.broken ≡ true) × (verdict rs ≡ r.number)
unfolding verdict
verdict-first [] h = absurd (h refl)
verdict-first (r ∷ rs) h = by r.broken refl (verdict-first rs)
  where
    by : (b : Bool) → r.broken ≡ b
        → ((verdict rs ≡ 0 → ⊥)
        → (earlier : List Rule) × (x : Rule) × (later : List Rule) × (rs ≡ earlier ++ x ∷ later) × Unbroken earlier × (x.broken ≡ true) × (verdict rs ≡ x.number))
        → (earlier : List Rule) × (x : Rule) × (later : List Rule) × (r ∷ rs ≡ earlier ++ x ∷ later) × Unbroken earlier × (x.broken ≡ true) × (verdict (r ∷ rs) ≡ x.number)
    by true e more = ([], r, rs, refl, tt, e, rw e)
    by false e more =
        let skip : verdict (r ∷ rs) ≡ verdict rs = verdict_skip r.number r.broken rs e in
        let w = more (λ z. h (skip ∙ z)) in
        (r ∷ w.0, w.1, w.2, ap (λ (l : List Rule). r ∷ l) w.3, (e, w.4), w.5, skip ∙ w.6)

-- the verdict is not a number that no row has
abbrev pub Lacks : ℕ → List Rule → Type 0
Lacks n [] = Unit {0}
Lacks n (r ∷ rs) = (r.number ≡ n → ⊥) × Lacks n rs

pub verdict_lacks : (n : ℕ) (rs : List Rule) → (n ≡ 0 → ⊥) → Lacks n rs → verdict rs ≡ n → ⊥
unfolding verdict
verdict_lacks n [] some h e = some (sym e)
verdict_lacks n (r ∷ rs) some h e = by r.broken refl (verdict_lacks n rs some h.1)
  where
    by : (b : Bool) → r.broken ≡ b → (verdict rs ≡ n → ⊥) → ⊥
    by true q more = h.0 (rw q at e)
    by false q more = more (rw q at e)

-- the verdict is below a number that all rows are below
abbrev pub Below : ℕ → List Rule → Type 0
Below n [] = Unit {0}
Below n (r ∷ rs) = (r.number < n) × Below n rs

pub verdict-below : (n : ℕ) (rs : List Rule) → 0 < n → Below n rs → verdict rs < n
unfolding verdict
verdict-below n [] some h = some
verdict-below n (r ∷ rs) some h = by r.broken refl (verdict-below n rs some h.1)
  where
    by : (b : Bool) → r.broken ≡ b → verdict rs < n → verdict (r ∷ rs) < n
    by true q more = rw q h.0
    by false q more = rw q more
