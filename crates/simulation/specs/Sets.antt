-- Decidable sets of numbers: bounded quantifiers, counting, and the two iterations to a fixed point.
use Rattle.std.specs.Prelude.{ℕ, zero, suc, ◌+◌, ◌≡◌, Bool, true, false, not, ◌&&◌, ◌||◌, cond, ltb, eqb}

abbrev pub Set : Type 0
Set = ℕ → Bool

abbrev pub In : Set → ℕ → Type 0
In X p = X p ≡ true

abbrev pub none : Set
none p = false

abbrev pub union : Set → Set → Set
union X Y p = X p || Y p

abbrev pub minus : Set → Set → Set
minus X Y p = X p && not (Y p)

-- a set with one number less, or one more
abbrev pub without : Set → ℕ → Set
without X x p = X p && not (eqb p x)

abbrev pub also : Set → ℕ → Set
also X x p = X p || eqb p x

-- some number below n is in the set; every number below n is; how many are
unfoldable pub any_below : ℕ → Set → Bool
any_below zero X = false
any_below (suc n) X = X n || any_below n X

unfoldable pub all_below : ℕ → Set → Bool
all_below zero X = true
all_below (suc n) X = X n && all_below n X

unfoldable pub count : ℕ → Set → ℕ
count zero X = zero
count (suc n) X = cond (X n) 1 0 + count n X

-- the set T below n, shrunk k times by the test F
unfoldable pub down : ℕ → (Set → Set) → Set → ℕ → Set
down n F T zero p = ltb p n && T p
down n F T (suc k) p = down n F T k p && F (down n F T k) p

-- the largest subset of T below n whose members all pass the test that it makes: n steps reach it
unfoldable pub shrunk : ℕ → (Set → Set) → Set → Set
shrunk n F T = down n F T n

-- the empty set, grown k times below n by the test G
unfoldable pub up : ℕ → (Set → Set) → ℕ → Set
up n G zero p = false
up n G (suc k) p = up n G k p || (ltb p n && G (up n G k) p)

-- the least set that has each number below n which passes the test that it makes: n steps reach it
unfoldable pub grown : ℕ → (Set → Set) → Set
grown n G = up n G n
