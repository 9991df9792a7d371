-- The laws of `specs/Sets`: bounded quantifiers, counting, and the two fixed points.
use Prim.Native.Nat.{ℕ, zero, suc, ◌+◌, ◌≤◌, ◌<◌, zero-le}
use native.Mathlib.Nat.{not-suc-le-zero}
use native.Mathlib.Omega.{arith}
use mathlib.Core.Path.{◌≡◌, refl, sym, ◌∙◌, ap}
use mathlib.Core.Logic.{◌⊎◌, inl, inr, ⊎_elim}
use mathlib.Core.Bool.{Bool, true, false, not, ◌&&◌, ◌||◌, cond, and-false, or_assoc, and-or_distrib_right, true≢false}
use lib.Dec.{ltb, eqb}
use borrow.Author.Tests.{ltb-true, lt-ltb, eqb-true, eqb-false}
use Rattle.simulation.specs.Sets.{Set, In, none, any_below, all_below, count, down, shrunk, up, grown}

-- ---- Booleans

pub clash {ℓ} : {A : Type ℓ} {b : Bool} → b ≡ true → b ≡ false → A
clash t f = absurd (true≢false (sym t ∙ f))

pub split : (b : Bool) → (b ≡ true) ⊎ (b ≡ false)
split true = inl refl
split false = inr refl

pub refuted : (b : Bool) → (b ≡ true → ⊥) → b ≡ false
refuted true f = absurd (f refl)
refuted false f = refl

pub same : (a b : Bool) → (a ≡ true → b ≡ true) → (b ≡ true → a ≡ true) → a ≡ b
same true b f g = sym (f refl)
same false true f g = g refl
same false false f g = refl

pub and_make : {a b : Bool} → a ≡ true → b ≡ true → (a && b) ≡ true
and_make p q = rw p q

pub and_l : (a b : Bool) → (a && b) ≡ true → a ≡ true
and_l true b h = refl
and_l false b h = h

pub and_r : (a b : Bool) → (a && b) ≡ true → b ≡ true
and_r true b h = h
and_r false b h = clash h refl

pub and_none : (a : Bool) {b : Bool} → b ≡ false → (a && b) ≡ false
and_none a p = rw p (and-false a)

pub or_l : {a : Bool} (b : Bool) → a ≡ true → (a || b) ≡ true
or_l b p = rw p

pub or_r : (a : Bool) {b : Bool} → b ≡ true → (a || b) ≡ true
or_r true p = refl
or_r false p = p

pub or-none : {a b : Bool} → a ≡ false → b ≡ false → (a || b) ≡ false
or-none p q = rw (p, q)

pub or_false_l : (a b : Bool) → (a || b) ≡ false → a ≡ false
or_false_l true b h = h
or_false_l false b h = refl

pub or_false_r : (a b : Bool) → (a || b) ≡ false → b ≡ false
or_false_r true b h = clash refl h
or_false_r false b h = h

pub or-both : (a b c d : Bool) → ((a || (b && d)) || (c && d)) ≡ (a || ((b || c) && d))
or-both a b c d = or_assoc a (b && d) (c && d) ∙ ap (λ (x : Bool). a || x) (sym (and-or_distrib_right b c d))

pub or-take : (a b : Bool) → (a || b) ≡ true → (a ≡ true) ⊎ (b ≡ true)
or-take true b h = inl refl
or-take false b h = inr h

pub not_make : {b : Bool} → b ≡ false → not b ≡ true
not_make p = rw p

pub not-take : (b : Bool) → not b ≡ true → b ≡ false
not-take true h = sym h
not-take false h = refl

pub implies_make : (a b : Bool) → (a ≡ true → b ≡ true) → (not a || b) ≡ true
implies_make true b h = h refl
implies_make false b h = refl

pub implies_take : (a b : Bool) → (not a || b) ≡ true → a ≡ true → b ≡ true
implies_take true b h e = h
implies_take false b h e = clash e refl

pub implies_false : (a b : Bool) → (not a || b) ≡ false → (a ≡ true) × (b ≡ false)
implies_false true b h = (refl, h)
implies_false false b h = clash refl h

-- ---- the bounded quantifiers

pub any_make : (n : ℕ) (f : Set) (q : ℕ) → q < n → In f q → any_below n f ≡ true
unfolding any_below
any_make zero f q h m = absurd (not-suc-le-zero h)
any_make (suc n) f q h m =
    ⊎_elim
    (λ e. or_l (any_below n f) e)
    (λ e. let ne : (q ≡ n → ⊥) = λ same. clash m (ap f same ∙ e) in or_r (f n) (any_make n f q (omega arith) m))
    (split (f n))

pub any_take : (n : ℕ) (f : Set) → any_below n f ≡ true → (q : ℕ) × (q < n) × In f q
unfolding any_below
any_take zero f h = clash h refl
any_take (suc n) f h =
    ⊎_elim
    (λ e. (n, omega arith, e))
    (λ e. let r = any_take n f e in (r.0, omega arith, r.2))
    (or-take (f n) (any_below n f) h)

pub all_make : (n : ℕ) (f : Set) → ((q : ℕ) → q < n → In f q) → all_below n f ≡ true
unfolding all_below
all_make zero f h = refl
all_make (suc n) f h = and_make (h n (omega arith)) (all_make n f (λ q l. h q (omega arith)))

pub all_take : (n : ℕ) (f : Set) → all_below n f ≡ true → (q : ℕ) → q < n → In f q
unfolding all_below
all_take zero f h q l = absurd (not-suc-le-zero l)
all_take (suc n) f h q l =
    ⊎_elim
    (λ e. e)
    (λ e.
    let ne : (q ≡ n → ⊥) = λ same. clash (and_l (f n) (all_below n f) h) (ap f (sym same) ∙ e) in
    all_take n f (and_r (f n) (all_below n f) h) q (omega arith))
    (split (f q))

pub all_both : (n : ℕ) (f g : Set) → all_below n (λ q. f q && g q) ≡ (all_below n f && all_below n g)
all_both n f g =
    same (all_below n (λ q. f q && g q)) (all_below n f && all_below n g)
    (λ h.
    and_make
    (all_make n f (λ q l. and_l (f q) (g q) (all_take n (λ q. f q && g q) h q l)))
    (all_make n g (λ q l. and_r (f q) (g q) (all_take n (λ q. f q && g q) h q l))))
    (λ h.
    all_make n (λ q. f q && g q)
    (λ q l. and_make (all_take n f (and_l (all_below n f) (all_below n g) h) q l) (all_take n g (and_r (all_below n f) (all_below n g) h) q l)))

pub all-false : (n : ℕ) (f : Set) → all_below n f ≡ false → (q : ℕ) × (q < n) × (f q ≡ false)
unfolding all_below
all-false zero f h = clash refl h
all-false (suc n) f h =
    ⊎_elim
    (λ e. let r = all-false n f (rw e at h) in (r.0, omega arith, r.2))
    (λ e. (n, omega arith, e))
    (split (f n))

not-or : (p q : Bool) → not (p || q) ≡ (not p && not q)
not-or true q = refl
not-or false q = refl

-- no number below n is in the set: each is outside
pub not_any : (n : ℕ) (f : Set) → not (any_below n f) ≡ all_below n (λ q. not (f q))
unfolding any_below all_below
not_any zero f = refl
not_any (suc n) f = not-or (f n) (any_below n f) ∙ ap (λ (b : Bool). not (f n) && b) (not_any n f)

-- ---- counting

bit : (b : Bool) → cond b 1 0 ≤ 1
bit true = omega arith
bit false = omega arith

bit_mono : (a b : Bool) → (a ≡ true → b ≡ true) → cond a 1 0 ≤ cond b 1 0
bit_mono true b h = rw (h refl) (omega arith)
bit_mono false b h = zero-le

bit-drop : (a b : Bool) → a ≡ false → b ≡ true → cond a 1 0 < cond b 1 0
bit-drop a b p q = rw (p, q) (omega arith)

pub count-le : (n : ℕ) (f : Set) → count n f ≤ n
unfolding count
count-le zero f = zero-le
count-le (suc n) f = omega (arith, bit (f n), count-le n f)

pub count_mono : (n : ℕ) (f g : Set) → ((p : ℕ) → In f p → In g p) → count n f ≤ count n g
unfolding count
count_mono zero f g h = zero-le
count_mono (suc n) f g h = omega (arith, bit_mono (f n) (g n) (h n), count_mono n f g h)

pub count-drop : (n : ℕ) (f g : Set) → ((p : ℕ) → In f p → In g p) → (x : ℕ) → x < n → In g x → f x ≡ false → count n f < count n g
unfolding count
count-drop zero f g h x l gx fx = absurd (not-suc-le-zero l)
count-drop (suc n) f g h x l gx fx =
    ⊎_elim
    (λ e.
    let here = eqb-true x n e in
    omega (arith, bit-drop (f n) (g n) (ap f (sym here) ∙ fx) (ap g (sym here) ∙ gx), count_mono n f g h))
    (λ e. let away = eqb-false x n e in omega (arith, bit_mono (f n) (g n) (h n), count-drop n f g h x (omega arith) gx fx))
    (split (eqb x n))

pub count-some : (n : ℕ) (f : Set) (x : ℕ) → x < n → In f x → 0 < count n f
count-some n f x l m = omega (arith, count-drop n none f (λ p e. clash e refl) x l m refl)

-- a set that counts n below n has every number below n
pub count-full : (n : ℕ) (f : Set) → n ≤ count n f → (x : ℕ) → x < n → In f x
count-full n f h x l =
    ⊎_elim
    (λ e. e)
    (λ e. absurd (omega (arith, count-drop n f (λ p. true) (λ p m. refl) x l refl e, count-le n (λ p. true))))
    (split (f x))

-- ---- the greatest fixed point, by shrinking

module _ (n : ℕ) (F : Set → Set) (T : Set) where
  down-start : (k p : ℕ) → In (down n F T k) p → (p < n) × In T p
  unfolding down
  down-start zero p h = (ltb-true p n (and_l (ltb p n) (T p) h), and_r (ltb p n) (T p) h)
  down-start (suc k) p h = down-start k p (and_l (down n F T k p) (F (down n F T k) p) h)

  -- whatever relation each of its supersets lets pass is within each step
  pub down-greatest : (R : ℕ → Type 0) → ((p : ℕ) → R p → p < n) → ((p : ℕ) → R p → In T p)
      → ((X : Set) → ((p : ℕ) → R p → In X p) → (p : ℕ) → R p → In (F X) p)
      → (k p : ℕ) → R p → In (down n F T k) p
  unfolding down
  down-greatest R inside start passes zero p r = and_make (lt-ltb p n (inside p r)) (start p r)
  down-greatest R inside start passes (suc k) p r =
      and_make
      (down-greatest R inside start passes k p r)
      (passes (down n F T k) (λ q. down-greatest R inside start passes k q) p r)

  abbrev Stable : ℕ → Type 0
  Stable k = (p : ℕ) → In (down n F T k) p → In (F (down n F T k)) p

  pub shrunk-inside : (p : ℕ) → In (shrunk n F T) p → p < n
  unfolding shrunk
  shrunk-inside p h = (down-start n p h).0

  pub shrunk-start : (p : ℕ) → In (shrunk n F T) p → In T p
  unfolding shrunk
  shrunk-start p h = (down-start n p h).1

  pub shrunk-greatest : (R : ℕ → Type 0) → ((p : ℕ) → R p → p < n) → ((p : ℕ) → R p → In T p)
      → ((X : Set) → ((p : ℕ) → R p → In X p) → (p : ℕ) → R p → In (F X) p)
      → (p : ℕ) → R p → In (shrunk n F T) p
  unfolding shrunk
  shrunk-greatest R inside start passes p r = down-greatest R inside start passes n p r

  module _ (mono : (X Y : Set) → ((p : ℕ) → In X p → In Y p) → (p : ℕ) → In (F X) p → In (F Y) p) where
    stable_step : (k : ℕ) → Stable k → Stable (suc k)
    unfolding down
    stable_step k st p h =
        mono (down n F T k) (down n F T (suc k)) (λ q m. and_make m (st q m)) p (and_r (down n F T k p) (F (down n F T k) p) h)

    -- each step keeps all, or loses one
    progress : (k : ℕ) → Stable k ⊎ (count n (down n F T k) + k ≤ n)
    unfolding down
    progress zero = inr (omega (arith, count-le n (down n F T zero)))
    progress (suc k) = ⊎_elim (λ st. inl (stable_step k st)) (λ c. go c (split (all_below n test))) (progress k)
      where
        now : Set
        now = down n F T k

        test : Set
        test p = not (now p) || F now p

        go : count n now + k ≤ n → (all_below n test ≡ true) ⊎ (all_below n test ≡ false) → Stable (suc k) ⊎ (count n (down n F T (suc k)) + suc k ≤ n)
        go c (inl e) = inl (stable_step k (λ p h. implies_take (now p) (F now p) (all_take n test e p (down-start k p h).0) h))
        go c (inr e) =
            let r = all-false n test e in
            let w = implies_false (now r.0) (F now r.0) r.2 in
            let lost : down n F T (suc k) r.0 ≡ false = and_none (now r.0) w.1 in
            inr (omega (arith, count-drop n (down n F T (suc k)) now (λ p. and_l (now p) (F now p)) r.0 r.1 w.0 lost))

    pub shrunk-holds : (p : ℕ) → In (shrunk n F T) p → In (F (shrunk n F T)) p
    unfolding shrunk
    shrunk-holds p h =
        ⊎_elim
        (λ st. st p h)
        (λ c. absurd (omega (arith, count-some n (down n F T n) p (shrunk-inside p h) h)))
        (progress n)

-- ---- the least fixed point, by growing

module _ (n : ℕ) (G : Set → Set) where
  up_least : (R : ℕ → Type 0) → ((X : Set) → ((p : ℕ) → In X p → R p) → (p : ℕ) → p < n → In (G X) p → R p) → (k p : ℕ) → In (up n G k) p → R p
  unfolding up
  up_least R next zero p h = clash h refl
  up_least R next (suc k) p h =
      ⊎_elim
      (λ e. up_least R next k p e)
      (λ e.
      next (up n G k) (λ q. up_least R next k q) p (ltb-true p n (and_l (ltb p n) (G (up n G k) p) e))
      (and_r (ltb p n) (G (up n G k) p) e))
      (or-take (up n G k p) (ltb p n && G (up n G k) p) h)

  abbrev Closed : ℕ → Type 0
  Closed k = (p : ℕ) → p < n → In (G (up n G k)) p → In (up n G k) p

  -- whatever relation has each number that passes the test made by a subset of it has the whole
  pub grown_least : (R : ℕ → Type 0) → ((X : Set) → ((p : ℕ) → In X p → R p) → (p : ℕ) → p < n → In (G X) p → R p) → (p : ℕ) → In (grown n G) p → R p
  unfolding grown
  grown_least R next p h = up_least R next n p h

  pub grown-inside : (p : ℕ) → In (grown n G) p → p < n
  grown-inside = grown_least (λ p. p < n) (λ X sub p l h. l)

  module _ (mono : (X Y : Set) → ((p : ℕ) → In X p → In Y p) → (p : ℕ) → In (G X) p → In (G Y) p) where
    closed_step : (k : ℕ) → Closed k → Closed (suc k)
    unfolding up
    closed_step k st p l h =
        or_l (ltb p n && G (up n G k) p)
        (st p l
        (mono (up n G (suc k)) (up n G k)
        (λ q m.
        ⊎_elim (λ e. e)
        (λ e. st q (ltb-true q n (and_l (ltb q n) (G (up n G k) q) e)) (and_r (ltb q n) (G (up n G k) q) e))
        (or-take (up n G k q) (ltb q n && G (up n G k) q) m))
        p h))

    -- each step keeps all, or gains one
    gains : (k : ℕ) → Closed k ⊎ (k ≤ count n (up n G k))
    unfolding up
    gains zero = inr zero-le
    gains (suc k) = ⊎_elim (λ st. inl (closed_step k st)) (λ c. go c (split (all_below n test))) (gains k)
      where
        now : Set
        now = up n G k

        test : Set
        test p = not (G now p) || now p

        go : k ≤ count n now → (all_below n test ≡ true) ⊎ (all_below n test ≡ false) → Closed (suc k) ⊎ (suc k ≤ count n (up n G (suc k)))
        go c (inl e) = inl (closed_step k (λ p l h. implies_take (G now p) (now p) (all_take n test e p l) h))
        go c (inr e) =
            let r = all-false n test e in
            let w = implies_false (G now r.0) (now r.0) r.2 in
            let won : up n G (suc k) r.0 ≡ true = or_r (now r.0) (and_make (lt-ltb r.0 n r.1) w.0) in
            inr (omega (arith, count-drop n now (up n G (suc k)) (λ p m. or_l (ltb p n && G now p) m) r.0 r.1 won w.1))

    pub grown_closed : (p : ℕ) → p < n → In (G (grown n G)) p → In (grown n G) p
    unfolding grown
    grown_closed p l h = ⊎_elim (λ st. st p l h) (λ c. count-full n (up n G n) c p l) (gains n)
