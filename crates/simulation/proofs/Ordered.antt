-- Ascending lists as sets: where a member stands, the place of a number, one put in, one taken out, and that a set has one list.
use Prim.Native.Nat.{ℕ, zero, suc, ◌+◌, ◌-◌, ◌<◌, ◌≤◌}
use native.Mathlib.Nat.{eq-or-lt_of_le}
use native.Mathlib.Numerals.{add-one}
use native.Mathlib.Omega.{arith}
use mathlib.Core.Path.{◌≡◌, refl, sym, ◌∙◌, ap}
use mathlib.Core.Logic.{◌⊎◌, inl, inr, ⊎_elim}
use mathlib.Core.Bool.{Bool, true, false, not, ◌&&◌, ◌||◌, cond, or_comm, or_assoc, or-false, and-true, and-false}
use mathlib.Core.List.{List, [], ◌∷◌, ◌++◌}
use lib.Dec.{ltb, leb, eqb}
use lib.ListN.{length, get_or, length-append}
use borrow.Author.Tests.{ltb-true, ltb-false, lt-ltb, leb-true, leb-false, eqb-true, eqb-false, eq-eqb}
use Rattle.simulation.specs.Search.{first}
use Rattle.simulation.specs.Sets.{Set}
use Rattle.simulation.specs.Ordered.{elem, ascends, list_of, insert, remove}
use Rattle.simulation.proofs.Sets.{clash, split, same, refuted, and_l, and_r, or_l, or_r, or-take, not-take, all_make, all_take}
use Rattle.simulation.proofs.Search.{first-le, first-before, first-at}

-- each entry is below all that follow it
abbrev pub Rising : List ℕ → Type 0
Rising [] = Unit {0}
Rising (x ∷ xs) = ((y : ℕ) → elem y xs ≡ true → x < y) × Rising xs

-- ---- members

pub elem-head : (x : ℕ) (xs : List ℕ) → elem x (x ∷ xs) ≡ true
unfolding elem
elem-head x xs = or_l (elem x xs) (eq-eqb x x refl)

pub elem_tail : (x y : ℕ) (ys : List ℕ) → elem x ys ≡ true → elem x (y ∷ ys) ≡ true
unfolding elem
elem_tail x y ys h = or_r (eqb x y) h

pub elem-take : (x y : ℕ) (ys : List ℕ) → elem x (y ∷ ys) ≡ true → (x ≡ y) ⊎ (elem x ys ≡ true)
unfolding elem
elem-take x y ys h = ⊎_elim (λ e. inl (eqb-true x y e)) (λ e. inr e) (or-take (eqb x y) (elem x ys) h)

-- what stands at an index is a member, and a member stands at an index
pub elem_at : (xs : List ℕ) (k : ℕ) → k < length xs → elem (get_or xs k 0) xs ≡ true
elem_at [] k h = absurd (omega arith)
elem_at (x ∷ xs) zero h = elem-head x xs
elem_at (x ∷ xs) (suc k) h = elem_tail (get_or xs k 0) x xs (elem_at xs k (omega arith))

pub elem_index : (x : ℕ) (xs : List ℕ) → elem x xs ≡ true → (k : ℕ) × (k < length xs) × (get_or xs k 0 ≡ x)
unfolding elem
elem_index x [] h = clash h refl
elem_index x (y ∷ ys) h =
    ⊎_elim
    (λ e. (zero, omega arith, sym e))
    (λ e. let r = elem_index x ys e in (suc r.0, omega arith, r.2))
    (elem-take x y ys h)

-- ---- ascending

risen : (xs : List ℕ) → ((k : ℕ) → suc k < length xs → get_or xs k 0 < get_or xs (suc k) 0) → Rising xs
unfolding elem
risen [] h = tt
risen (x ∷ []) h = (λ y e. clash e refl, tt)
risen (x ∷ y ∷ ys) h =
    let r = risen (y ∷ ys) (λ k l. h (suc k) (omega arith)) in
    let l : x < y = h zero (omega arith) in
    (λ z e. ⊎_elim (λ (q : z ≡ y). omega arith) (λ q. let m : y < z = r.0 z q in omega arith) (elem-take z y ys e), r)

pub rising-take : (xs : List ℕ) → ascends xs ≡ true → Rising xs
unfolding ascends
rising-take xs h =
    risen xs
    (λ k l.
    rw (← add-one k)
    (ltb-true (get_or xs k 0) (get_or xs (k + 1) 0)
    (all_take (length xs - 1) (λ k. ltb (get_or xs k 0) (get_or xs (k + 1) 0)) h k (omega arith))))

pub ascending : (xs : List ℕ) → Rising xs → (j k : ℕ) → j < k → k < length xs → get_or xs j 0 < get_or xs k 0
ascending [] r j k h l = absurd (omega arith)
ascending (x ∷ xs) r j zero h l = absurd (omega arith)
ascending (x ∷ xs) r zero (suc k) h l = r.0 (get_or xs k 0) (elem_at xs k (omega arith))
ascending (x ∷ xs) r (suc j) (suc k) h l = ascending xs r.1 j k (omega arith) (omega arith)

pub rising_make : (xs : List ℕ) → Rising xs → ascends xs ≡ true
unfolding ascends
rising_make xs r =
    all_make (length xs - 1) (λ k. ltb (get_or xs k 0) (get_or xs (k + 1) 0))
    (λ k l. lt-ltb (get_or xs k 0) (get_or xs (k + 1) 0) (ascending xs r k (k + 1) (omega arith) (omega arith)))

-- the first entry is the least
pub rising_least : (x y : ℕ) (ys : List ℕ) → Rising (y ∷ ys) → elem x (y ∷ ys) ≡ true → y ≤ x
rising_least x y ys r h =
    ⊎_elim (λ (e : x ≡ y). omega arith) (λ e. let l : y < x = r.0 x e in omega arith) (elem-take x y ys h)

-- ---- the place of a number: the index of the first entry that is not below it

abbrev pub place : List ℕ → ℕ → ℕ
place xs x = first (λ k. leb x (get_or xs k 0)) 0 (length xs)

module _ (xs : List ℕ) (x : ℕ) where
  pub place-le : place xs x ≤ length xs
  place-le = first-le (λ k. leb x (get_or xs k 0)) 0 (length xs) (omega arith)

  pub before-place : (k : ℕ) → k < place xs x → get_or xs k 0 < x
  before-place k h =
      leb-false x (get_or xs k 0) (first-before (λ k. leb x (get_or xs k 0)) 0 (length xs) k (omega arith) h)

  pub place_at : place xs x < length xs → x ≤ get_or xs (place xs x) 0
  place_at h =
      leb-true x (get_or xs (place xs x) 0) (first-at (λ k. leb x (get_or xs k 0)) 0 (length xs) (omega arith) h)

  pub after-place : Rising xs → (k : ℕ) → k < length xs → place xs x ≤ k → x ≤ get_or xs k 0
  after-place r k l h =
      let p = place xs x in
      let here : x ≤ get_or xs p 0 = place_at (omega arith) in
      ⊎_elim
      (λ (e : p ≡ k). rw (← e) here)
      (λ (m : p < k). let s : get_or xs p 0 < get_or xs k 0 = ascending xs r p k m l in omega arith)
      (eq-or-lt_of_le h)

-- ---- one put in

pub elem-insert : (x y : ℕ) (xs : List ℕ) → elem y (insert x xs) ≡ (elem y xs || eqb y x)
unfolding elem insert
elem-insert x y [] = or-false (eqb y x)
elem-insert x y (z ∷ zs) = by (ltb x z) (elem-insert x y zs)
  where
    by : (b : Bool) → elem y (insert x zs) ≡ (elem y zs || eqb y x)
        → elem y (cond b (x ∷ z ∷ zs) (z ∷ insert x zs)) ≡ (elem y (z ∷ zs) || eqb y x)
    by true ih = or_comm (eqb y x) (eqb y z || elem y zs)
    by false ih = rw (ih, or_assoc (eqb y z) (elem y zs) (eqb y x))

pub insert-take : (x y : ℕ) (xs : List ℕ) → elem y (insert x xs) ≡ true → (elem y xs ≡ true) ⊎ (y ≡ x)
insert-take x y xs h =
    ⊎_elim (λ e. inl e) (λ e. inr (eqb-true y x e)) (or-take (elem y xs) (eqb y x) (sym (elem-insert x y xs) ∙ h))

pub length-insert : (x : ℕ) (xs : List ℕ) → length (insert x xs) ≡ suc (length xs)
unfolding insert
length-insert x [] = refl
length-insert x (y ∷ ys) = by (ltb x y) (length-insert x ys)
  where
    by : (b : Bool) → length (insert x ys) ≡ suc (length ys) → length (cond b (x ∷ y ∷ ys) (y ∷ insert x ys)) ≡ suc (suc (length ys))
    by true ih = refl
    by false ih = ap suc ih

pub rising-insert : (x : ℕ) (xs : List ℕ) → Rising xs → elem x xs ≡ false → Rising (insert x xs)
unfolding elem insert
rising-insert x [] r h = (λ y e. clash e refl, tt)
rising-insert x (y ∷ ys) r h = by (ltb x y) refl (rising-insert x ys r.1 (refuted (elem x ys) (λ e. clash (elem_tail x y ys e) h)))
  where
    by : (b : Bool) → ltb x y ≡ b → Rising (insert x ys) → Rising (cond b (x ∷ y ∷ ys) (y ∷ insert x ys))
    by true e ih =
        let l = ltb-true x y e in
        (λ z m. let k : y ≤ z = rising_least z y ys r m in omega arith, r)
    by false e ih =
        let l = ltb-false x y e in
        let ne : (x ≡ y → ⊥) = λ q. clash (or_l (elem x ys) (eq-eqb x y q)) h in
        (λ z m. ⊎_elim (λ k. r.0 z k) (λ (k : z ≡ x). omega arith) (insert-take x z ys m), ih)

-- ---- one taken out

pub elem-remove : (x y : ℕ) (xs : List ℕ) → elem y (remove x xs) ≡ (elem y xs && not (eqb y x))
unfolding elem remove
elem-remove x y [] = refl
elem-remove x y (z ∷ zs) = by (eqb x z) refl (elem-remove x y zs)
  where
    by : (b : Bool) → eqb x z ≡ b → elem y (remove x zs) ≡ (elem y zs && not (eqb y x))
        → elem y (cond b (remove x zs) (z ∷ remove x zs)) ≡ ((eqb y z || elem y zs) && not (eqb y x))
    by true e ih =
        ⊎_elim
        (λ (d : eqb y x ≡ true). rw (ih, d, and-false (elem y zs), and-false (eqb y z || elem y zs)))
        (λ (d : eqb y x ≡ false). rw (ih, ← eqb-true x z e, d))
        (split (eqb y x))
    by false e ih =
        ⊎_elim
        (λ (d : eqb y x ≡ true).
        let c : eqb y z ≡ false = rw (eqb-true y x d) e in
        rw (ih, c, d))
        (λ (d : eqb y x ≡ false). rw (ih, d, and-true (elem y zs), and-true (eqb y z || elem y zs)))
        (split (eqb y x))

pub remove-take : (x y : ℕ) (xs : List ℕ) → elem y (remove x xs) ≡ true → (elem y xs ≡ true) × (y ≡ x → ⊥)
remove-take x y xs h =
    let k : (elem y xs && not (eqb y x)) ≡ true = sym (elem-remove x y xs) ∙ h in
    (and_l (elem y xs) (not (eqb y x)) k, eqb-false y x (not-take (eqb y x) (and_r (elem y xs) (not (eqb y x)) k)))

pub length-remove-le : (x : ℕ) (xs : List ℕ) → length (remove x xs) ≤ length xs
unfolding remove
length-remove-le x [] = omega arith
length-remove-le x (y ∷ ys) = by (eqb x y) (length-remove-le x ys)
  where
    by : (b : Bool) → length (remove x ys) ≤ length ys → length (cond b (remove x ys) (y ∷ remove x ys)) ≤ suc (length ys)
    by true ih = omega arith
    by false ih = omega arith

pub rising-remove : (x : ℕ) (xs : List ℕ) → Rising xs → Rising (remove x xs)
unfolding remove
rising-remove x [] r = tt
rising-remove x (y ∷ ys) r = by (eqb x y) (rising-remove x ys r.1)
  where
    by : (b : Bool) → Rising (remove x ys) → Rising (cond b (remove x ys) (y ∷ remove x ys))
    by true ih = ih
    by false ih = (λ z m. r.0 z (remove-take x z ys m).0, ih)

-- ---- a set has one ascending list

pub same_elems : (xs ys : List ℕ) → Rising xs → Rising ys → ((x : ℕ) → elem x xs ≡ elem x ys) → xs ≡ ys
unfolding elem
same_elems [] [] r s h = refl
same_elems [] (y ∷ ys) r s h = clash (elem-head y ys) (sym (h y))
same_elems (x ∷ xs) [] r s h = clash (elem-head x xs) (h x)
same_elems (x ∷ xs) (y ∷ ys) r s h =
    let up : y ≤ x = rising_least x y ys s (sym (h x) ∙ elem-head x xs) in
    let down : x ≤ y = rising_least y x xs r (h y ∙ elem-head y ys) in
    let e : x ≡ y = omega arith in
    rw (
      e,
      same_elems xs ys r.1 s.1
          (λ z.
          same (elem z xs) (elem z ys)
          (λ m. ⊎_elim (λ (k : z ≡ y). let l : x < z = r.0 z m in absurd (omega arith)) (λ k. k) (elem-take z y ys (sym (h z) ∙ elem_tail z x xs m)))
          (λ m. ⊎_elim (λ (k : z ≡ x). let l : y < z = s.0 z m in absurd (omega arith)) (λ k. k) (elem-take z x xs (h z ∙ elem_tail z y ys m)))),
    )

pub remove-insert : (x : ℕ) (xs : List ℕ) → Rising xs → elem x xs ≡ false → remove x (insert x xs) ≡ xs
remove-insert x xs r h =
    same_elems (remove x (insert x xs)) xs (rising-remove x (insert x xs) (rising-insert x xs r h)) r
    (λ y.
    elem-remove x y (insert x xs) ∙ ap (λ (b : Bool). b && not (eqb y x)) (elem-insert x y xs)
    ∙ ⊎_elim
    (λ (e : eqb y x ≡ true). rw (eqb-true y x e, h, eq-eqb x x refl))
    (λ (e : eqb y x ≡ false). rw (e, and-true (elem y xs || false), or-false (elem y xs)))
    (split (eqb y x)))

pub insert-remove : (x : ℕ) (xs : List ℕ) → Rising xs → elem x xs ≡ true → insert x (remove x xs) ≡ xs
insert-remove x xs r h =
    same_elems (insert x (remove x xs)) xs (rising-insert x (remove x xs) (rising-remove x xs r) gone) r
    (λ y.
    elem-insert x y (remove x xs) ∙ ap (λ (b : Bool). b || eqb y x) (elem-remove x y xs)
    ∙ ⊎_elim
    (λ (e : eqb y x ≡ true). rw (eqb-true y x e, h, eq-eqb x x refl))
    (λ (e : eqb y x ≡ false). rw (e, and-true (elem y xs), or-false (elem y xs)))
    (split (eqb y x)))
  where
    gone : elem x (remove x xs) ≡ false
    gone = refuted (elem x (remove x xs)) (λ m. (remove-take x x xs m).1 refl)

pub length-remove : (x : ℕ) (xs : List ℕ) → Rising xs → elem x xs ≡ true → suc (length (remove x xs)) ≡ length xs
length-remove x xs r h = sym (length-insert x (remove x xs)) ∙ ap length (insert-remove x xs r h)

-- ---- one list after another

pub elem-append : (x : ℕ) (xs ys : List ℕ) → elem x (xs ++ ys) ≡ (elem x xs || elem x ys)
unfolding elem
elem-append x [] ys = refl
elem-append x (y ∷ xs) ys = rw (elem-append x xs ys) (sym (or_assoc (eqb x y) (elem x xs) (elem x ys)))

pub rising-append : (xs ys : List ℕ) → Rising xs → Rising ys → ((x y : ℕ) → elem x xs ≡ true → elem y ys ≡ true → x < y) → Rising (xs ++ ys)
rising-append [] ys h k above = k
rising-append (x ∷ xs) ys h k above = (
  λ y e. ⊎_elim (λ i. h.0 y i) (λ i. above x y (elem-head x xs) i) (or-take (elem y xs) (elem y ys) (sym (elem-append y xs ys) ∙ e)),
  rising-append xs ys h.1 k (λ z y i j. above z y (elem_tail z x xs i) j),
)

-- ---- the members of a set below n

elem-one : (y n : ℕ) (b : Bool) → elem y (cond b (n ∷ []) []) ≡ true → (y ≡ n) × (b ≡ true)
unfolding elem
elem-one y n true h = ⊎_elim (λ e. (e, refl)) (λ e. clash e refl) (elem-take y n [] h)
elem-one y n false h = clash h refl

module _ (X : Set) where
  pub listed-take : (n x : ℕ) → elem x (list_of n X) ≡ true → (x < n) × (X x ≡ true)
  unfolding list_of elem
  listed-take zero x h = clash h refl
  listed-take (suc n) x h =
      ⊎_elim
      (λ e. let r = listed-take n x e in (omega (arith, r.0), r.1))
      (λ e. let r = elem-one x n (X n) e in (omega (arith, r.0), ap X r.0 ∙ r.1))
      (or-take (elem x (list_of n X)) (elem x (cond (X n) (n ∷ []) [])) (sym (elem-append x (list_of n X) (cond (X n) (n ∷ []) [])) ∙ h))

  pub listed_make : (n x : ℕ) → x < n → X x ≡ true → elem x (list_of n X) ≡ true
  unfolding list_of
  listed_make zero x l h = absurd (omega arith)
  listed_make (suc n) x l h =
      elem-append x (list_of n X) (cond (X n) (n ∷ []) [])
      ∙ ⊎_elim
      (λ (e : suc x ≡ suc n).
      let q : x ≡ n = omega arith in
      or_r (elem x (list_of n X)) (rw (q, ap X (sym q) ∙ h) (elem-head n [])))
      (λ (k : suc x < suc n). or_l (elem x (cond (X n) (n ∷ []) [])) (listed_make n x (omega arith) h))
      (eq-or-lt_of_le l)

  pub listed-rises : (n : ℕ) → Rising (list_of n X)
  unfolding list_of elem
  listed-rises zero = tt
  listed-rises (suc n) =
      rising-append (list_of n X) (cond (X n) (n ∷ []) []) (listed-rises n) (alone (X n))
      (λ x y i j. let below = (listed-take n x i).0 in let here = (elem-one y n (X n) j).0 in omega arith)
    where
      alone : (b : Bool) → Rising (cond b (n ∷ []) [])
      alone true = (λ y e. clash e refl, tt)
      alone false = tt

  pub listed-short : (n : ℕ) → length (list_of n X) ≤ n
  unfolding list_of
  listed-short zero = omega arith
  listed-short (suc n) = omega (arith, length-append (list_of n X) (cond (X n) (n ∷ []) []), listed-short n, short (X n))
    where
      short : (b : Bool) → length (cond b (n ∷ []) []) ≤ 1
      short true = omega arith
      short false = omega arith
