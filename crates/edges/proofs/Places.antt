-- Where a number stands in an ascending list decides whether it is a member, where it is put in and what is left without it.
use Prim.Native.Nat.{ℕ, zero, suc, ◌<◌, ◌≤◌}
use native.Mathlib.Nat.{eq-or-lt_of_le}
use native.Mathlib.Omega.{arith}
use mathlib.Core.Path.{◌≡◌, refl, sym, ◌∙◌, ap}
use mathlib.Core.Logic.{⊎_elim}
use mathlib.Core.Bool.{Bool, true, false, ◌&&◌, cond}
use mathlib.Core.List.{List, [], ◌∷◌, ◌++◌}
use lib.Dec.{ltb, eqb}
use lib.ListN.{length, get_or, take, drop}
use borrow.Author.Tests.{ltb-true, ltb-false, lt-ltb, le-ltb, eqb-true, eq-eqb}
use Rattle.simulation.specs.Ordered.{elem, insert, remove}
use Rattle.simulation.proofs.Sets.{clash, split, same, refuted, and_make, and_l, and_r}
use Rattle.simulation.proofs.Search.{lt-or-le}
use Rattle.simulation.proofs.Ordered.{
  Rising,
  elem_at,
  elem-head,
  elem_tail,
  elem_index,
  ascending,
  place,
  place-le,
  before-place,
  place_at,
}

-- no entry is above a later one
pub rising_up : (xs : List ℕ) → Rising xs → (i j : ℕ) → i ≤ j → j < length xs → get_or xs i 0 ≤ get_or xs j 0
rising_up xs r i j l m =
    ⊎_elim
    (λ (e : i ≡ j). rw e (omega arith))
    (λ (n : i < j). omega (arith, ascending xs r i j n m))
    (eq-or-lt_of_le l)

-- the place of a number has lesser entries before it and none from it on
pub place_is : (xs : List ℕ) (x i : ℕ) → i ≤ length xs → ((k : ℕ) → k < i → get_or xs k 0 < x) → ((k : ℕ) → i ≤ k → k < length xs → x ≤ get_or xs k 0)
    → i ≡ place xs x
place_is xs x i l low high =
    ⊎_elim
    (λ (m : i < place xs x). absurd (omega (arith, before-place xs x i m, high i (omega arith) (omega (arith, place-le xs x)))))
    (λ (n : place xs x ≤ i).
    ⊎_elim
    (λ (m : place xs x < i). absurd (omega (arith, low (place xs x) m, place_at xs x (omega arith))))
    (λ (m : i ≤ place xs x). omega arith)
    (lt-or-le (place xs x) i))
    (lt-or-le i (place xs x))

-- a member stands at its place
pub place_of_member : (xs : List ℕ) (x : ℕ) → Rising xs → elem x xs ≡ true → (place xs x < length xs) × (get_or xs (place xs x) 0 ≡ x)
place_of_member xs x r h =
    let i = elem_index x xs h in
    let k = i.0 in
    let p = place xs x in
    let up : p ≤ k = ⊎_elim (λ (l : k < p). absurd (omega (arith, before-place xs x k l, i.2))) (λ l. l) (lt-or-le k p) in
    let l : p < length xs = omega (arith, i.1) in
    let low : x ≤ get_or xs p 0 = place_at xs x l in (
      l,
      ⊎_elim
          (λ (m : p < k). let a : get_or xs p 0 < get_or xs k 0 = ascending xs r p k m i.1 in absurd (omega (arith, i.2)))
          (λ (m : k ≤ p). let e : p ≡ k = omega arith in ap (λ (j : ℕ). get_or xs j 0) e ∙ i.2)
          (lt-or-le p k),
    )

-- so there it is looked for
pub elem-place : (xs : List ℕ) (x p : ℕ) → Rising xs → p ≡ place xs x → elem x xs ≡ (ltb p (length xs) && eqb (get_or xs p 0) x)
elem-place xs x p r e =
    same (elem x xs) (inside && here)
    (λ h.
    let m : (p < length xs) × (get_or xs p 0 ≡ x) = rw e (place_of_member xs x r h) in
    and_make (lt-ltb p (length xs) m.0) (eq-eqb (get_or xs p 0) x m.1))
    (λ h.
    ap (λ (y : ℕ). elem y xs) (sym (eqb-true (get_or xs p 0) x (and_r inside here h)))
    ∙ elem_at xs p (ltb-true p (length xs) (and_l inside here h)))
  where
    inside : Bool
    inside = ltb p (length xs)

    here : Bool
    here = eqb (get_or xs p 0) x

-- ---- put in at a place with lesser entries before it and none from it on

insert_least : (x : ℕ) (xs : List ℕ) → ((y : ℕ) → elem y xs ≡ true → x < y) → insert x xs ≡ x ∷ xs
unfolding insert
insert_least x [] h = refl
insert_least x (y ∷ ys) h =
    ap (λ (b : Bool). cond b (x ∷ y ∷ ys) (y ∷ insert x ys)) (lt-ltb x y (h y (elem-head y ys)))

insert-at : (x : ℕ) (xs : List ℕ) (k : ℕ) → Rising xs → k ≤ length xs → ((i : ℕ) → i < k → get_or xs i 0 < x)
    → (k < length xs → x ≤ get_or xs k 0)
    → insert x xs ≡ take k xs ++ (x ∷ drop k xs)
unfolding insert
insert-at x [] zero r l low high = refl
insert-at x [] (suc k) r l low high = absurd (omega arith)
insert-at x (y ∷ ys) zero r l low high =
    ⊎_elim
    (λ (e : ltb x y ≡ true). ap (λ (b : Bool). cond b (x ∷ y ∷ ys) (y ∷ insert x ys)) e)
    (λ (e : ltb x y ≡ false).
    let q : y ≡ x = omega (arith, ltb-false x y e, high (omega arith)) in
    ap (λ (b : Bool). cond b (x ∷ y ∷ ys) (y ∷ insert x ys)) e ∙ ap (λ (zs : List ℕ). y ∷ zs) (insert_least x ys (rw q at r.0)) ∙ rw q)
    (split (ltb x y))
insert-at x (y ∷ ys) (suc k) r l low high =
    let above : ltb x y ≡ false = let m : y < x = low 0 (omega arith) in le-ltb x y (omega arith) in
    ap (λ (b : Bool). cond b (x ∷ y ∷ ys) (y ∷ insert x ys)) above
    ∙ ap (λ (zs : List ℕ). y ∷ zs)
    (insert-at x ys k r.1 (omega arith) (λ i m. low (suc i) (omega arith)) (λ m. high (omega arith)))

pub insert-place : (x : ℕ) (xs : List ℕ) (p : ℕ) → Rising xs → p ≡ place xs x → insert x xs ≡ take p xs ++ (x ∷ drop p xs)
insert-place x xs p r e = rw e (insert-at x xs (place xs x) r (place-le xs x) (before-place xs x) (place_at xs x))

-- ---- taken out of the place where it stands

remove_absent : (x : ℕ) (xs : List ℕ) → elem x xs ≡ false → remove x xs ≡ xs
unfolding elem remove
remove_absent x [] h = refl
remove_absent x (y ∷ ys) h =
    ⊎_elim
    (λ (e : eqb x y ≡ true). clash (rw (← eqb-true x y e) (elem-head x ys)) h)
    (λ (e : eqb x y ≡ false).
    ap (λ (b : Bool). cond b (remove x ys) (y ∷ remove x ys)) e
    ∙ ap (λ (zs : List ℕ). y ∷ zs) (remove_absent x ys (refuted (elem x ys) (λ m. clash (elem_tail x y ys m) h))))
    (split (eqb x y))

remove-at : (x : ℕ) (xs : List ℕ) (k : ℕ) → Rising xs → k < length xs → get_or xs k 0 ≡ x → remove x xs ≡ take k xs ++ drop (suc k) xs
unfolding remove
remove-at x [] k r l e = absurd (omega arith)
remove-at x (y ∷ ys) zero r l e =
    ap (λ (b : Bool). cond b (remove x ys) (y ∷ remove x ys)) (eq-eqb x y (sym e))
    ∙ remove_absent x ys (refuted (elem x ys) (λ m. let a : y < x = r.0 x m in absurd (omega arith)))
remove-at x (y ∷ ys) (suc k) r l e =
    let below : y < get_or ys k 0 = r.0 (get_or ys k 0) (elem_at ys k (omega arith)) in
    let other : eqb x y ≡ false = refuted (eqb x y) (λ m. absurd (omega (arith, eqb-true x y m))) in
    ap (λ (b : Bool). cond b (remove x ys) (y ∷ remove x ys)) other
    ∙ ap (λ (zs : List ℕ). y ∷ zs) (remove-at x ys k r.1 (omega arith) e)

pub remove-place : (x : ℕ) (xs : List ℕ) (p : ℕ) → Rising xs → elem x xs ≡ true → p ≡ place xs x
    → remove x xs ≡ take p xs ++ drop (suc p) xs
remove-place x xs p r h e = let m = place_of_member xs x r h in rw e (remove-at x xs (place xs x) r m.0 m.1)
