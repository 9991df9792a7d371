-- Tables, the sections of a session, and lists of small numbers.
use Prim.Native.Nat.{ℕ, zero, suc, ◌+◌, ◌-◌, ◌^◌, ◌<◌, ◌≤◌}
use native.Mathlib.Nat.{add-zero, add-suc, sub-zero, suc-sub-suc}
use native.Mathlib.Omega.{arith}
use mathlib.Core.Path.{◌≡◌, refl, sym, ap, ap₂, ◌∙◌}
use mathlib.Core.Logic.{⊎_elim}
use mathlib.Core.Bool.{Bool, true, false, ◌&&◌, cond, and-true, and-false}
use mathlib.Core.List.{List, [], ◌∷◌, ◌++◌}
use lib.Dec.{ltb, eqb}
use lib.ListN.{length, get_or, take, drop, length-take, length-drop, get_or-eq_default}
use lib.Seq.{length-take-le, get_or-take, get_or-drop, ext_get_or}
use borrow.Author.Tests.{ltb-true, ltb-false, lt-ltb, le-ltb}
use Rattle.simulation.specs.Sets.{Set, all_below}
use Rattle.simulation.proofs.Sets.{split, all_make, all_take}
use Rattle.simulation.proofs.Edges.{all_same}
use Rattle.bits.specs.Word.{members, within}
use Rattle.bits.proofs.Gathers.{gathers, gathered_below, gathered_zero}
use Rattle.session.specs.Layout.{table, numbered, section, below}
use Rattle.session.specs.Trigger.{edge_number}
use Rattle.session.specs.Tests.{fits}

-- ---- tables: length, entries, and that these decide a table

pub length-table : (n : ℕ) (f : ℕ → ℕ) → length (table n f) ≡ n
unfolding table
length-table zero f = refl
length-table (suc n) f = ap suc (length-table n (λ i. f (suc i)))

pub get_or-table : (n : ℕ) (f : ℕ → ℕ) (i : ℕ) → i < n → get_or (table n f) i 0 ≡ f i
unfolding table
get_or-table zero f i h = absurd (omega arith)
get_or-table (suc n) f zero h = refl
get_or-table (suc n) f (suc i) h = get_or-table n (λ i. f (suc i)) i (omega arith)

pub table_same : (n : ℕ) (f h : ℕ → ℕ) → ((i : ℕ) → i < n → f i ≡ h i) → table n f ≡ table n h
unfolding table
table_same zero f h e = refl
table_same (suc n) f h e =
    rw (e 0 (omega arith), table_same n (λ i. f (suc i)) (λ i. h (suc i)) (λ i l. e (suc i) (omega arith)))

-- the table of a list's entries is the list
pub table_of : (xs : List ℕ) → table (length xs) (λ i. get_or xs i 0) ≡ xs
unfolding table
table_of [] = refl
table_of (x ∷ xs) = ap (λ (r : List ℕ). x ∷ r) (table_of xs)

-- ---- sections

pub length-section : (n : ℕ) (xs : List ℕ) → length (section n xs) ≡ n
unfolding section
length-section n xs = length-table n (λ i. get_or xs i 0)

pub get_or-section : (n : ℕ) (xs : List ℕ) (i : ℕ) → i < n → get_or (section n xs) i 0 ≡ get_or xs i 0
unfolding section
get_or-section n xs i h = get_or-table n (λ i. get_or xs i 0) i h

-- a section begins with the list, and holds zero past it
pub take-section : (n : ℕ) (xs : List ℕ) → length xs ≤ n → take (length xs) (section n xs) ≡ xs
take-section n xs h =
    ext_get_or 0 (take (length xs) (section n xs)) xs long
    (λ i l.
    let k : i < length xs = omega (arith, long) in
    get_or-take (length xs) (section n xs) i 0 k ∙ get_or-section n xs i (omega arith))
  where
    long : length (take (length xs) (section n xs)) ≡ length xs
    long = omega (arith, length-take (length xs) (section n xs), length-section n xs)

pub section-zero : (n : ℕ) (xs : List ℕ) (i : ℕ) → i < n → length xs ≤ i → get_or (section n xs) i 0 ≡ 0
section-zero n xs i h l = get_or-section n xs i h ∙ get_or-eq_default xs 0 l

-- a longer section is the list with zeros after it
pub section-longer : (n : ℕ) (xs : List ℕ) → length xs ≤ n → xs ++ section (n - length xs) [] ≡ section n xs
unfolding section table
section-longer n [] h = rw sub-zero
section-longer zero (x ∷ xs) h = absurd (omega arith)
section-longer (suc n) (x ∷ xs) h = rw suc-sub-suc (ap (λ (r : List ℕ). x ∷ r) (section-longer n xs (omega arith)))

-- ---- lists whose entries are below n

pub below-take : (n : ℕ) (xs : List ℕ) → below n xs ≡ true → (i : ℕ) → i < length xs → get_or xs i 0 < n
unfolding below
below-take n xs h i l = ltb-true (get_or xs i 0) n (all_take (length xs) (λ i. ltb (get_or xs i 0) n) h i l)

pub below_make : (n : ℕ) (xs : List ℕ) → ((i : ℕ) → i < length xs → get_or xs i 0 < n) → below n xs ≡ true
unfolding below
below_make n xs h = all_make (length xs) (λ i. ltb (get_or xs i 0) n) (λ i l. lt-ltb (get_or xs i 0) n (h i l))

-- of a part of a list, by its entries, or by those of the whole list
pub part-below : (xs : List ℕ) (p k n : ℕ) → p + k ≤ length xs → ((i : ℕ) → i < k → get_or xs (p + i) 0 < n) → below n (take k (drop p xs)) ≡ true
part-below xs p k n long h =
    below_make n (take k (drop p xs))
    (λ i m. let few : i < k = omega (arith, length-take k (drop p xs)) in rw (get_or-take k (drop p xs) i 0 few, get_or-drop p xs i 0) (h i few))

pub whole_below : (xs : List ℕ) (p k n : ℕ) → p + k ≤ length xs → below n xs ≡ true → below n (take k (drop p xs)) ≡ true
whole_below xs p k n long h = part-below xs p k n long (λ i m. below-take n xs h (p + i) (omega arith))

pub table_below : (n k : ℕ) (f : ℕ → ℕ) → ((i : ℕ) → f i < n) → below n (table k f) ≡ true
table_below n k f h =
    below_make n (table k f) (λ i l. let here = get_or-table k f i (rw (length-table k f) at l) in omega (arith, here, h i))

-- also past the end, where zero is read
pub below_at : (n : ℕ) (xs : List ℕ) → below n xs ≡ true → 0 < n → (i : ℕ) → get_or xs i 0 < n
below_at n xs h some i =
    ⊎_elim
    (λ (e : ltb i (length xs) ≡ true). below-take n xs h i (ltb-true i (length xs) e))
    (λ (e : ltb i (length xs) ≡ false). rw (get_or-eq_default xs 0 (ltb-false i (length xs) e)) some)
    (split (ltb i (length xs)))

-- ---- the numbers of edges

pub length-numbered : (starts ends : List ℕ) → length (numbered starts ends) ≡ length starts
length-numbered starts ends = length-table (length starts) (λ k. edge_number (get_or starts k 0) (get_or ends k 0))

-- ---- a section whose used places hold small numbers, and the others zeros

and_swap : (a b c : Bool) → (a && (b && c)) ≡ (b && (a && c))
and_swap true b c = refl
and_swap false b c = sym (and-false b)

pub all-add : (n m : ℕ) (P : Set) → all_below (m + n) P ≡ (all_below m P && all_below n (λ j. P (m + j)))
unfolding all_below
all-add zero m P = rw add-zero (sym (and-true (all_below m P)))
all-add (suc n) m P =
    rw (add-suc, all-add n m P) (and_swap (P (m + n)) (all_below m P) (all_below n (λ j. P (m + j))))

-- the two parts are tested by themselves
fits_parts : (k used : ℕ) (xs : List ℕ) → used ≤ length xs
    → fits k used xs
    ≡ (all_below (length (take used xs)) (λ i. ltb (get_or (take used xs) i 0) (2 ^ k))
    && all_below (length (drop used xs)) (λ j. ltb (get_or (drop used xs) j 0) 1))
unfolding fits
fits_parts k used xs h =
    ap (λ (n : ℕ). all_below n fit) size
    ∙ all-add (length (drop used xs)) (length (take used xs)) fit
    ∙ ap₂ ◌&&◌
    (all_same (length (take used xs)) fit (λ i. ltb (get_or (take used xs) i 0) (2 ^ k)) low)
    (all_same (length (drop used xs)) (λ j. fit (length (take used xs) + j)) (λ j. ltb (get_or (drop used xs) j 0) 1) high)
  where
    fit : Set
    fit i = ltb (get_or xs i 0) (cond (ltb i used) (2 ^ k) 1)

    front : length (take used xs) ≡ used
    front = length-take-le used xs h

    size : length xs ≡ length (take used xs) + length (drop used xs)
    size = omega (arith, front, length-drop used xs)

    low : (i : ℕ) → i < length (take used xs) → fit i ≡ ltb (get_or (take used xs) i 0) (2 ^ k)
    low i l = let m : i < used = omega (arith, front) in rw (lt-ltb i used m, get_or-take used xs i 0 m)

    high : (j : ℕ) → j < length (drop used xs) → fit (length (take used xs) + j) ≡ ltb (get_or (drop used xs) j 0) 1
    high j l = rw (front, le-ltb (used + j) used (omega arith), get_or-drop used xs j 0)

-- by the members of the words of each part
pub fits_gathered : (n k used inside unused : ℕ) (xs : List ℕ) → used ≤ length xs → inside < 2 ^ n
    → members inside ≡ gathers (length (take used xs)) (λ i. members (get_or (take used xs) i 0))
    → members unused ≡ gathers (length (drop used xs)) (λ j. members (get_or (drop used xs) j 0))
    → (within n inside (2 ^ k - 1) && eqb unused 0) ≡ fits k used xs
fits_gathered n k used inside unused xs h l e d =
    ap₂ ◌&&◌ (gathered_below inside (take used xs) e n k l) (gathered_zero unused (drop used xs) d) ∙ sym (fits_parts k used xs h)

-- the part that begins at p and has k words
pub part-from : (xs : List ℕ) (p k : ℕ) → take (p + k - p) (drop p xs) ≡ take k (drop p xs)
part-from xs p k = let e : p + k - p ≡ k = omega arith in ap (λ (x : ℕ). take x (drop p xs)) e
