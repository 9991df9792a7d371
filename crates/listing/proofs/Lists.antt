-- The change list: it has the change of each pair whose mark differs and nothing else, and ascends by size.
use Prim.Native.Nat.{ℕ, zero, suc, ◌+◌, ◌*◌, ◌/◌, ◌%◌, ◌<◌, ◌≤◌}
use native.Mathlib.Nat.{div-add-mod', mod-lt, eq-or-lt_of_le, div-mul-le_self, le-div_iff_mul-le}
use native.Mathlib.Omega.{arith}
use mathlib.Core.Path.{◌≡◌, refl, sym, ◌∙◌, ap, subst}
use mathlib.Core.Logic.{◌⊎◌, inl, inr, ⊎_elim, ◌↔◌}
use mathlib.Core.Bool.{Bool, true, false}
use mathlib.Core.List.Memᴰ
use mathlib.Core.List.{List, [], map, map-append, Memᴰ}
use lib.IntN.{ℤ, pos, neg_ℤ, nat_abs}
use lib.ListN.{length, length-append}
use Rattle.simulation.specs.Ordered.{elem}
use Rattle.simulation.proofs.Ordered.{Rising, elem-take, rising-append, elem-append}
use Rattle.simulation.proofs.Sets.{clash, or-take}
use Rattle.simulation.proofs.Pattern.{pair-state, pair-node, pair_inside, state-inside, node-inside}
use Rattle.session.specs.Trigger.{Trigger, Graph, Marks, states, nodes, pattern}
use Rattle.listing.specs.Changes.{size_of, change, join_to, changes, node_span}

-- ---- one change

-- z is a change of a mark from b to c at a pair of this size
abbrev pub ChangeIs : Bool → Bool → ℕ → ℤ → Type 0
ChangeIs b c n z = ((b ≡ false) × (c ≡ true) × (z ≡ pos n)) ⊎ ((b ≡ true) × (c ≡ false) × (z ≡ neg_ℤ (pos n)))

change-take : (b c : Bool) (n : ℕ) (z : ℤ) → Memᴰ z (change b c n) → ChangeIs b c n z
change-take false true n z h = inl (refl, refl, Memᴰ.eq_of_singleton h)
change-take true false n z h = inr (refl, refl, Memᴰ.eq_of_singleton h)
change-take true true n z h = absurd (Memᴰ.not-nil h)
change-take false false n z h = absurd (Memᴰ.not-nil h)

change_make : (b c : Bool) (n : ℕ) (z : ℤ) → ChangeIs b c n z → Memᴰ z (change b c n)
change_make b c n z (inl w) = rw (w.0, w.1) (Memᴰ.head w.2)
change_make b c n z (inr w) = rw (w.0, w.1) (Memᴰ.head w.2)

pub change-size : (n : ℕ) → nat_abs (neg_ℤ (pos n)) ≡ n
change-size zero = refl
change-size (suc n) = refl

change_sizes : (b c : Bool) (n y : ℕ) → elem y (map nat_abs (change b c n)) ≡ true → y ≡ n
unfolding elem
change_sizes false true n y h = ⊎_elim (λ e. e) (λ e. clash e refl) (elem-take y n [] h)
change_sizes true false n y h = ⊎_elim (λ e. e ∙ change-size n) (λ e. clash e refl) (elem-take y (nat_abs (neg_ℤ (pos n))) [] h)
change_sizes true true n y h = clash h refl
change_sizes false false n y h = clash h refl

change-rising : (b c : Bool) (n : ℕ) → Rising (map nat_abs (change b c n))
unfolding elem
change-rising false true n = (λ y h. clash h refl, tt)
change-rising true false n = (λ y h. clash h refl, tt)
change-rising true true n = tt
change-rising false false n = tt

pub change-short : (b c : Bool) (n : ℕ) → length (change b c n) ≤ 1
change-short false true n = omega arith
change-short true false n = omega arith
change-short true true n = omega arith
change-short false false n = omega arith

pub change-none : (b : Bool) (n : ℕ) → change b b n ≡ []
change-none true n = refl
change-none false n = refl

-- ---- lists joined one after the other

module _ (f : ℕ → List ℤ) where
  join_take : (n : ℕ) (z : ℤ) → Memᴰ z (join_to n f) → (p : ℕ) × (p < n) × Memᴰ z (f p)
  unfolding join_to
  join_take zero z h = absurd (Memᴰ.not-nil h)
  join_take (suc n) z h =
      ⊎_elim
      (λ e. let r = join_take n z e in (r.0, omega arith, r.2))
      (λ e. (n, omega arith, e))
      (Memᴰ.append_cases (join_to n f) h)

  join_make : (n : ℕ) (z : ℤ) (p : ℕ) → p < n → Memᴰ z (f p) → Memᴰ z (join_to n f)
  unfolding join_to
  join_make zero z p l h = absurd (omega arith)
  join_make (suc n) z p l h =
      ⊎_elim
      (λ (e : suc p ≡ suc n). let q : p ≡ n = omega arith in Memᴰ.append_right (join_to n f) (subst (λ x. Memᴰ z (f x)) q h))
      (λ (e : suc p < suc n). Memᴰ.append_left (f n) (join_make n z p (omega arith) h))
      (eq-or-lt_of_le l)

  join_sizes : (size : ℕ → ℕ) → ((p y : ℕ) → elem y (map nat_abs (f p)) ≡ true → y ≡ size p) → (n y : ℕ)
      → elem y (map nat_abs (join_to n f)) ≡ true → (p : ℕ) × (p < n) × (y ≡ size p)
  unfolding join_to elem
  join_sizes size h zero y e = clash e refl
  join_sizes size h (suc n) y e =
      ⊎_elim
      (λ k. let r = join_sizes size h n y k in (r.0, omega arith, r.2))
      (λ k. (n, omega arith, h n y k))
      (or-take (elem y (map nat_abs (join_to n f))) (elem y (map nat_abs (f n)))
      (sym (elem-append y (map nat_abs (join_to n f)) (map nat_abs (f n))) ∙ (rw (map-append nat_abs (join_to n f) (f n)) at e)))

  join_rising : (size : ℕ → ℕ) → ((p y : ℕ) → elem y (map nat_abs (f p)) ≡ true → y ≡ size p) → ((p : ℕ) → Rising (map nat_abs (f p)))
      → (n : ℕ) → ((p q : ℕ) → p < q → q < n → size p < size q) → Rising (map nat_abs (join_to n f))
  unfolding join_to
  join_rising size h each zero mono = tt
  join_rising size h each (suc n) mono =
      rw (map-append nat_abs (join_to n f) (f n))
      (rising-append (map nat_abs (join_to n f)) (map nat_abs (f n)) (join_rising size h each n (λ p q l k. mono p q l (omega arith))) (each n)
      (λ x y i j. let r = join_sizes size h n x i in rw (r.2, h n y j) (mono r.0 n r.1 (omega arith))))

  pub join_short : ((p : ℕ) → length (f p) ≤ 1) → (n : ℕ) → length (join_to n f) ≤ n
  unfolding join_to
  join_short h zero = omega arith
  join_short h (suc n) = omega (arith, length-append (join_to n f) (f n), join_short h n, h n)

  pub join_none : (n : ℕ) → ((p : ℕ) → p < n → f p ≡ []) → join_to n f ≡ []
  unfolding join_to
  join_none zero h = refl
  join_none (suc n) h = rw (h n (omega arith), join_none n (λ p l. h p (omega arith)))

-- ---- the change list of two sets of marks

-- sizes ascend as pairs do
size_mono : (n p q : ℕ) → 0 < n → n ≤ node_span → p < q → p / n * node_span + (p % n + 1) < q / n * node_span + (q % n + 1)
size_mono n p q some few l =
    let a = mod-lt p some in
    let b = mod-lt q some in
    let P = div-add-mod' p n in
    let Q = div-add-mod' q n in
    ⊎_elim
    (λ (e : p / n ≡ q / n).
    let same : p / n * n ≡ q / n * n = ap (λ (x : ℕ). x * n) e in
    omega arith)
    (λ (e : p / n < q / n). omega arith)
    (eq-or-lt_of_le ((le-div_iff_mul-le some).1 (omega (arith, div-mul-le_self p n))))

module _ (t : Trigger) (g : Graph) (before after : Marks) where
  abbrev n : ℕ
  n = states t

  -- the marks of the pair p before and after, its size, and its change
  abbrev was : ℕ → Bool
  was p = before (p % n) (p / n)

  abbrev now : ℕ → Bool
  now p = after (p % n) (p / n)

  abbrev size : ℕ → ℕ
  size p = size_of (p % n) (p / n)

  abbrev one : ℕ → List ℤ
  one p = change (was p) (now p) (size p)

  -- "the changes for exactly the pairs" whose marks differ
  pub changes_exactly : (z : ℤ) → Memᴰ z (changes t g before after)
      ↔ ((u : ℕ) × (v : ℕ) × (u < states t) × (v < nodes g) × ChangeIs (before u v) (after u v) (size_of u v) z)
  unfolding changes
  changes_exactly z = (
    λ h.
        let r = join_take one (nodes g * n) z h in
        let p = r.0 in
        (p % n, p / n, state-inside (pattern t g) p r.1, node-inside (pattern t g) p r.1, change-take (was p) (now p) (size p) z r.2),
    λ w.
        let u = w.0 in
        let v = w.1 in
        join_make one (nodes g * n) z (v * n + u) (pair_inside (pattern t g) u v w.2 w.3)
        (rw (pair-state (pattern t g) u v w.2, pair-node (pattern t g) u v w.2) (change_make (before u v) (after u v) (size_of u v) z w.4)),
  )

  -- "ascends by size", strictly, so each pair once
  pub changes-ascend : 0 < states t → states t ≤ node_span → Rising (map nat_abs (changes t g before after))
  unfolding changes
  changes-ascend some few =
      join_rising one size (λ p y h. change_sizes (was p) (now p) (size p) y h) (λ p. change-rising (was p) (now p) (size p)) (nodes g * n)
      (λ p q l k. size_mono n p q some few l)

  pub changes-short : length (changes t g before after) ≤ nodes g * states t
  unfolding changes
  changes-short = join_short one (λ p. change-short (was p) (now p) (size p)) (nodes g * n)

-- where no mark differs there is no change
pub changes-none : (t : Trigger) (g : Graph) (m : Marks) → changes t g m m ≡ []
unfolding changes
changes-none t g m =
    join_none (λ p. change (m (p % states t) (p / states t)) (m (p % states t) (p / states t)) (size_of (p % states t) (p / states t))) (nodes g * states t)
    (λ p l. change-none (m (p % states t) (p / states t)) (size_of (p % states t) (p / states t)))
