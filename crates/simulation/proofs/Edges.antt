-- A graph held as an ascending list: its edges one by one, the range of the edges from a node, and plain simulation over that range.
use Prim.Native.Nat.{ℕ, zero, suc, ◌+◌, ◌*◌, ◌/◌, ◌%◌, ◌<◌, ◌≤◌}
use native.Mathlib.Nat.{div-add-mod', mod-lt, div-eq_of_lt-le, div-mul-le_self, lt-div-mul-add, mul-le-mul_right, suc-mul}
use native.Mathlib.Numerals.{add-one}
use native.Mathlib.Omega.{arith}
use lib.Arith.{digits_div, digits_mod}
use lib.Dec.{ltb, eqb}
use lib.ListN.{length, get_or}
use borrow.Author.Tests.{ltb-true, lt-ltb, eqb-true, eq-eqb}
use mathlib.Core.Path.{◌≡◌, refl, sym, ◌∙◌, ap, fun_ext}
use mathlib.Core.Logic.{⊎_elim, ◌↔◌}
use mathlib.Core.Bool.{Bool, true, false, not, ◌&&◌, ◌||◌}
use mathlib.Core.List.{List}
use Rattle.simulation.specs.Sets.{Set, In, any_below, all_below}
use Rattle.simulation.specs.System.{supported, reaches}
use Rattle.simulation.specs.Pattern.{Pattern, pair, paired, system, plain}
use Rattle.simulation.specs.Ordered.{elem, insert, remove, joins, from, leads}
use Rattle.simulation.proofs.Terms.{joined, parted}
use Rattle.simulation.proofs.Sets.{split, clash, refuted, same, and_make, and_l, and_r, implies_make, implies_take, any_make, any_take, all_make, all_take}
use Rattle.simulation.proofs.System.{Met, supported_make, supported-take, reaches_make, reaches-take}
use Rattle.simulation.proofs.Pattern.{pair-state, pair-node, pair_inside, node-inside, pair-whole, paired-pair, meets_make, met_at, due-at}
use Rattle.simulation.proofs.Search.{lt-or-le, found_make, found_take}
use Rattle.simulation.proofs.Ordered.{Rising, same_elems, elem_at, elem_index, place-le, before-place, place_at, after-place, elem-insert, elem-remove}

positive : (x m k : ℕ) → x < m * k → 0 < k
positive x m zero h = absurd (omega arith)
positive x m (suc k) h = omega arith

-- quantifiers over tests that agree below the bound
pub any_same : (n : ℕ) (f g : Set) → ((q : ℕ) → q < n → f q ≡ g q) → any_below n f ≡ any_below n g
unfolding any_below
any_same zero f g h = refl
any_same (suc n) f g h = rw (h n (omega arith), any_same n f g (λ q l. h q (omega arith)))

pub all_same : (n : ℕ) (f g : Set) → ((q : ℕ) → q < n → f q ≡ g q) → all_below n f ≡ all_below n g
unfolding all_below
all_same zero f g h = refl
all_same (suc n) f g h = rw (h n (omega arith), all_same n f g (λ q l. h q (omega arith)))

module _ (width : ℕ) where
  -- ---- edges as numbers

  -- an edge's number tells its two ends
  pub edge-ends : (v w a b : ℕ) → w < width → b < width → v * width + w ≡ a * width + b → (v ≡ a) × (w ≡ b)
  edge-ends v w a b k l e = (
    sym (digits_div v k) ∙ ap (λ (x : ℕ). x / width) e ∙ digits_div a l,
    sym (digits_mod v k) ∙ ap (λ (x : ℕ). x % width) e ∙ digits_mod a l,
  )

  pub elem-joins : (es : List ℕ) (v w : ℕ) → joins width es v w ≡ true → (w < width) × (elem (v * width + w) es ≡ true)
  unfolding joins
  elem-joins es v w h =
      let inside = ltb w width in
      let held = elem (v * width + w) es in
      (ltb-true w width (and_l inside held h), and_r inside held h)

  pub joins_make : (es : List ℕ) (v w : ℕ) → w < width → elem (v * width + w) es ≡ true → joins width es v w ≡ true
  unfolding joins
  joins_make es v w l h = and_make (lt-ltb w width l) h

  pub joins-elem : (es : List ℕ) (e : ℕ) → 0 < width → elem e es ≡ true → joins width es (e / width) (e % width) ≡ true
  joins-elem es e l h = joins_make es (e / width) (e % width) (mod-lt e l) (rw (div-add-mod' e width) h)

  -- a set of edges has one ascending list
  pub same-joins : 0 < width → (xs ys : List ℕ) → Rising xs → Rising ys
      → ((v w : ℕ) → (joins width xs v w ≡ true) ↔ (joins width ys v w ≡ true)) → xs ≡ ys
  same-joins some xs ys r s h =
      same_elems xs ys r s (λ e. same (elem e xs) (elem e ys) (over xs ys e (λ v w. (h v w).0)) (over ys xs e (λ v w. (h v w).1)))
    where
      over : (xs ys : List ℕ) (e : ℕ) → ((v w : ℕ) → joins width xs v w ≡ true → joins width ys v w ≡ true) → elem e xs ≡ true → elem e ys ≡ true
      over xs ys e h m = rw (div-add-mod' e width) at (elem-joins ys (e / width) (e % width) (h (e / width) (e % width) (joins-elem xs e some m))).1

  -- ---- one edge more, one edge less

  -- two edges have one number just where they have the same ends
  edge-number : (v w a b : ℕ) → w < width → b < width → eqb (v * width + w) (a * width + b) ≡ (eqb v a && eqb w b)
  edge-number v w a b k l =
      same (eqb (v * width + w) (a * width + b)) (eqb v a && eqb w b)
      (λ e. let s = edge-ends v w a b k l (eqb-true (v * width + w) (a * width + b) e) in and_make (eq-eqb v a s.0) (eq-eqb w b s.1))
      (λ e.
      let p = eqb-true v a (and_l (eqb v a) (eqb w b) e) in
      let q = eqb-true w b (and_r (eqb v a) (eqb w b) e) in
      rw (p, q) (eq-eqb (a * width + b) (a * width + b) refl))

  module _ (es : List ℕ) (a b : ℕ) (l : b < width) where
    -- just this edge more
    pub joins-insert : joins width (insert (a * width + b) es) ≡ joined (joins width es) a b
    unfolding joins
    joins-insert =
        fun_ext
        (λ v.
        fun_ext
        (λ w.
        let c = a * width + b in
        ⊎_elim
        (λ (e : ltb w width ≡ true). rw (e, elem-insert c (v * width + w) es, edge-number v w a b (ltb-true w width e) l))
        (λ (e : ltb w width ≡ false).
        let other : (eqb v a && eqb w b) ≡ false = refuted (eqb v a && eqb w b)
        (λ m. clash (lt-ltb w width (rw (eqb-true w b (and_r (eqb v a) (eqb w b) m)) l)) e) in
        rw (e, other))
        (split (ltb w width))))

    -- just this edge less
    pub joins-remove : joins width (remove (a * width + b) es) ≡ parted (joins width es) a b
    unfolding joins
    joins-remove =
        fun_ext
        (λ v.
        fun_ext
        (λ w.
        let c = a * width + b in
        ⊎_elim
        (λ (e : ltb w width ≡ true). rw (e, elem-remove c (v * width + w) es, edge-number v w a b (ltb-true w width e) l))
        (λ (e : ltb w width ≡ false). rw e)
        (split (ltb w width))))

  -- ---- the edges from a node are a range of the list

  pub from_le : (es : List ℕ) (v : ℕ) → from width es v ≤ length es
  unfolding from
  from_le es v = place-le es (v * width)

  -- before the range of v all start before v
  pub before-from : (es : List ℕ) (v k : ℕ) → k < from width es v → get_or es k 0 < v * width
  unfolding from
  before-from es v k h = before-place es (v * width) k h

  from_at : (es : List ℕ) (v : ℕ) → from width es v < length es → v * width ≤ get_or es (from width es v) 0
  unfolding from
  from_at es v h = place_at es (v * width) h

  pub from_mono : (es : List ℕ) (v : ℕ) → from width es v ≤ from width es (v + 1)
  from_mono es v =
      ⊎_elim
      (λ (l : from width es (v + 1) < from width es v).
      let k = from width es (v + 1) in
      let held : from width es v ≤ length es = from_le es v in
      let low : get_or es k 0 < v * width = before-from es v k l in
      let high : (v + 1) * width ≤ get_or es k 0 = from_at es (v + 1) (omega arith) in
      let m : v * width ≤ (v + 1) * width = mul-le-mul_right width (omega arith) in
      absurd (omega arith))
      (λ l. l)
      (lt-or-le (from width es (v + 1)) (from width es v))

  module _ (es : List ℕ) (rising : Rising es) where
    -- from the range of v on none starts before v
    pub after-from : (v k : ℕ) → k < length es → from width es v ≤ k → v * width ≤ get_or es k 0
    unfolding from
    after-from v k l h = after-place es (v * width) rising k l h

    pub in_range : (v k : ℕ) → k < length es → from width es v ≤ k → k < from width es (v + 1) → get_or es k 0 / width ≡ v
    in_range v k l low high = div-eq_of_lt-le width (after-from v k l low) (before-from es (v + 1) k high)

    pub range_of : (v k : ℕ) → 0 < width → k < length es → get_or es k 0 / width ≡ v → (from width es v ≤ k) × (k < from width es (v + 1))
    range_of v k some l e =
        let x = get_or es k 0 in
        let low : v * width ≤ x = rw (← e) (div-mul-le_self x width) in
        let high : x < (v + 1) * width = rw (← e, add-one, suc-mul) (lt-div-mul-add some) in (
          ⊎_elim (λ m. let c : x < v * width = before-from es v k m in absurd (omega arith)) (λ m. m) (lt-or-le k (from width es v)),
          ⊎_elim (λ m. m) (λ m. let c : (v + 1) * width ≤ x = after-from (v + 1) k l m in absurd (omega arith)) (lt-or-le k (from width es (v + 1))),
        )

    module _ (nodes : ℕ) (ends : (e : ℕ) → elem e es ≡ true → e % width < nodes) where
      -- an edge of the range leads to X just where some edge from v does
      pub leads-joins : (v : ℕ) (X : Set) → leads width es v X ≡ any_below nodes (λ w. joins width es v w && X w)
      unfolding leads
      leads-joins v X = same (leads width es v X) (any_below nodes some-edge) there back
        where
          some-edge : Set
          some-edge w = joins width es v w && X w

          test : Set
          test k = X (get_or es k 0 % width)

          there : leads width es v X ≡ true → any_below nodes some-edge ≡ true
          there h =
              let r = found_take test (from width es v) (from width es (v + 1)) h in
              let k = r.0 in
              let x = get_or es k 0 in
              let l : k < length es = omega (arith, from_le es (v + 1)) in
              let here = elem_at es k l in
              let some = positive x (v + 1) width (before-from es (v + 1) k r.2) in
              any_make nodes some-edge (x % width) (ends x here)
              (and_make (rw (in_range v k l r.1 r.2) at (joins-elem es x some here)) r.3)

          back : any_below nodes some-edge ≡ true → leads width es v X ≡ true
          back h =
              let r = any_take nodes some-edge h in
              let w = r.0 in
              let j = elem-joins es v w (and_l (joins width es v w) (X w) r.2) in
              let i = elem_index (v * width + w) es j.1 in
              let k = i.0 in
              let s = range_of v k (omega arith) i.1 (ap (λ (x : ℕ). x / width) i.2 ∙ digits_div v j.0) in
              found_make test (from width es v) (from width es (v + 1)) k s.0 s.1
              (rw (i.2, digits_mod v j.0) (and_r (joins width es v w) (X w) r.2))

      -- ---- plain simulation over the list

      module _ (states : ℕ) (linked admits : ℕ → ℕ → Bool) where
        abbrev P : Pattern
        P = plain states nodes linked admits (joins width es)

        -- a link of u is met at v just where an edge from v leads to its target
        pub met-leads : (X : Set) (u v o : ℕ) → u < states → Met (system P) (In X) (pair P u v) o → leads width es v (λ w. X (pair P o w)) ≡ true
        met-leads X u v o l h =
            let q = h.0 in
            let m = met_at P u o v q l h.2 in
            let e : pair P o (q / states) ≡ q = rw m.0 (pair-whole P q) in
            leads-joins v (λ w. X (pair P o w))
            ∙ any_make nodes (λ w. joins width es v w && X (pair P o w)) (q / states) (node-inside P q h.1) (and_make m.1 (rw e h.3))

        pub leads-met : (X : Set) (u v o : ℕ) → u < states → o < states → leads width es v (λ w. X (pair P o w)) ≡ true → Met (system P) (In X) (pair P u v) o
        leads-met X u v o l k h =
            let r = any_take nodes (λ w. joins width es v w && X (pair P o w)) (sym (leads-joins v (λ w. X (pair P o w))) ∙ h) in
            let w = r.0 in
            let q = pair P o w in (
              q,
              pair_inside P o w k r.1,
              meets_make P (pair P u v) o q (sym (pair-state P o w k))
                  (rw (pair-node P u v l, pair-node P o w k) (and_l (joins width es v w) (X q) r.2)),
              and_r (joins width es v w) (X q) r.2,
            )

        pub supported-edges : (X : Set) (u v : ℕ) → u < states
            → supported (system P) X (pair P u v) ≡ all_below states (λ o. not (linked u o) || leads width es v (λ w. X (pair P o w)))
        supported-edges X u v l =
            same (supported (system P) X (pair P u v)) (all_below states holds)
            (λ h.
            all_make states holds
            (λ o k.
            implies_make (linked u o) (leads width es v (λ w. X (pair P o w)))
            (λ d. met-leads X u v o l (supported-take (system P) X (pair P u v) h o k (due-at P u o v l ∙ d)))))
            (λ h.
            supported_make (system P) X (pair P u v)
            (λ o k d.
            leads-met X u v o l k
            (implies_take (linked u o) (leads width es v (λ w. X (pair P o w))) (all_take states holds h o k) (sym (due-at P u o v l) ∙ d))))
          where
            holds : Set
            holds o = not (linked u o) || leads width es v (λ w. X (pair P o w))

        pub reaches-edges : (X : Set) (u v : ℕ) → u < states
            → reaches (system P) X (pair P u v) ≡ any_below states (λ o. linked u o && leads width es v (λ w. X (pair P o w)))
        reaches-edges X u v l =
            same (reaches (system P) X (pair P u v)) (any_below states holds)
            (λ h.
            let r = reaches-take (system P) X (pair P u v) h in
            let o = r.0 in
            any_make states holds o r.1 (and_make (sym (due-at P u o v l) ∙ r.2) (met-leads X u v o l r.3)))
            (λ h.
            let r = any_take states holds h in
            let o = r.0 in
            let d = and_l (linked u o) (leads width es v (λ w. X (pair P o w))) r.2 in
            let m = leads-met X u v o l r.1 (and_r (linked u o) (leads width es v (λ w. X (pair P o w))) r.2) in
            reaches_make (system P) X (pair P u v) o m.0 r.1 (due-at P u o v l ∙ d) m.1 m.2 m.3)
          where
            holds : Set
            holds o = linked u o && leads width es v (λ w. X (pair P o w))

        -- the same of a relation
        leads-related : (R : ℕ → ℕ → Bool) (v o : ℕ) → o < states → leads width es v (λ w. paired P R (pair P o w)) ≡ leads width es v (R o)
        leads-related R v o l = ap (leads width es v) (fun_ext (λ w. paired-pair P R o w l))

        pub supported-related : (R : ℕ → ℕ → Bool) (u v : ℕ) → u < states
            → supported (system P) (paired P R) (pair P u v) ≡ all_below states (λ o. not (linked u o) || leads width es v (R o))
        supported-related R u v l =
            supported-edges (paired P R) u v l
            ∙ all_same states (λ o. not (linked u o) || leads width es v (λ w. paired P R (pair P o w))) (λ o. not (linked u o) || leads width es v (R o))
            (λ o k. ap (λ (b : Bool). not (linked u o) || b) (leads-related R v o k))

        pub reaches-related : (R : ℕ → ℕ → Bool) (u v : ℕ) → u < states
            → reaches (system P) (paired P R) (pair P u v) ≡ any_below states (λ o. linked u o && leads width es v (R o))
        reaches-related R u v l =
            reaches-edges (paired P R) u v l
            ∙ any_same states (λ o. linked u o && leads width es v (λ w. paired P R (pair P o w))) (λ o. linked u o && leads width es v (R o))
            (λ o k. ap (λ (b : Bool). linked u o && b) (leads-related R v o k))
