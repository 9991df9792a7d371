-- The index of incoming edges: how it is built, and how a node's predecessors are read from it.
use Prim.Native.Nat.{ℕ, zero, suc, ◌+◌, ◌-◌, ◌/◌, ◌%◌, ◌<◌, ◌≤◌, zero-le}
use native.Mathlib.Nat.{not-suc-le-zero}
use native.Mathlib.Numerals.{add-one}
use native.Mathlib.Omega.{arith}
use mathlib.Core.Path.{◌≡◌, refl, sym, ap, fun_ext, ◌∙◌}
use mathlib.Core.Logic.{⊎_elim}
use mathlib.Core.Bool.{Bool, true, false, ◌&&◌, ◌||◌, cond}
use mathlib.Core.List.{List}
use lib.Dec.{leb, eqb}
use lib.ListN.{length, get_or, set, length-set}
use lib.Seq.{get_or-set_same, get_or-set_other}
use borrow.Author.Tests.{eqb-true, eqb-false, eq-eqb, leb-true, le-leb}
use Rattle.simulation.specs.Sets.{Set, any_below}
use Rattle.simulation.proofs.Sets.{clash, split, same, refuted, and_make, and_l, and_r, or_l, or_r, or-take, any_make, any_take}
use Rattle.simulation.proofs.Search.{lt-or-le}
use Rattle.edge_indexes.specs.Indexes.{last, ends_at, Indexed, predecessors}
use Rattle.session.specs.Limits.{max_edges, max_nodes}

-- ---- one more than the last index

module _ (P : Set) where
  next : (n : ℕ) → last P (n + 1) ≡ cond (P n) (n + 1) (last P n)
  unfolding last
  next n = rw add-one

  pub last-here : (n : ℕ) → P n ≡ true → last P (n + 1) ≡ n + 1
  last-here n e = next n ∙ ap (λ (b : Bool). cond b (n + 1) (last P n)) e

  pub last_on : (n : ℕ) → P n ≡ false → last P (n + 1) ≡ last P n
  last_on n e = next n ∙ ap (λ (b : Bool). cond b (n + 1) (last P n)) e

  pub last-le : (n : ℕ) → last P n ≤ n
  unfolding last
  last-le zero = omega arith
  last-le (suc n) = by (P n) (last-le n)
    where
      by : (b : Bool) → last P n ≤ n → cond b (suc n) (last P n) ≤ suc n
      by true h = omega arith
      by false h = omega arith

  -- P holds there, and at no later index
  pub last-at : (n : ℕ) → (last P n ≡ 0 → ⊥) → P (last P n - 1) ≡ true
  unfolding last
  last-at zero h = absurd (h refl)
  last-at (suc n) h = by (P n) refl h (last-at n)
    where
      by : (b : Bool) → P n ≡ b → (cond b (suc n) (last P n) ≡ 0 → ⊥) → ((last P n ≡ 0 → ⊥) → P (last P n - 1) ≡ true)
          → P (cond b (suc n) (last P n) - 1) ≡ true
      by true e m ih = let back : suc n - 1 ≡ n = omega arith in rw back e
      by false e m ih = ih m

  pub last-after : (n k : ℕ) → last P n ≤ k → k < n → P k ≡ false
  unfolding last
  last-after zero k h l = absurd (not-suc-le-zero l)
  last-after (suc n) k h l = by (P n) refl h (last-after n k)
    where
      by : (b : Bool) → P n ≡ b → cond b (suc n) (last P n) ≤ k → (last P n ≤ k → k < n → P k ≡ false) → P k ≡ false
      by true e m ih = absurd (omega arith)
      by false e m ih =
          ⊎_elim
          (λ (a : k < n). ih m a)
          (λ (a : n ≤ k). let at : k ≡ n = omega arith in rw at e)
          (lt-or-le k n)

-- ---- the index of the first k edges

pub record Indexing (es heads nexts : List ℕ) (k : ℕ) : Type 0 where
  pub within : k ≤ length es
  pub heads_long : length heads ≡ max_nodes
  pub nexts_long : length nexts ≡ max_edges
  pub head : (v : ℕ) → v < max_nodes → get_or heads v 0 ≡ last (ends_at es v) k
  pub next : (j : ℕ) → j < k → get_or nexts j 0 ≡ last (ends_at es (get_or es j 0 % max_nodes)) j

pub indexing_none : {es heads nexts : List ℕ} → length heads ≡ max_nodes → length nexts ≡ max_edges → ((v : ℕ) → get_or heads v 0 ≡ 0)
    → Indexing es heads nexts 0
unfolding last
indexing_none lh ln z =
    record {
      within = omega arith;
      heads_long = lh;
      nexts_long = ln;
      head = λ v l. z v;
      next = λ j l. absurd (not-suc-le-zero l);
    }

module _ {es heads nexts : List ℕ} {k : ℕ} (x : Indexing es heads nexts k) where
  pub indexing_more : k < length es → length es ≤ max_edges
      → Indexing es (set heads (get_or es k 0 % max_nodes) (k + 1)) (set nexts k (get_or heads (get_or es k 0 % max_nodes) 0)) (k + 1)
  indexing_more l few =
      record {
        within = omega arith;
        heads_long = length-set heads end (k + 1) ∙ x.heads_long;
        nexts_long = length-set nexts k (get_or heads end 0) ∙ x.nexts_long;
        head = head;
        next = chain;
      }
    where
      end : ℕ
      end = get_or es k 0 % max_nodes

      head : (v : ℕ) → v < max_nodes → get_or (set heads end (k + 1)) v 0 ≡ last (ends_at es v) (k + 1)
      head v h =
          ⊎_elim
          (λ (e : eqb end v ≡ true).
          let at = eqb-true end v e in
          rw (← at) (get_or-set_same heads end (k + 1) 0 (omega (arith, x.heads_long)) ∙ sym (last-here (ends_at es end) k (eq-eqb end end refl))))
          (λ (e : eqb end v ≡ false).
          get_or-set_other heads end v (k + 1) 0 (λ t. eqb-false end v e (sym t))
          ∙ x.head v h
          ∙ sym (last_on (ends_at es v) k e))
          (split (eqb end v))

      chain : (j : ℕ) → j < k + 1 → get_or (set nexts k (get_or heads end 0)) j 0 ≡ last (ends_at es (get_or es j 0 % max_nodes)) j
      chain j h =
          ⊎_elim
          (λ (a : j < k).
          get_or-set_other nexts k j (get_or heads end 0) 0 (λ (t : j ≡ k). omega arith) ∙ x.next j a)
          (λ (a : k ≤ j).
          let at : j ≡ k = omega arith in
          rw at (get_or-set_same nexts k (get_or heads end 0) 0 (omega (arith, x.nexts_long)) ∙ x.head end (omega arith)))
          (lt-or-le j k)

  pub indexing_done : k ≡ length es → Indexed es heads nexts
  indexing_done e =
      record {
        heads_long = x.heads_long;
        nexts_long = x.nexts_long;
        head = λ v l. x.head v l ∙ ap (last (ends_at es v)) e;
        next = λ j l. x.next j (omega arith);
      }

-- ---- the predecessors of v, seen from the last edge on

-- w has an edge to v among those from n on
abbrev calls : List ℕ → ℕ → ℕ → ℕ → Set
calls es v n w k = leb n k && (ends_at es v k && eqb (get_or es k 0 / max_nodes) w)

pub called : List ℕ → ℕ → ℕ → Set
called es v n w = any_below (length es) (calls es v n w)

module _ (es : List ℕ) (v : ℕ) where
  called-take : (n w : ℕ) → called es v n w ≡ true
      → (k : ℕ) × (n ≤ k) × (k < length es) × (ends_at es v k ≡ true) × (get_or es k 0 / max_nodes ≡ w)
  unfolding called
  called-take n w h =
      let r = any_take (length es) (calls es v n w) h in
      let k = r.0 in
      let t = and_r (leb n k) (ends_at es v k && eqb (get_or es k 0 / max_nodes) w) r.2 in (
        k,
        leb-true n k (and_l (leb n k) (ends_at es v k && eqb (get_or es k 0 / max_nodes) w) r.2),
        r.1,
        and_l (ends_at es v k) (eqb (get_or es k 0 / max_nodes) w) t,
        eqb-true (get_or es k 0 / max_nodes) w (and_r (ends_at es v k) (eqb (get_or es k 0 / max_nodes) w) t),
      )

  called_make : (n w k : ℕ) → n ≤ k → k < length es → ends_at es v k ≡ true → get_or es k 0 / max_nodes ≡ w → called es v n w ≡ true
  unfolding called
  called_make n w k h l e s =
      any_make (length es) (calls es v n w) k l
      (and_make (le-leb n k h) (and_make e (eq-eqb (get_or es k 0 / max_nodes) w s)))

  called-none : (w : ℕ) → called es v (last (ends_at es v) (length es)) w ≡ false
  called-none w =
      refuted (called es v (last (ends_at es v) (length es)) w)
      (λ h. let r = called-take (last (ends_at es v) (length es)) w h in clash r.3 (last-after (ends_at es v) (length es) r.0 r.1 r.2))

  -- no edge to v stands between two that the index joins
  called_more : (k : ℕ) → k < length es → ends_at es v k ≡ true → (w : ℕ)
      → called es v (last (ends_at es v) k) w ≡ (called es v (k + 1) w || eqb w (get_or es k 0 / max_nodes))
  called_more k l e w =
      let before = last-le (ends_at es v) k in
      same (called es v n w) (called es v (k + 1) w || eqb w start)
      (λ h.
      let r = called-take n w h in
      ⊎_elim
      (λ (a : r.0 < k). clash r.3 (last-after (ends_at es v) k r.0 r.1 a))
      (λ (a : k ≤ r.0).
      ⊎_elim
      (λ (b : k < r.0). or_l (eqb w start) (called_make (k + 1) w r.0 (omega arith) r.2 r.3 r.4))
      (λ (b : r.0 ≤ k).
      let at : r.0 ≡ k = omega arith in
      or_r (called es v (k + 1) w) (eq-eqb w start (sym r.4 ∙ ap (λ (j : ℕ). get_or es j 0 / max_nodes) at)))
      (lt-or-le k r.0))
      (lt-or-le r.0 k))
      (λ h.
      ⊎_elim
      (λ a. let r = called-take (k + 1) w a in called_make n w r.0 (omega (arith, r.1)) r.2 r.3 r.4)
      (λ a. called_make n w k before l e (sym (eqb-true w start a)))
      (or-take (called es v (k + 1) w) (eqb w start) h))
    where
      n : ℕ
      n = last (ends_at es v) k

      start : ℕ
      start = get_or es k 0 / max_nodes

  pub called-all : (w : ℕ) → called es v 0 w ≡ predecessors es v w
  unfolding called predecessors
  called-all w =
      ap (any_below (length es))
      (fun_ext (λ k. ap (λ (b : Bool). b && (ends_at es v k && eqb (get_or es k 0 / max_nodes) w)) (le-leb 0 k zero-le)))

-- n edges are left, the last of them an edge to v
pub record Chained (es : List ℕ) (v n : ℕ) : Type 0 where
  pub within : n ≤ length es
  pub ends : (n ≡ 0 → ⊥) → get_or es (n - 1) 0 % max_nodes ≡ v

chained_last : (es : List ℕ) (v k : ℕ) → k ≤ length es → Chained es v (last (ends_at es v) k)
chained_last es v k l =
    record {
      within = omega (arith, last-le (ends_at es v) k);
      ends = λ some. eqb-true (get_or es (last (ends_at es v) k - 1) 0 % max_nodes) v (last-at (ends_at es v) k some);
    }

module _ {es heads nexts : List ℕ} (x : Indexed es heads nexts) where
  pub chained_head : (v : ℕ) → v < max_nodes → Chained es v (get_or heads v 0)
  chained_head v h = rw (x.head v h) (chained_last es v (length es) (omega arith))

  pub called-head : (v w : ℕ) → v < max_nodes → called es v (get_or heads v 0) w ≡ false
  called-head v w h = rw (x.head v h) (called-none es v w)

  module _ {v n : ℕ} (y : Chained es v n) (some : n ≡ 0 → ⊥) where
    -- the edge before n, and what the index has there
    at : (n - 1 < length es) × (ends_at es v (n - 1) ≡ true) × (get_or nexts (n - 1) 0 ≡ last (ends_at es v) (n - 1))
    at =
        let l : n - 1 < length es = omega (arith, some, y.within) in
        (l, eq-eqb (get_or es (n - 1) 0 % max_nodes) v (y.ends some), rw (← y.ends some) (x.next (n - 1) l))

    pub chained_less : get_or nexts (n - 1) 0 < n
    chained_less = rw at.2 (omega (arith, some, last-le (ends_at es v) (n - 1)))

    pub chained_next : Chained es v (get_or nexts (n - 1) 0)
    chained_next = rw at.2 (chained_last es v (n - 1) (omega (arith, at.0)))

    pub called-next : (w : ℕ) → called es v (get_or nexts (n - 1) 0) w ≡ (called es v n w || eqb w (get_or es (n - 1) 0 / max_nodes))
    called-next w =
        let back : n - 1 + 1 ≡ n = omega (arith, some) in
        ap (λ (m : ℕ). called es v m w) at.2
        ∙ called_more es v (n - 1) at.0 at.1 w
        ∙ ap (λ (m : ℕ). called es v m w || eqb w (get_or es (n - 1) 0 / max_nodes)) back
