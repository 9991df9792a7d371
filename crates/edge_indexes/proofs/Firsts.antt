-- The index of outgoing edges: what is noted edge by edge, how it is filled in, and that this is where the edges of each node begin.
use Prim.Native.Nat.{ℕ, zero, suc, ◌+◌, ◌-◌, ◌*◌, ◌/◌, ◌<◌, ◌≤◌}
use native.Mathlib.Numerals.{add-one}
use native.Mathlib.Omega.{arith}
use mathlib.Core.Path.{◌≡◌, refl, sym, ap, ◌∙◌}
use mathlib.Core.Logic.{⊎_elim}
use mathlib.Core.Bool.{Bool, true, false, cond}
use mathlib.Core.List.{List}
use lib.Dec.{eqb}
use lib.ListN.{length, get_or, set, length-set}
use lib.Seq.{get_or-set_same, get_or-set_other}
use borrow.Author.Tests.{eqb-true, eqb-false, eq-eqb, ne_eqb}
use Rattle.simulation.specs.Ordered.{ascends, from}
use Rattle.simulation.proofs.Sets.{clash, split}
use Rattle.simulation.proofs.Search.{lt-or-le}
use Rattle.simulation.proofs.Ordered.{Rising, rising-take}
use Rattle.simulation.proofs.Edges.{from_le, before-from, from_mono, in_range, range_of}
use Rattle.session.specs.Layout.{below}
use Rattle.session.proofs.Tables.{below-take}
use Rattle.edge_indexes.specs.Indexes.{last, starts_at, Noted, filled, Started, starts_size}
use Rattle.edge_indexes.proofs.Incoming.{last-here, last_on, last-le, last-at, last-after}
use Rattle.session.specs.Limits.{edge_numbers, max_nodes}

-- ---- what is noted of the first k edges

pub record Noting (es firsts : List ℕ) (k : ℕ) : Type 0 where
  pub within : k ≤ length es
  pub long : length firsts ≡ starts_size
  pub none : get_or firsts 0 0 ≡ 0
  pub noted : (v : ℕ) → v < max_nodes → get_or firsts (v + 1) 0 ≡ last (starts_at es v) k

pub noting_none : {es firsts : List ℕ} → length firsts ≡ starts_size → ((v : ℕ) → get_or firsts v 0 ≡ 0) → Noting es firsts 0
unfolding last
noting_none l z =
    record {
      within = omega arith;
      long = l;
      none = z 0;
      noted = λ v h. z (v + 1);
    }

module _ {es firsts : List ℕ} {k : ℕ} (x : Noting es firsts k) where
  pub noting_more : k < length es → below edge_numbers es ≡ true → Noting es (set firsts (get_or es k 0 / max_nodes + 1) (k + 1)) (k + 1)
  noting_more l low =
      record {
        within = omega arith;
        long = length-set firsts (start + 1) (k + 1) ∙ x.long;
        none = get_or-set_other firsts (start + 1) 0 (k + 1) 0 (λ (t : 0 ≡ start + 1). omega arith) ∙ x.none;
        noted = noted;
      }
    where
      start : ℕ
      start = get_or es k 0 / max_nodes

      noted : (v : ℕ) → v < max_nodes → get_or (set firsts (start + 1) (k + 1)) (v + 1) 0 ≡ last (starts_at es v) (k + 1)
      noted v h =
          ⊎_elim
          (λ (e : eqb start v ≡ true).
          let at = eqb-true start v e in
          rw (← at)
          (get_or-set_same firsts (start + 1) (k + 1) 0 (omega (arith, x.long, below-take edge_numbers es low k l))
          ∙ sym (last-here (starts_at es start) k (eq-eqb start start refl))))
          (λ (e : eqb start v ≡ false).
          let away = eqb-false start v e in
          get_or-set_other firsts (start + 1) (v + 1) (k + 1) 0 (λ (t : v + 1 ≡ start + 1). away (omega arith))
          ∙ x.noted v h
          ∙ sym (last_on (starts_at es v) k e))
          (split (eqb start v))

  pub noting_done : k ≡ length es → Noted es firsts
  noting_done e =
      record {
        long = x.long;
        none = x.none;
        noted = λ v l. x.noted v l ∙ ap (last (starts_at es v)) e;
      }

-- ---- filled in below v, and as it was from v on

module _ (xs : List ℕ) where
  next : (v : ℕ) → filled xs (v + 1) ≡ cond (eqb (get_or xs (v + 1) 0) 0) (filled xs v) (get_or xs (v + 1) 0)
  unfolding filled
  next v = rw add-one

  filled_on : (v : ℕ) → get_or xs (v + 1) 0 ≡ 0 → filled xs (v + 1) ≡ filled xs v
  filled_on v e =
      next v ∙ ap (λ (b : Bool). cond b (filled xs v) (get_or xs (v + 1) 0)) (eq-eqb (get_or xs (v + 1) 0) 0 e)

  filled-here : (v : ℕ) → (get_or xs (v + 1) 0 ≡ 0 → ⊥) → filled xs (v + 1) ≡ get_or xs (v + 1) 0
  filled-here v e =
      next v ∙ ap (λ (b : Bool). cond b (filled xs v) (get_or xs (v + 1) 0)) (ne_eqb (get_or xs (v + 1) 0) 0 e)

-- the place that is carried to v
pub carried_to : List ℕ → ℕ → ℕ
carried_to xs zero = 0
carried_to xs (suc v) = filled xs v

pub record Filling (xs ys : List ℕ) (place v : ℕ) : Type 0 where
  pub within : v ≤ starts_size
  pub long : length ys ≡ starts_size
  pub carried : place ≡ carried_to xs v
  pub done : (w : ℕ) → w < v → get_or ys w 0 ≡ filled xs w
  pub left : (w : ℕ) → v ≤ w → get_or ys w 0 ≡ get_or xs w 0

pub filling_none : {xs : List ℕ} → length xs ≡ starts_size → Filling xs xs 0 0
unfolding carried_to
filling_none {xs} l =
    record {
      within = omega arith;
      long = l;
      carried = refl;
      done = λ w h. absurd (omega arith);
      left = λ w h. refl;
    }

module _ {xs ys : List ℕ} {place v : ℕ} (x : Filling xs ys place v) (inside : v < starts_size) where
  same : get_or ys v 0 ≡ get_or xs v 0
  same = x.left v (omega arith)

  before : (u : ℕ) → carried_to xs u ≡ place → get_or xs u 0 ≡ 0 → place ≡ filled xs u
  unfolding carried_to filled
  before zero c e = sym c ∙ sym e
  before (suc u) c e = sym c ∙ sym (rw add-one at (filled_on xs u (rw add-one e)))

  -- the place before goes on where nothing was noted
  pub filled-before : get_or ys v 0 ≡ 0 → place ≡ filled xs v
  filled-before e = before v (sym x.carried) (sym same ∙ e)

  noted_at : (u : ℕ) → (get_or xs u 0 ≡ 0 → ⊥) → get_or xs u 0 ≡ filled xs u
  unfolding filled
  noted_at zero ne = refl
  noted_at (suc u) ne = sym (rw add-one at (filled-here xs u (rw add-one ne)))

  pub filled-noted : (get_or ys v 0 ≡ 0 → ⊥) → get_or ys v 0 ≡ filled xs v
  filled-noted ne = same ∙ noted_at v (λ t. ne (same ∙ t))

  pub filling_next : (place' : ℕ) → place' ≡ filled xs v → Filling xs (set ys v place') place' (v + 1)
  unfolding carried_to
  filling_next place' e =
      record {
        within = omega arith;
        long = length-set ys v place' ∙ x.long;
        carried = e ∙ sym (ap (carried_to xs) (add-one v));
        done = done;
        left = λ w h. get_or-set_other ys v w place' 0 (λ (t : w ≡ v). omega arith) ∙ x.left w (omega arith);
      }
    where
      done : (w : ℕ) → w < v + 1 → get_or (set ys v place') w 0 ≡ filled xs w
      done w h =
          ⊎_elim
          (λ (a : w < v). get_or-set_other ys v w place' 0 (λ (t : w ≡ v). omega arith) ∙ x.done w a)
          (λ (a : v ≤ w). let at : w ≡ v = omega arith in rw at (get_or-set_same ys v place' 0 (omega (arith, x.long)) ∙ e))
          (lt-or-le w v)

-- ---- filled in, what is noted of ascending edges is where each node's edges begin

module _ (es : List ℕ) (rising : Rising es) where
  from-none : from max_nodes es 0 ≡ 0
  from-none =
      ⊎_elim
      (λ (a : 0 < from max_nodes es 0). let low : get_or es 0 0 < 0 * max_nodes = before-from max_nodes es 0 0 a in absurd (omega arith))
      (λ (a : from max_nodes es 0 ≤ 0). omega arith)
      (lt-or-le 0 (from max_nodes es 0))

  -- an edge of the range of v starts at v
  starts_in : (v k : ℕ) → from max_nodes es v ≤ k → k < from max_nodes es (v + 1) → starts_at es v k ≡ true
  starts_in v k low high =
      eq-eqb (get_or es k 0 / max_nodes) v (in_range max_nodes es rising v k (omega (arith, from_le max_nodes es (v + 1))) low high)

  -- no edge starts at v: the next node's begin where its would
  from_on : (v : ℕ) → last (starts_at es v) (length es) ≡ 0 → from max_nodes es (v + 1) ≡ from max_nodes es v
  from_on v e =
      let up = from_mono max_nodes es v in
      let top = from_le max_nodes es (v + 1) in
      ⊎_elim
      (λ (a : from max_nodes es v < from max_nodes es (v + 1)).
      let k = from max_nodes es v in
      clash (starts_in v k (omega arith) a) (last-after (starts_at es v) (length es) k (omega arith) (omega arith)))
      (λ (a : from max_nodes es (v + 1) ≤ from max_nodes es v). omega arith)
      (lt-or-le (from max_nodes es v) (from max_nodes es (v + 1)))

  -- some does: the next node's begin after the last of them
  from-after : (v : ℕ) → (last (starts_at es v) (length es) ≡ 0 → ⊥) → from max_nodes es (v + 1) ≡ last (starts_at es v) (length es)
  from-after v some =
      let n = last (starts_at es v) (length es) in
      let few : n ≤ length es = last-le (starts_at es v) (length es) in
      let top = from_le max_nodes es (v + 1) in
      let at = eqb-true (get_or es (n - 1) 0 / max_nodes) v (last-at (starts_at es v) (length es) some) in
      let r = range_of max_nodes es rising v (n - 1) (omega arith) (omega arith) at in
      ⊎_elim
      (λ (a : n < from max_nodes es (v + 1)).
      clash (starts_in v n (omega (arith, r.0)) a) (last-after (starts_at es v) (length es) n (omega arith) (omega arith)))
      (λ (a : from max_nodes es (v + 1) ≤ n). omega (arith, r.1, some))
      (lt-or-le n (from max_nodes es (v + 1)))

  module _ (xs : List ℕ) (x : Noted es xs) where
    filled_next : (v : ℕ) → v < max_nodes → filled xs v ≡ from max_nodes es v → filled xs (v + 1) ≡ from max_nodes es (v + 1)
    filled_next v h ih =
        ⊎_elim
        (λ (e : eqb n 0 ≡ true). let z = eqb-true n 0 e in filled_on xs v (note ∙ z) ∙ ih ∙ sym (from_on v z))
        (λ (e : eqb n 0 ≡ false). let nz = eqb-false n 0 e in filled-here xs v (λ t. nz (sym note ∙ t)) ∙ note ∙ sym (from-after v nz))
        (split (eqb n 0))
      where
        n : ℕ
        n = last (starts_at es v) (length es)

        note : get_or xs (v + 1) 0 ≡ n
        note = x.noted v h

    filled_none : filled xs 0 ≡ from max_nodes es 0
    unfolding filled
    filled_none = x.none ∙ sym from-none

    filled-from : (v : ℕ) → v < starts_size → filled xs v ≡ from max_nodes es v
    filled-from zero h = filled_none
    filled-from (suc v) h = rw (← add-one v) (filled_next v (omega arith) (filled-from v (omega arith)))

pub started : (es xs ys : List ℕ) → ascends es ≡ true → Noted es xs → length ys ≡ starts_size → ((v : ℕ) → v < starts_size → get_or ys v 0 ≡ filled xs v)
    → Started es ys
started es xs ys up x l f =
    record {
      long = l;
      first = λ v h. f v h ∙ filled-from es (rising-take es up) xs x v h;
    }
