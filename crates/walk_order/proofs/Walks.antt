-- The laws of the walk: what its functions keep of the list that it holds.
use Prim.Native.Nat.{ℕ, zero, suc, ◌+◌, ◌≤◌, ◌<◌}
use native.Mathlib.Numerals.{add-one}
use native.Mathlib.Omega.{arith}
use mathlib.Core.Path.{◌≡◌, refl, sym, ◌∙◌, ap, fun_ext}
use mathlib.Core.Bool.{Bool, true, false, ◌||◌, or-false}
use mathlib.Core.List.{List, [], ◌∷◌, ◌++◌, map-append}
use lib.Dec.{eqb}
use lib.ListN.{length, get_or, set, replicate, length-append, length-map}
use Rattle.simulation.specs.Sets.{Set, also}
use Rattle.simulation.specs.Ordered.{elem}
use Rattle.simulation.proofs.Sets.{count-le}
use Rattle.simulation.proofs.Ordered.{elem-append}
use Rattle.bits.specs.Word.{members}
use Rattle.bits.proofs.Words.{zero-members}
use Rattle.simulation.proofs.Loops.{count_none, count-not, count-also}
use Rattle.session.specs.Layout.{table, section}
use Rattle.session.specs.Trigger.{linked}
use Rattle.session.specs.Reached.{linked_by}
use Rattle.listing.specs.Order.{fold, visit, order}
use Rattle.walk_order.specs.Walks.{WalkOf, Counted, unvisited, Written, Ready, Visited, rest}
use Rattle.walk_order.specs.declared.Walk.{Walk}
use Rattle.listing.proofs.Orders.{along, follow, numbers, visit-old, visit-new}
use Rattle.session.specs.Limits.{max_states}

-- ---- one state more

-- the first place past the list takes one entry more
pub section_snoc : (n v : ℕ) (xs : List ℕ) → length xs < n → set (section n xs) (length xs) v ≡ section n (xs ++ (v ∷ []))
unfolding section table
section_snoc zero v xs room = absurd (omega arith)
section_snoc (suc n) v [] room = refl
section_snoc (suc n) v (x ∷ xs) room = ap (λ (ys : List ℕ). x ∷ ys) (section_snoc n v xs (omega arith))

elem_snoc : (x : ℕ) (xs : List ℕ) → (λ u. elem u (xs ++ (x ∷ []))) ≡ also (λ u. elem u xs) x
unfolding elem
elem_snoc x xs = fun_ext (λ u. elem-append u xs (x ∷ []) ∙ ap (λ (b : Bool). elem u xs || b) (or-false (eqb u x)))

-- what the walk holds with the state written
pub written-holds : (state v : ℕ) (w : Walk) (xs : List ℕ) → members v ≡ also (members w.visited) state → w.len < max_states → WalkOf xs w
    → WalkOf (xs ++ (state ∷ [])) (record { visited = v; states = set w.states w.len (state + 1); len = w.len + 1 })
written-holds state v w xs e room h =
    let k = length-map xs (λ u. u + 1) in
    record {
      seen = e ∙ ap (λ (X : Set). also X state) h.seen ∙ sym (elem_snoc state xs);
      numbers = rw (h.numbers, h.long, map-append, ← k) (section_snoc max_states (state + 1) (numbers xs) (omega arith));
      long = omega (arith, length-append xs (state ∷ []));
    }

module _ (n state : ℕ) (w : Walk) (r : Ready n state w) where
  -- one more is counted
  pub written-counted : (w' : Walk) → Written state w w' → Counted n w'
  written-counted w' e =
      rw e.seen (omega (arith, count-also n (members w.visited) state r.inside r.unseen))

  -- a state that is not visited has a place
  pub ready-room : w.len < n
  ready-room =
      let X = members w.visited in
      omega (arith, count-also n X state r.inside r.unseen, count-le n (also X state))

-- the states written and those not yet visited are all
unvisited-rest : (n : ℕ) (w : Walk) → Counted n w → w.len + unvisited n w ≡ n
unvisited-rest n w e = ap (λ (k : ℕ). k + unvisited n w) e ∙ count-not n (members w.visited)

-- ---- along the links of a state

-- one step more
fold_next : (n : ℕ) (step : ℕ → List ℕ → List ℕ) (xs : List ℕ) → fold (n + 1) step xs ≡ step n (fold n step xs)
unfolding fold
fold_next n step xs = rw add-one

-- whether the index is in the list
held : (w : Walk) (xs : List ℕ) → WalkOf xs w → (u : ℕ) → elem u xs ≡ members w.visited u
held w xs h u = ap (λ (X : Set). X u) (sym h.seen)

-- the walk w after i links of the state, from the walk w₀ that has it written
pub record Along (links : List ℕ) (state : ℕ) (w₀ w : Walk) (i : ℕ) : Type 0 where
  pub inside : i ≤ length links
  pub counted : Counted (length links) w
  pub longer : w₀.len ≤ w.len
  pub holds : (xs : List ℕ) (depth : ℕ) → WalkOf xs w₀ → length links ≤ depth + length xs
      → WalkOf (fold i (along (linked_by links) depth state) xs) w

pub along-start : (links : List ℕ) (state : ℕ) (w : Walk) → Counted (length links) w → Along links state w w 0
unfolding fold
along-start links state w e =
    record { inside = omega arith; counted = e; longer = omega arith; holds = λ xs depth h l. h }

module _ (links : List ℕ) (state : ℕ) (w₀ w : Walk) (i : ℕ) (m : i < length links) (g : Along links state w₀ w i) where
  along_stays : ((xs : List ℕ) (depth : ℕ) → WalkOf xs w → along (linked_by links) depth state i xs ≡ xs)
      → Along links state w₀ w (i + 1)
  along_stays e = record {
    inside = omega arith;
    counted = g.counted;
    longer = g.longer;
    holds = λ xs depth h l.
        let step = along (linked_by links) depth state in
        let k = g.holds xs depth h l in
        rw (fold_next i step xs, e (fold i step xs) depth k) k;
  }

  -- no link, a target that is visited already, and one that is not
  pub along-none : members (get_or links state 0) i ≡ false → Along links state w₀ w (i + 1)
  unfolding linked
  along-none e = along_stays (λ xs depth h. rw e)

  pub along-old : members (get_or links state 0) i ≡ true → members w.visited i ≡ true → Along links state w₀ w (i + 1)
  unfolding linked
  along-old e d = along_stays (λ xs depth h. rw (e, visit-old (linked_by links) depth i xs (held w xs h i ∙ d)))

  pub along-new : (w' : Walk) → members (get_or links state 0) i ≡ true → Visited links i w w' → Along links state w₀ w' (i + 1)
  unfolding linked
  along-new w' e v = record {
    inside = omega arith;
    counted = v.counted;
    longer = omega arith;
    holds = λ xs depth h l.
        let step = along (linked_by links) depth state in
        let k = g.holds xs depth h l in
        rw (fold_next i step xs, e) (v.holds (fold i step xs) depth k (omega arith));
  }

-- along the links fewer states are unvisited than before the visit
pub along_falls : (links : List ℕ) (state : ℕ) (w w₀ w' : Walk) (i : ℕ) → Ready (length links) state w → Written state w w₀
    → Along links state w₀ w' i → unvisited (length links) w' < unvisited (length links) w
along_falls links state w w₀ w' i r e g =
    let n = length links in
    omega (arith, e.long, g.longer, unvisited-rest n w r.counted, unvisited-rest n w' g.counted)

-- past the last link the state is visited
pub along-end : (links : List ℕ) (state : ℕ) (w w₀ w' : Walk) (i : ℕ) → Ready (length links) state w → Written state w w₀
    → Along links state w₀ w' i → length links ≤ i → Visited links state w w'
along-end links state w w₀ w' i r e g end = record { counted = g.counted; longer = omega arith; holds = by }
  where
    by : (xs : List ℕ) (depth : ℕ) → WalkOf xs w → length links ≤ depth + length xs → WalkOf (visit (linked_by links) depth state xs) w'
    by xs zero h l = absurd (omega (arith, ready-room (length links) state w r))
    by xs (suc depth) h l =
        let last : i ≡ length links = omega arith in
        rw (visit-new (linked_by links) depth state xs (held w xs h state ∙ r.unseen), ← last)
        (g.holds (xs ++ (state ∷ [])) depth (e.holds xs h) (omega (arith, length-append xs (state ∷ []))))

-- ---- the states that follow

-- the walk w after i of n states, from the walk w₀
pub record Following (n : ℕ) (w₀ w : Walk) (i : ℕ) : Type 0 where
  pub inside : i ≤ n
  pub counted : Counted n w
  pub holds : (xs : List ℕ) → WalkOf xs w₀ → WalkOf (rest i xs) w

pub following_start : (n : ℕ) (w : Walk) → Counted n w → Following n w w 0
unfolding fold
following_start n w e = record { inside = omega arith; counted = e; holds = λ xs h. h }

module _ (n : ℕ) (w₀ w : Walk) (i : ℕ) (m : i < n) (g : Following n w₀ w i) where
  -- a state that is written, and one that is not
  pub following_old : members w.visited i ≡ true → Following n w₀ w (i + 1)
  following_old e = record {
    inside = omega arith;
    counted = g.counted;
    holds = λ xs h. let k = g.holds xs h in rw (fold_next i follow xs, held w (rest i xs) k i ∙ e) k;
  }

  pub following_new : (w' : Walk) → Ready n i w → Written i w w' → Following n w₀ w' (i + 1)
  following_new w' r e = record {
    inside = omega arith;
    counted = written-counted n i w r w' e;
    holds = λ xs h.
        let k = g.holds xs h in
        rw (fold_next i follow xs, held w (rest i xs) k i ∙ r.unseen) (e.holds (rest i xs) k);
  }

-- ---- the whole walk

-- nothing is written
abbrev pub start : Walk
start = record { visited = 0; states = replicate max_states 0; len = 0 }

start-holds : WalkOf [] start
unfolding section table elem
start-holds = record { seen = fun_ext zero-members; numbers = refl; long = refl }

pub start-ready : (n : ℕ) → 0 < n → n ≤ max_states → Ready n 0 start
start-ready n l m = record {
  inside = l;
  few = m;
  unseen = zero-members 0;
  counted = sym (count_none n (members 0) (λ i k. zero-members i));
}

-- after the visit of State One and what follows it has the order
pub order-held : (links : List ℕ) (w w' : Walk) → Visited links 0 start w
    → ((xs : List ℕ) → WalkOf xs w → WalkOf (rest (length links) xs) w') → w'.states ≡ section max_states (order (linked_by links))
unfolding order
order-held links w w' v f =
    (f (visit (linked_by links) (length links) 0 []) (v.holds [] (length links) start-holds (omega arith))).numbers
