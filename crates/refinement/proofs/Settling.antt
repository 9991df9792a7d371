-- Refinement node by node: one look at a node keeps the refined set, and what does not wait stays supported.
use Prim.Native.Nat.{ℕ, ◌+◌, ◌-◌, ◌*◌, ◌/◌, ◌%◌, ◌^◌, ◌<◌, ◌≤◌}
use native.Mathlib.Nat.{mod-lt, div-lt_iff_lt-mul}
use native.Mathlib.Omega.{arith}
use mathlib.Core.Path.{◌≡◌, sym, ◌∙◌, ap, ap₂, fun_ext, subst}
use mathlib.Core.Logic.{◌⊎◌, inl, inr, ⊎_elim}
use mathlib.Core.Bool.{Bool, true, false, not, ◌&&◌, ◌||◌, and-false, or-false}
use mathlib.Core.List.{List}
use lib.Dec.{ltb, eqb}
use lib.ListN.{length, get_or, take, drop, length-take, length-drop}
use lib.Pow.{pow_mono}
use lib.Seq.{get_or-take, get_or-drop}
use borrow.Author.Tests.{ltb-true, lt-ltb, eqb-true, eqb-false, eq-eqb, ne_eqb, not-false}
use Rattle.simulation.specs.Sets.{Set, In, union, without, any_below, count}
use Rattle.simulation.specs.Search.{first, found}
use Rattle.simulation.specs.Ordered.{elem, from, leads, joins}
use Rattle.simulation.specs.System.{System, supported, refined}
use Rattle.simulation.specs.Pattern.{Pattern, pair, system}
use Rattle.simulation.proofs.Sets.{clash, split, same, refuted, and_make, and_l, and_r, or_l, or_r, or-take, not_make, not-take, any_make, any_take, count-le, count-drop}
use Rattle.simulation.proofs.System.{supported_make, supported-take, refined-start, sweep, swept}
use Rattle.simulation.proofs.Pattern.{pair_inside, pair-whole, paired-pair, meets-take}
use Rattle.simulation.proofs.Loops.{without_falls}
use Rattle.simulation.proofs.Search.{found_make, found_take, first-at, first-before}
use Rattle.simulation.proofs.Ordered.{Rising, rising-take, elem_at, elem_index}
use Rattle.simulation.proofs.Edges.{all_same, elem-joins, joins-elem, from_le, from_mono, supported-edges}
use Rattle.bits.specs.Word.{members, overlaps, set_bits}
use Rattle.bits.proofs.Words.{same-below, lt-pow}
use Rattle.session.specs.Limits.{max_nodes}
use Rattle.pair_tables.specs.Tables.{marked}
use Rattle.links.specs.Links.{links_to}
use Rattle.refinement.specs.Refining.{carried, whole, kept_of, Sound, Turned, pattern_of, tabled, Refining, Settled}
use Rattle.edge_indexes.specs.Indexes.{edges_from, ends_at, predecessors, starts_size}
use Rattle.worklist.specs.Waiting.{waits, lowest_waiting}

-- ---- the edges from a node

-- a search in the range of v is one in the list of the edges from v
range_found : (X : Set) (es : List ℕ) (i n : ℕ) → i ≤ n → n ≤ length es
    → found (λ k. X (get_or (take (n - i) (drop i es)) k 0)) 0 (length (take (n - i) (drop i es))) ≡ found (λ k. X (get_or es k 0)) i n
range_found X es i n l h = same (found part 0 (length xs)) (found test i n) there back
  where
    xs : List ℕ
    xs = take (n - i) (drop i es)

    part : Set
    part k = X (get_or xs k 0)

    test : Set
    test k = X (get_or es k 0)

    long : length xs ≡ n - i
    long = length-take (n - i) (drop i es) ∙ omega (arith, length-drop i es)

    at_part : (k : ℕ) → k < n - i → get_or xs k 0 ≡ get_or es (i + k) 0
    at_part k m = get_or-take (n - i) (drop i es) k 0 m ∙ get_or-drop i es k 0

    there : found part 0 (length xs) ≡ true → found test i n ≡ true
    there e =
        let r = found_take part 0 (length xs) e in
        let k = r.0 in
        let m : k < n - i = omega (arith, long, r.2) in
        found_make test i n (i + k) (omega arith) (omega arith) (subst (λ (x : ℕ). X x ≡ true) (at_part k m) r.3)

    back : found test i n ≡ true → found part 0 (length xs) ≡ true
    back e =
        let r = found_take test i n e in
        let j = r.0 in
        let m : j - i < n - i = omega (arith, r.1, r.2) in
        let whole-index : i + (j - i) ≡ j = omega (arith, r.1) in
        found_make part 0 (length xs) (j - i) (omega arith) (omega (arith, long))
        (subst (λ (x : ℕ). X x ≡ true) (sym (at_part (j - i) m ∙ ap (λ (y : ℕ). get_or es y 0) whole-index)) r.3)

-- a word with fewer members than another lacks one of them
pub fewer : (a b : ℕ) → ((u : ℕ) → members b u ≡ true → members a u ≡ true) → (b ≡ a → ⊥) → (u : ℕ) × (members a u ≡ true) × (members b u ≡ false)
fewer a b sub ne = ⊎_elim some none (split (any_below k test))
  where
    k : ℕ
    k = a + b

    test : Set
    test u = members a u && not (members b u)

    some : any_below k test ≡ true → (u : ℕ) × (members a u ≡ true) × (members b u ≡ false)
    some h =
        let r = any_take k test h in
        let u = r.0 in
        (u, and_l (members a u) (not (members b u)) r.2, not-take (members b u) (and_r (members a u) (not (members b u)) r.2))

    none : any_below k test ≡ false → (u : ℕ) × (members a u ≡ true) × (members b u ≡ false)
    none h =
        let large : 2 ^ a ≤ 2 ^ k = pow_mono (omega arith) in
        let wide : 2 ^ b ≤ 2 ^ k = pow_mono (omega arith) in
        absurd
        (ne
        (same-below k b a (omega (arith, lt-pow b)) (omega (arith, lt-pow a))
        (λ i l.
        same (members b i) (members a i) (sub i)
        (λ e. ⊎_elim (λ q. q) (λ q. clash (any_make k test i l (and_make e (not_make q))) h) (split (members b i))))))

module _ (nodes : ℕ) (links es : List ℕ) (sound : Sound nodes links es) where
  abbrev n : ℕ
  n = length links

  abbrev P : Pattern
  P = pattern_of nodes links es

  abbrev s : System
  s = system (pattern_of nodes links es)

  rising : Rising es
  rising = rising-take es sound.ascend

  ends-inside : (e : ℕ) → elem e es ≡ true → e % max_nodes < nodes
  ends-inside e h = let w = elem_index e es h in rw (← w.2) (sound.ends w.0 w.1)

  -- an edge from w to v is seen by v
  pub joins-predecessors : (w v : ℕ) → joins max_nodes es w v ≡ true → predecessors es v w ≡ true
  unfolding predecessors
  joins-predecessors w v h =
      let j = elem-joins max_nodes es w v h in
      let i = elem_index (w * max_nodes + v) es j.1 in
      let k = i.0 in
      let at-end : get_or es k 0 % max_nodes ≡ v = rw i.2 (omega (arith, j.0)) in
      let at-start : get_or es k 0 / max_nodes ≡ w = rw i.2 (omega (arith, j.0)) in
      any_make (length es) (λ k. ends_at es v k && eqb (get_or es k 0 / max_nodes) w) k i.1
      (and_make (eq-eqb (get_or es k 0 % max_nodes) v at-end) (eq-eqb (get_or es k 0 / max_nodes) w at-start))

  pub predecessors-joins : (w v : ℕ) → predecessors es v w ≡ true → joins max_nodes es w v ≡ true
  unfolding predecessors
  predecessors-joins w v h =
      let r = any_take (length es) (λ k. ends_at es v k && eqb (get_or es k 0 / max_nodes) w) h in
      let k = r.0 in
      let e = get_or es k 0 in
      let at-end : e % max_nodes ≡ v = eqb-true (e % max_nodes) v (and_l (ends_at es v k) (eqb (e / max_nodes) w) r.2) in
      let at-start : e / max_nodes ≡ w = eqb-true (e / max_nodes) w (and_r (ends_at es v k) (eqb (e / max_nodes) w) r.2) in
      rw (at-start, at-end) at (joins-elem max_nodes es e (omega arith) (elem_at es k r.1))

  module _ (ss : List ℕ) where
    abbrev S : Set
    S = tabled nodes links es ss

    abbrev T : List ℕ → Set
    T ts = tabled nodes links es ts

    -- what the code finds for a state is whether it is supported
    pub whole-supported : (ts : List ℕ) (u v : ℕ) → u < length links
        → whole (length links) (get_or links u 0) (edges_from es v) ss ts
        ≡ supported (system (pattern_of nodes links es)) (union (tabled nodes links es ss) (tabled nodes links es ts)) (pair (pattern_of nodes links es) u v)
    unfolding whole carried edges_from leads
    whole-supported ts u v l =
        all_same n (λ o. not (members (get_or links u 0) o) || carried (edges_from es v) ss ts o)
        (λ o. not (members (get_or links u 0) o) || leads max_nodes es v (λ w. union S (T ts) (pair P o w)))
        (λ o k. ap (λ (b : Bool). not (members (get_or links u 0) o) || b)
        (range_found (λ e. marked ss o (e % max_nodes) || marked ts o (e % max_nodes)) es (from max_nodes es v) (from max_nodes es (v + 1))
        (from_mono max_nodes es v) (from_le max_nodes es (v + 1))
        ∙ ap (λ (X : Set). leads max_nodes es v X)
        (fun_ext (λ w. sym (ap₂ ◌||◌ (paired-pair P (marked ss) o w k) (paired-pair P (marked ts) o w k))))))
        ∙ sym (supported-edges max_nodes es rising nodes ends-inside n (λ u o. members (get_or links u 0) o) (λ u v. true) (union S (T ts)) u v l)

    -- and so for the states that a node keeps
    kept-supported : (ts : List ℕ) (u v : ℕ) → u < length links
        → kept_of (get_or ts v 0) links (edges_from es v) ss ts u
        ≡ (marked ts u v
        && supported (system (pattern_of nodes links es)) (union (tabled nodes links es ss) (tabled nodes links es ts)) (pair (pattern_of nodes links es) u v))
    kept-supported ts u v l =
        ap (λ (b : Bool). marked ts u v && (not b || whole n (get_or links u 0) (edges_from es v) ss ts)) (lt-ltb u n l)
        ∙ ap (λ (b : Bool). marked ts u v && b) (whole-supported ts u v l)

    module _ (ts ws : List ℕ) (v : ℕ) (ts' ws' : List ℕ) (turned : Turned links es ss ts ws v ts' ws') where
      state_of : (p : ℕ) → p % n < n
      state_of p = mod-lt p sound.some_state

      -- at v only what is supported is left
      left_here : (p : ℕ) → p / n ≡ v → T ts' p ≡ (T ts p && supported s (union S (T ts)) p)
      left_here p e =
          let u = p % n in
          let l = state_of p in
          let at-v : T ts' p ≡ members (get_or ts' v 0) u = ap (λ (x : ℕ). members (get_or ts' x 0) u) e in
          let was : T ts p ≡ members (get_or ts v 0) u = ap (λ (x : ℕ). members (get_or ts x 0) u) e in
          let kept : members (get_or ts' v 0) u ≡ kept_of (get_or ts v 0) links (edges_from es v) ss ts u = ap (λ (X : Set). X u) turned.here in
          let is : pair P u v ≡ p = ap (λ (x : ℕ). x * n + u) (sym e) ∙ pair-whole P p in
          at-v ∙ kept ∙ kept-supported ts u v l ∙ ap₂ ◌&&◌ (sym was) (ap (supported s (union S (T ts))) is)

      left_away : (p : ℕ) → (p / n ≡ v → ⊥) → T ts' p ≡ T ts p
      left_away p ne = ap (λ (x : ℕ). members x (p % n)) (turned.others (p / n) ne)

      at-v-or : (p : ℕ) → (p / n ≡ v) ⊎ (p / n ≡ v → ⊥)
      at-v-or p = ⊎_elim (λ e. inl (eqb-true (p / n) v e)) (λ e. inr (eqb-false (p / n) v e)) (split (eqb (p / n) v))

      turn_within : (p : ℕ) → In (T ts') p → In (T ts) p
      turn_within p h =
          ⊎_elim
          (λ e. and_l (T ts p) (supported s (union S (T ts)) p) (sym (left_here p e) ∙ h))
          (λ e. sym (left_away p e) ∙ h)
          (at-v-or p)

      turn_refined : refined s S (T ts') ≡ refined s S (T ts)
      turn_refined =
          sweep s S (T ts) (T ts') turn_within
          (λ p h g.
          ⊎_elim
          (λ e. refuted (supported s (union S (T ts)) p) (λ k. clash (left_here p e ∙ and_make h k) g))
          (λ e. clash (left_away p e ∙ h) g)
          (at-v-or p))

      -- ---- what does not wait stays supported

      abbrev Supports : List ℕ → List ℕ → Type 0
      Supports table list = (p : ℕ) → p < nodes * n → In (T table) p → waits list (p / n) ≡ false → In (supported s (union S (T table))) p

      changed : Bool
      changed = not (eqb (get_or ts' v 0) (get_or ts v 0))

      same_word : changed ≡ false → get_or ts' v 0 ≡ get_or ts v 0
      unfolding changed
      same_word h = eqb-true (get_or ts' v 0) (get_or ts v 0) (not-false (eqb (get_or ts' v 0) (get_or ts v 0)) h)

      -- where the word stays, the table does
      same-table : changed ≡ false → T ts' ≡ T ts
      same-table h =
          fun_ext
          (λ p.
          ⊎_elim
          (λ q. ap (λ (x : ℕ). members x (p % n)) (ap (λ (y : ℕ). get_or ts' y 0) q ∙ same_word h ∙ ap (λ (y : ℕ). get_or ts y 0) (sym q)))
          (λ q. left_away p q)
          (at-v-or p))

      -- the states that went are those that are missing now
      went-at : (o : ℕ) → members turned.gone o ≡ (members (get_or ts v 0) o && not (members (get_or ts' v 0) o))
      went-at o = ap (λ (X : Set). X o) turned.went

      -- the node w holds a state with a link to one that went
      shaken : ℕ → Bool
      shaken w = any_below set_bits (λ u. members (get_or ts' w 0) u && links_to links turned.gone u)

      -- where the word stays, none does
      unshaken : changed ≡ false → (w : ℕ) → shaken w ≡ false
      unfolding changed shaken
      unshaken c w =
          refuted (shaken w)
          (λ h.
          let r = any_take set_bits (λ u. members (get_or ts' w 0) u && links_to links turned.gone u) h in
          let u = r.0 in
          let touches = and_r (ltb u n) (overlaps (get_or links u 0) turned.gone) (and_r (members (get_or ts' w 0) u) (links_to links turned.gone u) r.2) in
          let i = any_take set_bits (λ o. members (get_or links u 0) o && members turned.gone o) touches in
          let o = i.0 in
          let lost : (members (get_or ts v 0) o && not (members (get_or ts' v 0) o)) ≡ true =
          sym (went-at o) ∙ and_r (members (get_or links u 0) o) (members turned.gone o) i.2 in
          clash
          (ap (λ (x : ℕ). members x o) (same_word c) ∙ and_l (members (get_or ts v 0) o) (not (members (get_or ts' v 0) o)) lost)
          (not-take (members (get_or ts' v 0) o) (and_r (members (get_or ts v 0) o) (not (members (get_or ts' v 0) o)) lost)))

      -- a carrier of a pair that is left: it is settled, or left, or else the pair's node is called in
      carrier-left : (p o q : ℕ) → In (T ts') p → o < n → members (get_or links (p % n) 0) o ≡ true → q % n ≡ o
          → joins max_nodes es (p / n) (q / n) ≡ true → In (union S (T ts)) q → (predecessors es v (p / n) && shaken (p / n)) ≡ false → In (union S (T ts')) q
      unfolding shaken
      carrier-left p o q held small link at-o edge old apart =
          ⊎_elim (λ h. or_l (T ts' q) h)
          (λ h.
          ⊎_elim
          (λ (e : q / n ≡ v).
          ⊎_elim (λ k. or_r (S q) k)
          (λ (k : T ts' q ≡ false).
          let was : members (get_or ts v 0) o ≡ true = subst (λ (x : ℕ). members (get_or ts v 0) x ≡ true) at-o (subst (λ (x : ℕ). members (get_or ts x 0) (q % n) ≡ true) e h) in
          let is : members (get_or ts' v 0) o ≡ false = subst (λ (x : ℕ). members (get_or ts' v 0) x ≡ false) at-o (subst (λ (x : ℕ). members (get_or ts' x 0) (q % n) ≡ false) e k) in
          let lost : members turned.gone o ≡ true = went-at o ∙ and_make was (not_make is) in
          let u = p % n in
          let l : u < n = state_of p in
          let touches : links_to links turned.gone u ≡ true =
          and_make (lt-ltb u n l)
          (any_make set_bits (λ i. members (get_or links u 0) i && members turned.gone i) o (omega (arith, sound.few_states)) (and_make link lost)) in
          let called : shaken (p / n) ≡ true =
          any_make set_bits (λ x. members (get_or ts' (p / n) 0) x && links_to links turned.gone x) u (omega (arith, sound.few_states)) (and_make held touches) in
          clash (and_make (joins-predecessors (p / n) v (subst (λ (x : ℕ). joins max_nodes es (p / n) x ≡ true) e edge)) called) apart)
          (split (T ts' q)))
          (λ (e : q / n ≡ v → ⊥). or_r (S q) (left_away q e ∙ h))
          (at-v-or q))
          (or-take (S q) (T ts q) old)

      -- a pair that is left and was supported is supported still, unless its node is called in
      unmoved : (p : ℕ) → In (T ts') p → (predecessors es v (p / n) && shaken (p / n)) ≡ false → In (supported s (union S (T ts))) p
          → In (supported s (union S (T ts'))) p
      unmoved p held apart h =
          supported_make s (union S (T ts')) p
          (λ o l d.
          let w = supported-take s (union S (T ts)) p h o l d in
          let q = w.0 in
          let m = meets-take P p o q w.2 in
          (q, w.1, w.2, carrier-left p o q held l d (sym m.0) m.1 w.3 apart))

      was-supported : Supports ts ws → (p : ℕ) → p < nodes * n → In (T ts') p → without (waits ws) v (p / n) ≡ false → In (supported s (union S (T ts))) p
      was-supported sup p l h out =
          ⊎_elim
          (λ e. and_r (T ts p) (supported s (union S (T ts)) p) (sym (left_here p e) ∙ h))
          (λ e. sup p l (turn_within p h) (refuted (waits ws (p / n)) (λ k. clash (and_make k (not_make (ne_eqb (p / n) v e))) out)))
          (at-v-or p)

      turn_supports : Supports ts ws → Supports ts' ws'
      unfolding shaken
      turn_supports sup p l h idle =
          let now : waits ws' (p / n) ≡ (without (waits ws) v (p / n) || (predecessors es v (p / n) && shaken (p / n))) = ap (λ (X : Set). X (p / n)) turned.waiting in
          let both : (without (waits ws) v (p / n) || (predecessors es v (p / n) && shaken (p / n))) ≡ false = sym now ∙ idle in
          let out = refuted (without (waits ws) v (p / n)) (λ k. clash (or_l (predecessors es v (p / n) && shaken (p / n)) k) both) in
          let apart = refuted (predecessors es v (p / n) && shaken (p / n)) (λ k. clash (or_r (without (waits ws) v (p / n)) k) both) in
          unmoved p h apart (was-supported sup p l h out)

      -- ---- each look has fewer pairs left, or fewer nodes that wait

      few-waits : count max_nodes (waits ws') ≤ max_nodes
      few-waits = count-le max_nodes (waits ws')

      -- a state that is cleared at v
      lost : changed ≡ true → (u : ℕ) × (u < length links) × (members (get_or ts v 0) u ≡ true) × (members (get_or ts' v 0) u ≡ false)
      unfolding changed
      lost c =
          let a = get_or ts v 0 in
          let b = get_or ts' v 0 in
          let kept : (u : ℕ) → members b u ≡ kept_of a links (edges_from es v) ss ts u = λ u. ap (λ (X : Set). X u) turned.here in
          let w = fewer a b (λ u h. and_l (members a u) (not (ltb u n) || whole n (get_or links u 0) (edges_from es v) ss ts) (sym (kept u) ∙ h))
          (eqb-false b a (not-take (eqb b a) c)) in
          let u = w.0 in (
            u,
            ⊎_elim (λ e. ltb-true u n e)
                (λ e. clash (kept u ∙ ap₂ (λ (x y : Bool). x && (not y || whole n (get_or links u 0) (edges_from es v) ss ts)) w.1 e) w.2)
                (split (ltb u n)),
            w.1,
            w.2,
          )

      turn_less : v < nodes → waits ws v ≡ true
          → starts_size * count (nodes * n) (T ts') + count max_nodes (waits ws') < starts_size * count (nodes * n) (T ts) + count max_nodes (waits ws)
      unfolding changed shaken
      turn_less inside waiting =
          ⊎_elim
          (λ c.
          let r = lost c in
          let u = r.0 in
          let p = pair P u v in
          let fewer-pairs : count (nodes * n) (T ts') < count (nodes * n) (T ts) =
          count-drop (nodes * n) (T ts') (T ts) turn_within p (pair_inside P u v r.1 inside)
          (paired-pair P (marked ts) u v r.1 ∙ r.2) (paired-pair P (marked ts') u v r.1 ∙ r.3) in
          let few = few-waits in
          omega arith)
          (λ c.
          let idle : waits ws' ≡ without (waits ws) v =
          turned.waiting
          ∙ fun_ext
          (λ w.
          ap (λ (b : Bool). without (waits ws) v w || (predecessors es v w && b)) (unshaken c w)
          ∙ ap (λ (b : Bool). without (waits ws) v w || b) (and-false (predecessors es v w))
          ∙ or-false (without (waits ws) v w)) in
          let fewer-nodes : count max_nodes (without (waits ws) v) < count max_nodes (waits ws) =
          without_falls max_nodes (waits ws) v (omega (arith, sound.few_nodes)) waiting in
          rw (same-table c, idle) (omega arith))
          (split changed)

    -- so does a look at the lowest node that waits
    pub refining_less : (ts ws : List ℕ) (v : ℕ) (ts' ws' : List ℕ) → v ≡ lowest_waiting ws → v < nodes → Turned links es ss ts ws v ts' ws'
        → starts_size * count (nodes * length links) (tabled nodes links es ts') + count max_nodes (waits ws')
        < starts_size * count (nodes * length links) (tabled nodes links es ts) + count max_nodes (waits ws)
    refining_less ts ws v ts' ws' lowest inside turned =
        turn_less ts ws v ts' ws' turned inside
        (rw lowest (first-at (waits ws) 0 max_nodes (omega arith) (omega (arith, lowest, sound.few_nodes))))

    -- ---- the whole refinement, from the table ts₀ and the nodes ws₀

    module _ (ts₀ ws₀ : List ℕ) where
      pub refining_turn : (ts ws : List ℕ) (u v : ℕ) (ts' ws' : List ℕ) (v' : ℕ) → Refining nodes links es ss ts₀ ws₀ ts ws u → Turned links es ss ts ws v ts' ws'
          → v' ≡ first (waits ws') 0 max_nodes → Refining nodes links es ss ts₀ ws₀ ts' ws' v'
      refining_turn ts ws u v ts' ws' v' r turned lowest = record {
        long = turned.table_long ∙ r.long;
        waits_long = turned.waits_long ∙ r.waits_long;
        lowest = lowest;
        within = λ u w h. r.within u w (only u w h);
        refines = turn_refined ts ws v ts' ws' turned ∙ r.refines;
        supports = λ h. turn_supports ts ws v ts' ws' turned (r.supports h);
      }
        where
          only : (u w : ℕ) → marked ts' u w ≡ true → marked ts u w ≡ true
          only u w h =
              ⊎_elim
              (λ e.
              let q : w ≡ v = eqb-true w v e in
              let k : members (get_or ts' v 0) u ≡ true = subst (λ (x : ℕ). members (get_or ts' x 0) u ≡ true) q h in
              let m = and_l (members (get_or ts v 0) u) (not (ltb u n) || whole n (get_or links u 0) (edges_from es v) ss ts) (sym (ap (λ (X : Set). X u) turned.here) ∙ k) in
              subst (λ (x : ℕ). members (get_or ts x 0) u ≡ true) (sym q) m)
              (λ e. ap (λ (x : ℕ). members x u) (sym (turned.others w (eqb-false w v e))) ∙ h)
              (split (eqb w v))

      -- when no node waits, what is left is refined; a table has no mark past the nodes
      pub refining_end : (ts ws : List ℕ) (v : ℕ) → Refining nodes links es ss ts₀ ws₀ ts ws v → nodes ≤ v → ((u w : ℕ) → marked ts₀ u w ≡ true → w < nodes) → length ts₀ ≡ max_nodes
          → Settled nodes links es ss ts₀ ws₀ ts
      refining_end ts ws v r done outside long = record {
        long = r.long ∙ sym long;
        within = r.within;
        holds = λ p h. refined-start s S (T ts) p (subst (λ (X : Set). In X p) (sym r.refines) h);
        exact = λ h p l.
            ap (λ (X : Set). X p)
            (sym
            (swept s S (T ts)
            (λ q m. (div-lt_iff_lt-mul sound.some_state).0 (outside (q % n) (q / n) (r.within (q % n) (q / n) m)))
            (λ q m.
            let inside : q / n < nodes = outside (q % n) (q / n) (r.within (q % n) (q / n) m) in
            r.supports h q ((div-lt_iff_lt-mul sound.some_state).0 inside) m
            (first-before (waits ws) 0 max_nodes (q / n) (omega arith) (omega (arith, r.lowest)))))
            ∙ r.refines);
      }

      -- a refinement that goes on from there leaves what one from the beginning does
      pub refining_then : (ts ws : List ℕ) (v : ℕ) (ts' : List ℕ) → Refining nodes links es ss ts₀ ws₀ ts ws v → Settled nodes links es ss ts ws ts' → length ts₀ ≡ max_nodes
          → Settled nodes links es ss ts₀ ws₀ ts'
      refining_then ts ws v ts' r further long = record {
        long = further.long ∙ r.long ∙ sym long;
        within = λ u w h. r.within u w (further.within u w h);
        holds = λ p h. further.holds p (subst (λ (X : Set). In X p) (sym r.refines) h);
        exact = λ h p l. further.exact (r.supports h) p l ∙ ap (λ (X : Set). X p) r.refines;
      }
