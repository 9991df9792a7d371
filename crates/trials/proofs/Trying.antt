-- The trial set of a session: the fresh pairs, the seeds, and what is grown from them.
use Prim.Native.Nat.{ℕ, ◌*◌, ◌/◌, ◌%◌, ◌<◌}
use native.Mathlib.Omega.{arith}
use mathlib.Core.Path.{◌≡◌, sym, ◌∙◌, ap, ap₂, fun_ext, subst}
use mathlib.Core.Logic.{⊎_elim}
use mathlib.Core.Bool.{Bool, true, not, ◌&&◌}
use mathlib.Core.List.{List}
use lib.Dec.{eqb, ltb}
use lib.ListN.{length, get_or, set, take, drop}
use lib.Seq.{get_or-set_same, get_or-set_other}
use lib.Bits.{bit_and}
use borrow.Author.Tests.{ltb-true, lt-ltb, eqb-true, eqb-false, eq-eqb}
use Rattle.simulation.specs.Sets.{Set, In, minus, also, any_below}
use Rattle.simulation.specs.System.{System, closure}
use Rattle.simulation.specs.Pattern.{Pattern, pair, paired, system}
use Rattle.simulation.proofs.Sets.{split, same, and_make, and_l, and_r, or_r, any_make, any_take}
use Rattle.simulation.proofs.System.{extensional, closure-seed, closure-step, closure_least}
use Rattle.simulation.proofs.Pattern.{pair_inside, paired-pair, node-inside, state-inside}
use Rattle.bits.specs.Word.{members, set_bits}
use Rattle.bits.proofs.Words.{zero-members, and-members}
use Rattle.session.specs.Limits.{max_nodes, marks_at}
use Rattle.session.specs.Trigger.{Trigger, Graph, Marks, states, nodes, linked, admits, pattern}
use Rattle.session.specs.Layout.{trigger_of, graph_of, marks_of, in_layout}
use Rattle.session.proofs.Decoded.{LayoutFacts, layout-facts}
use Rattle.links.specs.Links.{links_to}
use Rattle.pair_tables.specs.Tables.{marked}
use Rattle.worklist.specs.Waiting.{waits}
use Rattle.growth.specs.Growth.{Grown}
use Rattle.promises.specs.Standing.{pairs_of, fresh, trial_set}
use Rattle.refinement.proofs.Systems.{same-states, closure-pattern}
use Rattle.session_parts.specs.Admission.{admitted_at, AdmittedPairs}
use Rattle.session_parts.proofs.Parts.{held-marks}
use Rattle.session_parts.proofs.Admitted.{admitted-take, admitted_make}
use Rattle.editing.specs.Steps.{Holds, fresh_pairs, seeds_of}

module _ (xs : List ℕ) (h : in_layout xs ≡ true) where
  abbrev t : Trigger
  t = trigger_of xs

  abbrev g : Graph
  g = graph_of xs

  abbrev n : ℕ
  n = states (trigger_of xs)

  abbrev facts : LayoutFacts xs
  facts = layout-facts xs h

  -- ---- the fresh pairs

  module _ (r : ℕ) (ts : List ℕ) (admitted : AdmittedPairs xs r ts) (fs : List ℕ) (long : length fs ≡ length ts)
      (less : (u v : ℕ) → marked fs u v ≡ (marked ts u v && not (marked (take max_nodes (drop marks_at xs)) u v))) where
    fresh-is : (u v : ℕ) → marked fs u v ≡ (marked ts u v && not (marks_of xs u v))
    fresh-is u v = less u v ∙ ap (λ (m : Marks). marked ts u v && not (m u v)) (held-marks xs h)

    fresh-take : (u v : ℕ) → marked fs u v ≡ true → (u < states (trigger_of xs)) × (v < nodes (graph_of xs)) × (fresh (trigger_of xs) (graph_of xs) (marks_of xs) u v ≡ true)
    fresh-take u v e =
        let both = sym (fresh-is u v) ∙ e in
        let i = admitted-take xs admitted u v (and_l (marked ts u v) (not (marks_of xs u v)) both) in
        (i.0, i.1, and_make i.2 (and_r (marked ts u v) (not (marks_of xs u v)) both))

    fresh_make : (u v : ℕ) → u < states (trigger_of xs) → v < nodes (graph_of xs) → fresh (trigger_of xs) (graph_of xs) (marks_of xs) u v ≡ true → marked fs u v ≡ true
    fresh_make u v l k e =
        fresh-is u v
        ∙ and_make
        (admitted_make xs admitted u v l k (and_l (admits t g u v) (not (marks_of xs u v)) e))
        (and_r (admits t g u v) (not (marks_of xs u v)) e)

    pub fresh-held : Holds xs (fresh_pairs xs) fs
    fresh-held = record {
      long = long ∙ admitted.long;
      inside = λ u v e. let i = fresh-take u v e in (i.0, i.1);
      pairs = λ p l.
          same (marked fs (p % n) (p / n)) (fresh t g (marks_of xs) (p % n) (p / n)) (λ e. (fresh-take (p % n) (p / n) e).2)
          (fresh_make (p % n) (p / n) (state-inside (pattern t g) p l) (node-inside (pattern t g) p l));
    }

  -- ---- the seeds, as the words of the edge's ends tell them

  module _ (a b : ℕ) (links ms : List ℕ) (links-is : links ≡ (trigger_of xs).links) (ms-is : ms ≡ take max_nodes (drop marks_at xs))
      (at-end able at-start new : ℕ) (end_is : members at-end ≡ admitted_at xs b) (able-is : members able ≡ links_to links at-end)
      (start_is : members at-start ≡ admitted_at xs a) (new_is : members new ≡ minus (members at-start) (members (get_or ms a 0))) where
    -- the states that admit a node
    end-admits : (u : ℕ) → members at-end u ≡ (ltb u (states (trigger_of xs)) && admits (trigger_of xs) (graph_of xs) u b)
    end-admits u = ap (λ (X : Set). X u) end_is

    start-admits : (u : ℕ) → members at-start u ≡ (ltb u (states (trigger_of xs)) && admits (trigger_of xs) (graph_of xs) u a)
    start-admits u = ap (λ (X : Set). X u) start_is

    new-fresh : (u : ℕ) → members new u ≡ ((ltb u (states (trigger_of xs)) && admits (trigger_of xs) (graph_of xs) u a) && not (marks_of xs u a))
    new-fresh u =
        ap (λ (X : Set). X u) new_is
        ∙ ap₂ (λ (x : Bool) (m : Marks). x && not (m u a)) (start-admits u) (ap marked ms-is ∙ held-marks xs h)

    able_links : (u : ℕ) → members able u ≡ (ltb u (length links) && any_below set_bits (λ o. members (get_or links u 0) o && members at-end o))
    able_links u = ap (λ (X : Set). X u) able-is

    abbrev reach : ℕ → Bool
    reach u = any_below set_bits (λ o. members (get_or links u 0) o && members at-end o)

    there : (u : ℕ) → members (bit_and able new) u ≡ true → seeds_of xs a b u ≡ true
    unfolding seeds_of linked
    there u e =
        let both = sym (and-members able new u) ∙ e in
        let f = sym (new-fresh u) ∙ and_r (members able u) (members new u) both in
        let adm = and_l (ltb u n && admits t g u a) (not (marks_of xs u a)) f in
        let l = sym (able_links u) ∙ and_l (members able u) (members new u) both in
        let w = any_take set_bits (λ o. members (get_or links u 0) o && members at-end o) (and_r (ltb u (length links)) (reach u) l) in
        let o = w.0 in
        let goes = and_l (members (get_or links u 0) o) (members at-end o) w.2 in
        let fits = sym (end-admits o) ∙ and_r (members (get_or links u 0) o) (members at-end o) w.2 in
        and_make (and_l (ltb u n) (admits t g u a) adm)
        (and_make
        (and_make (and_r (ltb u n) (admits t g u a) adm) (and_r (ltb u n && admits t g u a) (not (marks_of xs u a)) f))
        (any_make n (λ u'. linked t u u' && admits t g u' b) o (ltb-true o n (and_l (ltb o n) (admits t g o b) fits))
        (and_make (ap (λ (ls : List ℕ). members (get_or ls u 0) o) (sym links-is) ∙ goes) (and_r (ltb o n) (admits t g o b) fits))))

    back : (u : ℕ) → seeds_of xs a b u ≡ true → members (bit_and able new) u ≡ true
    unfolding seeds_of linked
    back u e =
        let linking = any_below n (λ u'. linked t u u' && admits t g u' b) in
        let f = and_r (ltb u n) (fresh t g (marks_of xs) u a && linking) e in
        let state = and_l (ltb u n) (fresh t g (marks_of xs) u a && linking) e in
        let free = and_l (fresh t g (marks_of xs) u a) linking f in
        let w = any_take n (λ u'. linked t u u' && admits t g u' b) (and_r (fresh t g (marks_of xs) u a) linking f) in
        let o = w.0 in
        and-members able new u
        ∙ and_make
        (able_links u
        ∙ and_make (ap (λ (ls : List ℕ). ltb u (length ls)) links-is ∙ ap (ltb u) facts.trigger.links ∙ state)
        (any_make set_bits (λ o. members (get_or links u 0) o && members at-end o) o (omega (arith, w.1, facts.trigger.few))
        (and_make (ap (λ (ls : List ℕ). members (get_or ls u 0) o) links-is ∙ and_l (linked t u o) (admits t g o b) w.2)
        (end-admits o ∙ and_make (lt-ltb o n w.1) (and_r (linked t u o) (admits t g o b) w.2)))))
        (new-fresh u
        ∙ and_make (and_make state (and_l (admits t g u a) (not (marks_of xs u a)) free)) (and_r (admits t g u a) (not (marks_of xs u a)) free))

    pub seeds_are : members (bit_and able new) ≡ seeds_of xs a b
    seeds_are = fun_ext (λ u. same (members (bit_and able new) u) (seeds_of xs a b u) (there u) (back u))

  -- ---- a table with the seeds at one node

  module _ (a b seeds : ℕ) (near : a < nodes (graph_of xs)) (seeds-is : members seeds ≡ seeds_of xs a b) (zs : List ℕ) (long : length zs ≡ max_nodes)
      (empty : (v : ℕ) → get_or zs v 0 ≡ 0) where
    pub seeded : (u v : ℕ) → marked (set zs a seeds) u v ≡ (eqb v a && seeds_of xs a b u)
    seeded u v =
        ⊎_elim
        (λ e.
        let is : v ≡ a = eqb-true v a e in
        ap (λ (w : ℕ). members w u) (ap (λ (x : ℕ). get_or (set zs a seeds) x 0) is ∙ get_or-set_same zs a seeds 0 (omega (arith, facts.graph.few)))
        ∙ ap (λ (X : Set). X u) seeds-is
        ∙ ap (λ (x : Bool). x && seeds_of xs a b u) (sym e))
        (λ e.
        ap (λ (w : ℕ). members w u) (get_or-set_other zs a v seeds 0 (eqb-false v a e) ∙ empty v)
        ∙ zero-members u
        ∙ ap (λ (x : Bool). x && seeds_of xs a b u) (sym e))
        (split (eqb v a))

    -- the seeds are fresh, and their node waits
    pub seeds-fit : (fs ws ws' : List ℕ) → Holds xs (fresh_pairs xs) fs → waits ws' ≡ also (waits ws) a
        → (u v : ℕ) → marked (set zs a seeds) u v ≡ true → (marked fs u v ≡ true) × (waits ws' v ≡ true)
    unfolding seeds_of
    seeds-fit fs ws ws' holds e u v h =
        let is = sym (seeded u v) ∙ h in
        let at_a : v ≡ a = eqb-true v a (and_l (eqb v a) (seeds_of xs a b u) is) in
        let linking = any_below n (λ u'. linked t u u' && admits t g u' b) in
        let sd = and_r (eqb v a) (seeds_of xs a b u) is in
        let l = ltb-true u n (and_l (ltb u n) (fresh t g (marks_of xs) u a && linking) sd) in
        let f = and_l (fresh t g (marks_of xs) u a) linking (and_r (ltb u n) (fresh t g (marks_of xs) u a && linking) sd) in (
          ap (marked fs u) at_a
              ∙ sym (paired-pair (pattern t g) (marked fs) u a l)
              ∙ holds.pairs (pair (pattern t g) u a) (pair_inside (pattern t g) u a l near)
              ∙ paired-pair (pattern t g) (fresh t g (marks_of xs)) u a l
              ∙ f,
          ap (λ (X : Set). X v) e ∙ or_r (waits ws v) (eq-eqb v a at_a),
        )

  -- ---- the trial set, grown from the seeds at the edge's start

  module _ (a b : ℕ) (links edges fs sd ts : List ℕ) (links-is : links ≡ (trigger_of xs).links) (edges-is : edges ≡ (graph_of xs).edges)
      (fresh-pairs : Holds xs (fresh_pairs xs) fs) (seeds : (u v : ℕ) → marked sd u v ≡ (eqb v a && seeds_of xs a b u))
      (grown : Grown (get_or xs 1 0) links edges fs sd ts) where
    abbrev P : Pattern
    P = pattern t g

    abbrev s : System
    s = system (pattern (trigger_of xs) (graph_of xs))

    abbrev D : Set
    D = paired (pattern (trigger_of xs) (graph_of xs)) (marked fs)

    abbrev S : Set
    S = paired (pattern (trigger_of xs) (graph_of xs)) (marked sd)

    abbrev clause : Set
    clause = pairs_of t g (λ u v. eqb v a && any_below n (λ u'. linked t u u' && admits t g u' b))

    grown-here : Grown (nodes (graph_of xs)) (trigger_of xs).links (graph_of xs).edges fs sd ts
    grown-here = rw (facts.counts.1, links-is, edges-is) at grown

    closed : (p : ℕ) → p < nodes (graph_of xs) * states (trigger_of xs)
        → paired (pattern (trigger_of xs) (graph_of xs)) (marked ts) p ≡ closure (system (pattern (trigger_of xs) (graph_of xs))) (paired (pattern (trigger_of xs) (graph_of xs)) (marked fs)) (paired (pattern (trigger_of xs) (graph_of xs)) (marked sd)) p
    closed p l =
        subst
        (λ (Q : Pattern). (q : ℕ) → q < nodes g * Q.states → paired Q (marked ts) q ≡ closure (system Q) (paired Q (marked fs)) (paired Q (marked sd)) q)
        (same-states t g facts.trigger facts.graph) grown-here.grown p l
        ∙ ap (λ (X : Set). X p) (closure-pattern t g facts.trigger facts.graph D S)

    -- a seed of the table is a fresh pair of the first clause, and the other way round
    seed-clause : (p : ℕ) → In (fresh_pairs xs) p → In (paired (pattern (trigger_of xs) (graph_of xs)) (marked sd)) p → In (pairs_of (trigger_of xs) (graph_of xs) (λ u v. eqb v a && any_below (states (trigger_of xs)) (λ u'. linked (trigger_of xs) u u' && admits (trigger_of xs) (graph_of xs) u' b))) p
    unfolding seeds_of
    seed-clause p f e =
        let u = p % n in
        let linking = any_below n (λ u'. linked t u u' && admits t g u' b) in
        let is = sym (seeds u (p / n)) ∙ e in
        let sd-u = and_r (eqb (p / n) a) (ltb u n && (fresh t g (marks_of xs) u a && linking)) is in
        and_make (and_l (eqb (p / n) a) (ltb u n && (fresh t g (marks_of xs) u a && linking)) is)
        (and_r (fresh t g (marks_of xs) u a) linking (and_r (ltb u n) (fresh t g (marks_of xs) u a && linking) sd-u))

    clause-seed : (p : ℕ) → p < nodes (graph_of xs) * states (trigger_of xs) → In (fresh_pairs xs) p → In (pairs_of (trigger_of xs) (graph_of xs) (λ u v. eqb v a && any_below (states (trigger_of xs)) (λ u'. linked (trigger_of xs) u u' && admits (trigger_of xs) (graph_of xs) u' b))) p → In (paired (pattern (trigger_of xs) (graph_of xs)) (marked sd)) p
    unfolding seeds_of
    clause-seed p l f e =
        let u = p % n in
        let linking = any_below n (λ u'. linked t u u' && admits t g u' b) in
        let at_a = and_l (eqb (p / n) a) linking e in
        seeds u (p / n)
        ∙ and_make at_a
        (and_make (lt-ltb u n (state-inside P p l))
        (and_make (subst (λ (v : ℕ). fresh t g (marks_of xs) u v ≡ true) (eqb-true (p / n) a at_a) f) (and_r (eqb (p / n) a) linking e)))

    trial-is : closure (system (pattern (trigger_of xs) (graph_of xs))) (paired (pattern (trigger_of xs) (graph_of xs)) (marked fs)) (paired (pattern (trigger_of xs) (graph_of xs)) (marked sd)) ≡ trial_set (trigger_of xs) (graph_of xs) (marks_of xs) a b
    unfolding trial_set
    trial-is =
        extensional s (closure s D S) (closure s (fresh_pairs xs) clause)
        (closure_least s D S (In (closure s (fresh_pairs xs) clause))
        (λ p l d e. let f = sym (fresh-pairs.pairs p l) ∙ d in closure-seed s (fresh_pairs xs) clause p l f (seed-clause p f e))
        (λ p o q l d k w m r. closure-step s (fresh_pairs xs) clause p o q l (sym (fresh-pairs.pairs p l) ∙ d) k w m r))
        (closure_least s (fresh_pairs xs) clause (In (closure s D S))
        (λ p l f e. closure-seed s D S p l (fresh-pairs.pairs p l ∙ f) (clause-seed p l f e))
        (λ p o q l f k w m r. closure-step s D S p o q l (fresh-pairs.pairs p l ∙ f) k w m r))

    pub trial-held : Holds xs (trial_set (trigger_of xs) (graph_of xs) (marks_of xs) a b) ts
    trial-held = record {
      long = grown-here.long;
      inside = λ u v e. fresh-pairs.inside u v (grown-here.within u v e);
      pairs = λ p l. closed p l ∙ ap (λ (X : Set). X p) trial-is;
    }
