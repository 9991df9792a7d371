-- Seeds that draw nothing in are the whole trial set.
use Prim.Native.Nat.{ℕ, ◌+◌, ◌*◌, ◌/◌, ◌%◌, ◌<◌}
use native.Mathlib.Numerals.{add-one}
use native.Mathlib.Omega.{arith}
use mathlib.Core.Path.{◌≡◌, refl, sym, ◌∙◌, ap, ap₂, fun_ext, subst}
use mathlib.Core.Bool.{Bool, true, false, not, ◌&&◌, ◌||◌, and_assoc}
use mathlib.Core.List.{List}
use lib.Dec.{eqb, ltb}
use lib.ListN.{length, get_or, set, take, drop, length-set}
use borrow.Author.Tests.{ltb-true, lt-ltb, eqb-true, eq-eqb}
use Rattle.simulation.specs.Sets.{Set, In, minus, any_below, all_below}
use Rattle.simulation.specs.System.{System, closure}
use Rattle.simulation.specs.Pattern.{system}
use Rattle.simulation.proofs.Sets.{clash, same, refuted, and_make, and_l, and_r, not_make, not-take, implies_make, implies_take, any_make, all_take}
use Rattle.simulation.proofs.System.{closure-seed, closure_least}
use Rattle.simulation.proofs.Pattern.{state-inside, meets-take}
use Rattle.simulation.proofs.Ordered.{elem_index}
use Rattle.simulation.proofs.Edges.{elem-joins}
use Rattle.bits.specs.Word.{members, overlaps, set_bits}
use Rattle.session.specs.Limits.{max_nodes, marks_at}
use Rattle.session.specs.Trigger.{Trigger, Graph, Marks, states, nodes, linked, admits, edge, pattern}
use Rattle.session.specs.Layout.{trigger_of, graph_of, marks_of, in_layout}
use Rattle.session.proofs.Decoded.{LayoutFacts, layout-facts}
use Rattle.pair_tables.specs.Tables.{marked}
use Rattle.links.specs.Links.{links_to}
use Rattle.edge_indexes.specs.Indexes.{ends_at}
use Rattle.promises.specs.Standing.{pairs_of, fresh, trial_set}
use Rattle.session_parts.specs.Admission.{admitted_at}
use Rattle.session_parts.proofs.Parts.{held-marks}
use Rattle.editing.specs.Steps.{Holds, fresh_pairs, seeds_of, fresh_among, alone_at}
use Rattle.trials.proofs.Trying.{seeded}

module _ (xs : List ℕ) (h : in_layout xs ≡ true) where
  abbrev t : Trigger
  t = trigger_of xs

  abbrev g : Graph
  g = graph_of xs

  abbrev n : ℕ
  n = states (trigger_of xs)

  abbrev facts : LayoutFacts xs
  facts = layout-facts xs h

  -- ---- the states of a word that are fresh at a node, as the words there tell them

  pub fresh-met : (ms : List ℕ) → ms ≡ take max_nodes (drop marks_at xs) → (word v able new : ℕ) → members able ≡ admitted_at xs v
      → members new ≡ minus (members able) (members (get_or ms v 0)) → overlaps word new ≡ fresh_among xs word v
  fresh-met ms ms-is word v able new able-is new_is = ap (λ (X : Set). any_below set_bits (λ u. members word u && X u)) (fun_ext at)
    where
      at : (u : ℕ) → members new u ≡ (ltb u (states (trigger_of xs)) && fresh (trigger_of xs) (graph_of xs) (marks_of xs) u v)
      at u =
          ap (λ (X : Set). X u) new_is
          ∙ ap₂ (λ (x : Bool) (m : Marks). x && not (m u v)) (ap (λ (X : Set). X u) able-is) (ap marked ms-is ∙ held-marks xs h)
          ∙ and_assoc (ltb u (states t)) (admits t g u v) (not (marks_of xs u v))

  -- ---- the first k edges: none that ends at a starts where a state of the word is fresh

  module _ (a w : ℕ) where
    abbrev follows : ℕ → Bool
    follows k = fresh_among xs w (get_or (graph_of xs).edges k 0 / max_nodes)

    abbrev passes : Set
    passes k = not (ends_at (graph_of xs).edges a k) || not (follows k)

    abbrev pub alone_to : ℕ → Bool
    alone_to k = all_below k (λ j. not (ends_at (graph_of xs).edges a j) || not (fresh_among xs w (get_or (graph_of xs).edges j 0 / max_nodes)))

    pub alone-none : alone_to 0 ≡ true
    unfolding all_below
    alone-none = refl

    pub alone-more : (k : ℕ) → alone_to k ≡ true
        → (get_or (graph_of xs).edges k 0 % max_nodes ≡ a → fresh_among xs w (get_or (graph_of xs).edges k 0 / max_nodes) ≡ false) → alone_to (k + 1) ≡ true
    unfolding all_below
    alone-more k e f =
        rw add-one
        (and_make (implies_make (ends_at g.edges a k) (not (follows k)) (λ m. not_make (f (eqb-true (get_or g.edges k 0 % max_nodes) a m)))) e)

    pub alone-found : (k : ℕ) → k < length (graph_of xs).edges → get_or (graph_of xs).edges k 0 % max_nodes ≡ a
        → fresh_among xs w (get_or (graph_of xs).edges k 0 / max_nodes) ≡ true → false ≡ alone_at xs a w
    unfolding alone_at
    alone-found k l e f =
        sym
        (refuted (alone_at xs a w)
        (λ b.
        clash f
        (not-take (follows k)
        (implies_take (ends_at g.edges a k) (not (follows k)) (all_take (length g.edges) passes b k l) (eq-eqb (get_or g.edges k 0 % max_nodes) a e)))))

    pub alone-all : (k : ℕ) → k ≡ length (graph_of xs).edges → alone_to k ≡ true → true ≡ alone_at xs a w
    unfolding alone_at
    alone-all k e b = sym (rw e at b)

  -- ---- the trial set

  module _ (a b seeds able : ℕ) (near : a < nodes (graph_of xs)) (seeds-is : members seeds ≡ seeds_of xs a b)
      (links : List ℕ) (links-is : links ≡ (trigger_of xs).links) (able-is : members able ≡ links_to links seeds) (alone : alone_at xs a able ≡ true)
      (zs : List ℕ) (long : length zs ≡ max_nodes) (empty : (v : ℕ) → get_or zs v 0 ≡ 0) where
    abbrev s : System
    s = system (pattern (trigger_of xs) (graph_of xs))

    abbrev linking : ℕ → Bool
    linking u = any_below (states (trigger_of xs)) (λ u'. linked (trigger_of xs) u u' && admits (trigger_of xs) (graph_of xs) u' b)

    abbrev clause : Set
    clause = pairs_of (trigger_of xs) (graph_of xs) (λ u v. eqb v a && any_below (states (trigger_of xs)) (λ u'. linked (trigger_of xs) u u' && admits (trigger_of xs) (graph_of xs) u' b))

    abbrev held : Set
    held = pairs_of (trigger_of xs) (graph_of xs) (marked (set zs a seeds))

    at : (u v : ℕ) → marked (set zs a seeds) u v ≡ (eqb v a && seeds_of xs a b u)
    at = seeded xs h a b seeds near seeds-is zs long empty

    -- a seed is a fresh pair of the first clause
    seed-take : (u v : ℕ) → marked (set zs a seeds) u v ≡ true
        → (v ≡ a) × (u < states (trigger_of xs)) × (fresh (trigger_of xs) (graph_of xs) (marks_of xs) u v ≡ true) × (linking u ≡ true) × (seeds_of xs a b u ≡ true)
    unfolding seeds_of
    seed-take u v e =
        let is = sym (at u v) ∙ e in
        let sd = and_r (eqb v a) (seeds_of xs a b u) is in
        let v-is : v ≡ a = eqb-true v a (and_l (eqb v a) (seeds_of xs a b u) is) in
        let rest = and_r (ltb u n) (fresh t g (marks_of xs) u a && linking u) sd in (
          v-is,
          ltb-true u n (and_l (ltb u n) (fresh t g (marks_of xs) u a && linking u) sd),
          subst (λ (x : ℕ). fresh t g (marks_of xs) u x ≡ true) (sym v-is) (and_l (fresh t g (marks_of xs) u a) (linking u) rest),
          and_r (fresh t g (marks_of xs) u a) (linking u) rest,
          sd,
        )

    seed_make : (u v : ℕ) → u < states (trigger_of xs) → fresh (trigger_of xs) (graph_of xs) (marks_of xs) u v ≡ true → (eqb v a && linking u) ≡ true
        → marked (set zs a seeds) u v ≡ true
    unfolding seeds_of
    seed_make u v l f e =
        let at_a = and_l (eqb v a) (linking u) e in
        at u v
        ∙ and_make at_a
        (and_make (lt-ltb u n l)
        (and_make (subst (λ (x : ℕ). fresh t g (marks_of xs) u x ≡ true) (eqb-true v a at_a) f) (and_r (eqb v a) (linking u) e)))

    -- no fresh pair at a predecessor has a link to a seed
    none-follows : (u w o : ℕ) → u < states (trigger_of xs) → fresh (trigger_of xs) (graph_of xs) (marks_of xs) u w ≡ true → linked (trigger_of xs) u o ≡ true
        → o < states (trigger_of xs) → members seeds o ≡ true → edge (graph_of xs) w a ≡ true → ⊥
    unfolding alone_at linked edge
    none-follows u w o l f d k sd e =
        let es = (graph_of xs).edges in
        let j = elem-joins max_nodes es w a e in
        let i = elem_index (w * max_nodes + a) es j.1 in
        let at-end : get_or es i.0 0 % max_nodes ≡ a = rw i.2 (omega (arith, j.0)) in
        let at-start : get_or es i.0 0 / max_nodes ≡ w = rw i.2 (omega (arith, j.0)) in
        let free =
        not-take (fresh_among xs able (get_or es i.0 0 / max_nodes))
        (implies_take (ends_at es a i.0) (not (fresh_among xs able (get_or es i.0 0 / max_nodes)))
        (all_take (length es) (λ k. not (ends_at es a k) || not (fresh_among xs able (get_or es k 0 / max_nodes))) alone i.0 i.1)
        (eq-eqb (get_or es i.0 0 % max_nodes) a at-end)) in
        let in-able : members able u ≡ true =
        ap (λ (X : Set). X u) able-is
        ∙ and_make (lt-ltb u (length links) (rw links-is (omega (arith, l, facts.trigger.links))))
        (any_make set_bits (λ x. members (get_or links u 0) x && members seeds x) o (omega (arith, k, facts.trigger.few))
        (and_make (ap (λ (ls : List ℕ). members (get_or ls u 0) o) links-is ∙ d) sd)) in
        clash
        (any_make set_bits (λ x. members able x && (ltb x n && fresh t g (marks_of xs) x (get_or es i.0 0 / max_nodes))) u (omega (arith, l, facts.trigger.few))
        (and_make in-able (and_make (lt-ltb u n l) (subst (λ (x : ℕ). fresh t g (marks_of xs) u x ≡ true) (sym at-start) f))))
        free

    pub alone-held : Holds xs (trial_set (trigger_of xs) (graph_of xs) (marks_of xs) a b) (set zs a seeds)
    unfolding trial_set
    alone-held =
        record {
          long = length-set zs a seeds ∙ long;
          inside = λ u v e. let k = seed-take u v e in (k.1, subst (λ (x : ℕ). x < nodes g) (sym k.0) near);
          pairs = λ p l.
              same (held p) (closure s (fresh_pairs xs) clause p)
              (λ e.
              let k = seed-take (p % n) (p / n) e in
              closure-seed s (fresh_pairs xs) clause p l k.2 (and_make (eq-eqb (p / n) a k.0) k.3))
              (closure_least s (fresh_pairs xs) clause (In held)
              (λ q m f e. seed_make (q % n) (q / n) (state-inside (pattern t g) q m) f e)
              (λ q o r m f k due met i.
              let c = meets-take (pattern t g) q o r met in
              let w = seed-take (r % n) (r / n) i in
              absurd
              (none-follows (q % n) (q / n) o (state-inside (pattern t g) q m) f due (rw c.0 w.1)
              (ap (λ (X : Set). X o) seeds-is ∙ rw c.0 w.4)
              (subst (λ (x : ℕ). edge g (q / n) x ≡ true) w.0 c.1)))
              p);
        }
