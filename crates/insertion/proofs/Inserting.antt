-- An insertion: the trial set refined beside the marks, and when it may be left out.
use Prim.Native.Nat.{ℕ, ◌*◌, ◌/◌, ◌%◌, ◌<◌, ◌≤◌}
use native.Mathlib.Nat.{mod-lt}
use mathlib.Core.Path.{◌≡◌, refl, sym, ◌∙◌, ap, fun_ext, subst}
use mathlib.Core.Logic.{⊎_elim}
use mathlib.Core.Bool.{true, false, not, ◌&&◌, ◌||◌, or-false, or_comm}
use mathlib.Core.List.{List}
use lib.Dec.{eqb}
use borrow.Author.Tests.{eqb-true, lt-ltb}
use Rattle.simulation.specs.Sets.{Set, In, none, union, any_below, count}
use Rattle.simulation.specs.System.{refined}
use Rattle.simulation.specs.Pattern.{pair, system}
use Rattle.simulation.proofs.Sets.{clash, refuted, and_make, and_l, and_r, or_r, or-take, count_mono}
use Rattle.simulation.proofs.System.{refined-start, refined-inside, closure-inside, closure-domain, closure_least}
use Rattle.simulation.proofs.Loops.{count_same, count_none}
use Rattle.simulation.proofs.Pattern.{paired-pair}
use Rattle.simulation.proofs.Terms.{joined}
use Rattle.session.specs.Trigger.{Trigger, Graph, Marks, states, nodes, linked, edge, admits, pattern}
use Rattle.session.specs.Layout.{trigger_of, graph_of, marks_of, valid_marks, in_layout}
use Rattle.session.proofs.Valid.{marks-facts, marks-valid}
use Rattle.session.proofs.Decoded.{Inside, LayoutFacts, layout-facts}
use Rattle.pair_tables.specs.Tables.{marked}
use Rattle.promises.specs.Standing.{stands, size, pairs_of, fresh, trial_set}
use Rattle.promises.proofs.Stands.{stands-inside}
use Rattle.promises.proofs.Changed.{inserted_stands}
use Rattle.editing.specs.Steps.{Holds, marked_pairs, fresh_pairs, seeds_of}
use Rattle.editing.proofs.Pairs.{marks-same, holds-set}

module _ (xs : List ℕ) (h : in_layout xs ≡ true) (a b : ℕ) where
  abbrev t : Trigger
  t = trigger_of xs

  abbrev g : Graph
  g = graph_of xs

  abbrev m : Marks
  m = marks_of xs

  abbrev n : ℕ
  n = states (trigger_of xs)

  abbrev facts : LayoutFacts xs
  facts = layout-facts xs h

  some : 0 < states (trigger_of xs)
  some = facts.trigger.some

  abbrev trials : Set
  trials = trial_set t g m a b

  trial_low : (p : ℕ) → In (trial_set (trigger_of xs) (graph_of xs) (marks_of xs) a b) p → p < nodes (graph_of xs) * states (trigger_of xs)
  unfolding trial_set
  trial_low p e = closure-inside (system (pattern t g)) _ _ p e

  trial-fresh : (p : ℕ) → In (trial_set (trigger_of xs) (graph_of xs) (marks_of xs) a b) p → In (fresh_pairs xs) p
  unfolding trial_set
  trial-fresh p e = closure-domain (system (pattern t g)) _ _ p e

  -- ---- no seed, no trial

  module _ (empty : (u : ℕ) → seeds_of xs a b u ≡ false) where
    no_trial : (p : ℕ) → trial_set (trigger_of xs) (graph_of xs) (marks_of xs) a b p ≡ false
    unfolding trial_set seeds_of
    no_trial p =
        refuted (trials p)
        (closure_least (system (pattern t g)) (fresh_pairs xs) (pairs_of t g (λ u v. eqb v a && any_below n (λ u'. linked t u u' && admits t g u' b))) (λ q. ⊥)
        (λ q l d e. clash (seed q d e) (empty (q % n)))
        (λ q o r l d k due m' e. e)
        p)
      where
        seed : (q : ℕ) → In (fresh_pairs xs) q → In (pairs_of t g (λ u v. eqb v a && any_below n (λ u'. linked t u u' && admits t g u' b))) q → seeds_of xs a b (q % n) ≡ true
        seed q d e =
            let linking = any_below n (λ u'. linked t (q % n) u' && admits t g u' b) in
            let at_a : q / n ≡ a = eqb-true (q / n) a (and_l (eqb (q / n) a) linking e) in
            and_make (lt-ltb (q % n) n (mod-lt q some))
            (and_make (subst (λ (v : ℕ). fresh t g m (q % n) v ≡ true) at_a d) (and_r (eqb (q / n) a) linking e))

    pub none_tried : 0 ≡ size (trigger_of xs) (graph_of xs) (trial_set (trigger_of xs) (graph_of xs) (marks_of xs) a b)
    none_tried = sym (count_none (nodes g * n) trials (λ p l. no_trial p))

    trial-none : trial_set (trigger_of xs) (graph_of xs) (marks_of xs) a b ≡ none
    trial-none = fun_ext no_trial

  -- ---- the trials refined beside the marks

  module _ (ts : List ℕ) (tried : Holds xs (trial_set (trigger_of xs) (graph_of xs) (marks_of xs) a b) ts) where
    pub tried-count : (k : ℕ) → k ≡ count (nodes (graph_of xs) * states (trigger_of xs)) (pairs_of (trigger_of xs) (graph_of xs) (marked ts))
        → k ≡ size (trigger_of xs) (graph_of xs) (trial_set (trigger_of xs) (graph_of xs) (marks_of xs) a b)
    tried-count k e = e ∙ count_same (nodes g * n) (pairs_of t g (marked ts)) trials tried.pairs

    -- no more are tried than are admitted
    pub tried-few : size (trigger_of xs) (graph_of xs) (trial_set (trigger_of xs) (graph_of xs) (marks_of xs) a b)
        ≤ size (trigger_of xs) (graph_of xs) (pairs_of (trigger_of xs) (graph_of xs) (admits (trigger_of xs) (graph_of xs)))
    tried-few =
        count_mono (nodes g * n) trials (pairs_of t g (admits t g))
        (λ p e. and_l (admits t g (p % n) (p / n)) (not (m (p % n) (p / n))) (trial-fresh p e))

    tried-is : pairs_of (trigger_of xs) (graph_of xs) (marked ts) ≡ trial_set (trigger_of xs) (graph_of xs) (marks_of xs) a b
    tried-is = holds-set xs some trials ts tried trial_low

    -- the pairs that begin to stand
    abbrev begun : Set
    begun = refined (system (pattern (trigger_of xs) (graph_of xs))) (marked_pairs xs) (pairs_of (trigger_of xs) (graph_of xs) (marked ts))

    module _ (ts' : List ℕ) (refines : Holds xs (refined (system (pattern (trigger_of xs) (graph_of xs))) (marked_pairs xs) (pairs_of (trigger_of xs) (graph_of xs) (marked ts))) ts')
        (all : List ℕ) (joined_is : (u v : ℕ) → marked all u v ≡ (marked ts' u v || marks_of xs u v)) where
      begun-is : pairs_of (trigger_of xs) (graph_of xs) (marked ts') ≡ refined (system (pattern (trigger_of xs) (graph_of xs))) (marked_pairs xs) (pairs_of (trigger_of xs) (graph_of xs) (marked ts))
      begun-is = holds-set xs some begun ts' refines (refined-inside (system (pattern t g)) (marked_pairs xs) (pairs_of t g (marked ts)))

      pub all-inside : Inside (trigger_of xs) (graph_of xs) (marked all)
      all-inside u v e = ⊎_elim (refines.inside u v) (facts.inside u v) (or-take (marked ts' u v) (m u v) (sym (joined_is u v) ∙ e))

      -- marks are only set
      pub all_more : (u v : ℕ) → marks_of xs u v ≡ true → marked all u v ≡ true
      all_more u v e = joined_is u v ∙ or_r (marked ts' u v) e

      -- and only at pairs that are admitted
      pub all_valid : valid_marks (trigger_of xs) (graph_of xs) (marked all) ≡ true
      all_valid =
          marks-valid t g (marked all)
          (λ u v l k e.
          ⊎_elim (new u v l k)
          (λ f. marks-facts t g m facts.marks u v l k f)
          (or-take (marked ts' u v) (m u v) (sym (joined_is u v) ∙ e)))
        where
          new : (u v : ℕ) → u < states t → v < nodes g → marked ts' u v ≡ true → admits t g u v ≡ true
          new u v l k f =
              let P = pattern t g in
              let p = pair P u v in
              let in-begun : In begun p = sym (ap (λ (X : Set). X p) begun-is) ∙ paired-pair P (marked ts') u v l ∙ f in
              let in-trials : In trials p = sym (ap (λ (X : Set). X p) tried-is) ∙ refined-start (system P) (marked_pairs xs) (pairs_of t g (marked ts)) p in-begun in
              let at_pair = paired-pair P (fresh t g m) u v l in
              and_l (admits t g u v) (not (m u v)) (sym at_pair ∙ trial-fresh p in-trials)

      -- marks that were those of the graph with the edges es, which the edge (a, b) joins, are those of this graph
      pub inserted_right : (es : List ℕ) → edge (graph_of xs) ≡ joined (edge (record { samples = (graph_of xs).samples; edges = es })) a b
          → marks_of xs ≡ stands (trigger_of xs) (record { samples = (graph_of xs).samples; edges = es })
          → marked all ≡ stands (trigger_of xs) (graph_of xs)
      inserted_right es one_more right =
          marks-same t g some (marked all) (stands t g) all-inside (stands-inside t g)
          (λ p l. joined_is (p % n) (p / n) ∙ or_comm (marked ts' (p % n) (p / n)) (m (p % n) (p / n)) ∙ ap (λ (X : Set). X p) whole)
        where
          g₀ : Graph
          g₀ = record { samples = g.samples; edges = es }

          whole : union (marked_pairs xs) (pairs_of t g (marked ts')) ≡ pairs_of t g (stands t g)
          whole =
              ap (union (marked_pairs xs)) (begun-is ∙ ap (refined (system (pattern t g)) (marked_pairs xs)) tried-is)
              ∙ subst
              (λ (x : Marks). union (pairs_of t g x) (refined (system (pattern t g)) (pairs_of t g x) (trial_set t g x a b)) ≡ pairs_of t g (stands t g))
              (sym right) (inserted_stands t some g.samples es g.edges a b one_more)

  -- ---- the marks where nothing is tried

  pub untried_right : ((u : ℕ) → seeds_of xs a b u ≡ false) → (es : List ℕ) → edge (graph_of xs) ≡ joined (edge (record { samples = (graph_of xs).samples; edges = es })) a b
      → marks_of xs ≡ stands (trigger_of xs) (record { samples = (graph_of xs).samples; edges = es })
      → marks_of xs ≡ stands (trigger_of xs) (graph_of xs)
  untried_right empty es one_more right =
      marks-same t g some m (stands t g) facts.inside (stands-inside t g)
      (λ p l. ap (λ (X : Set). X p) (grows ∙ whole))
    where
      nothing : refined (system (pattern t g)) (marked_pairs xs) none ≡ none
      nothing =
          fun_ext
          (λ p. refuted (refined (system (pattern t g)) (marked_pairs xs) none p) (λ e. clash (refined-start (system (pattern t g)) (marked_pairs xs) none p e) refl))

      grows : marked_pairs xs ≡ union (marked_pairs xs) (refined (system (pattern t g)) (marked_pairs xs) (trial_set t g m a b))
      grows =
          fun_ext (λ p. sym (or-false (marked_pairs xs p)))
          ∙ ap (union (marked_pairs xs)) (sym nothing ∙ ap (refined (system (pattern t g)) (marked_pairs xs)) (sym (trial-none empty)))

      whole : union (marked_pairs xs) (refined (system (pattern t g)) (marked_pairs xs) (trial_set t g m a b)) ≡ pairs_of t g (stands t g)
      whole =
          subst
          (λ (x : Marks). union (pairs_of t g x) (refined (system (pattern t g)) (pairs_of t g x) (trial_set t g x a b)) ≡ pairs_of t g (stands t g))
          (sym right) (inserted_stands t some g.samples es g.edges a b one_more)
