-- The trial set has the two clauses of 01, and lies in every set that has them.
use Prim.Native.Nat.{ℕ, ◌%◌, ◌/◌, ◌<◌}
use mathlib.Core.Path.{◌≡◌, refl, sym, ◌∙◌}
use mathlib.Core.Bool.{true, ◌&&◌}
use lib.Dec.{eqb}
use borrow.Author.Tests.{eq-eqb, eqb-true}
use Rattle.simulation.specs.Sets.{Set, In, any_below}
use Rattle.simulation.specs.System.{closure}
use Rattle.simulation.specs.Pattern.{Pattern, pair, related, system}
use Rattle.simulation.proofs.Sets.{and_make, and_l, and_r, any_make, any_take}
use Rattle.simulation.proofs.System.{closure-inside, closure-seed, closure-step, closure_least, closure-domain}
use Rattle.simulation.proofs.Pattern.{pair-state, pair-node, pair_inside, state-inside, node-inside, paired-pair, related-state, related-pair, related_make, meets_make, meets-take, due-at}
use Rattle.session.specs.Trigger.{Trigger, Graph, Marks, states, nodes, linked, admits, pattern}
use Rattle.promises.specs.Standing.{fresh, pairs_of, Tried, trial_set}

module _ (t : Trigger) (g : Graph) (m : Marks) (a b : ℕ) where
  abbrev P : Pattern
  P = pattern t g

  abbrev n : ℕ
  n = states t

  -- the first clause as a set of pairs
  abbrev first-clause : Marks
  first-clause u v = eqb v a && any_below n (λ u'. linked t u u' && admits t g u' b)

  abbrev domain : Set
  domain = pairs_of t g (fresh t g m)

  abbrev seeds : Set
  seeds = pairs_of t g first-clause

  -- (u, v) is in the trial set
  abbrev pub Trial : ℕ → ℕ → Type 0
  Trial u v = related (pattern t g) (trial_set t g m a b) u v ≡ true

  pub trial-inside : (u v : ℕ) → Trial u v → (u < states t) × (v < nodes g)
  unfolding trial_set
  trial-inside u v h =
      let l = related-state P (trial_set t g m a b) u v h in
      (l, rw (pair-node P u v l) at (node-inside P (pair P u v) (closure-inside (system P) domain seeds (pair P u v) (related-pair P (trial_set t g m a b) u v h))))

  -- "admitted but not standing before"
  pub trial-fresh : (u v : ℕ) → Trial u v → fresh t g m u v ≡ true
  unfolding trial_set
  trial-fresh u v h =
      sym (paired-pair P (fresh t g m) u v (related-state P (trial_set t g m a b) u v h))
      ∙ closure-domain (system P) domain seeds (pair P u v) (related-pair P (trial_set t g m a b) u v h)

  pub trial-tried : a < nodes g → Tried t g m a b Trial
  unfolding trial_set
  trial-tried inside = record {
    starts = λ u u' l l' f d e.
        related_make P (trial_set t g m a b) u a l
        (closure-seed (system P) domain seeds (pair P u a) (pair_inside P u a l inside)
        (paired-pair P (fresh t g m) u a l ∙ f)
        (paired-pair P first-clause u a l
        ∙ and_make (eq-eqb a a refl) (any_make n (λ u'. linked t u u' && admits t g u' b) u' l' (and_make d e))));
    spreads = λ u w u' w' l k f d e h.
        let l' = related-state P (trial_set t g m a b) u' w' h in
        related_make P (trial_set t g m a b) u w l
        (closure-step (system P) domain seeds (pair P u w) u' (pair P u' w') (pair_inside P u w l k)
        (paired-pair P (fresh t g m) u w l ∙ f) l' (due-at P u u' w l ∙ d)
        (meets_make P (pair P u w) u' (pair P u' w') (sym (pair-state P u' w' l')) (rw (pair-node P u w l, pair-node P u' w' l') e))
        (related-pair P (trial_set t g m a b) u' w' h));
  }

  -- "the least set of pairs"
  pub trial_least : (R : ℕ → ℕ → Type 0) → Tried t g m a b R → (u v : ℕ) → Trial u v → R u v
  unfolding trial_set
  trial_least R c u v h =
      let l = related-state P (trial_set t g m a b) u v h in
      rw (pair-state P u v l, pair-node P u v l) at (go (pair P u v) (related-pair P (trial_set t g m a b) u v h))
    where
      go : (p : ℕ) → In (closure (system P) domain seeds) p → R (p % n) (p / n)
      go = closure_least (system P) domain seeds (λ p. R (p % n) (p / n))
          (λ p l d e.
          let u = p % n in
          let at_a : p / n ≡ a = eqb-true (p / n) a (and_l (eqb (p / n) a) (any_below n (λ u'. linked t u u' && admits t g u' b)) e) in
          let w = any_take n (λ u'. linked t u u' && admits t g u' b) (and_r (eqb (p / n) a) (any_below n (λ u'. linked t u u' && admits t g u' b)) e) in
          rw at_a
          (c.starts u w.0 (state-inside P p l) w.1 (rw at_a at d)
          (and_l (linked t u w.0) (admits t g w.0 b) w.2)
          (and_r (linked t u w.0) (admits t g w.0 b) w.2)))
          (λ p o q l d k du m r.
          let e = meets-take P p o q m in
          c.spreads (p % n) (p / n) o (q / n) (state-inside P p l) (node-inside P p l) d du e.1 (rw e.0 r))
