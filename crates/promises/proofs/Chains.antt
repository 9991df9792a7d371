-- One edge more: what stands only grows, and each pair that it brings has a chain to the edge's start.
use Prim.Native.Nat.{ℕ, ◌%◌, ◌/◌}
use mathlib.Core.Path.{◌≡◌, refl, sym, ◌∙◌, ap, subst}
use mathlib.Core.Logic.{⊎_elim}
use mathlib.Core.Bool.{Bool, true, false}
use mathlib.Core.List.{List}
use lib.Dec.{eqb}
use borrow.Author.Tests.{eqb-true}
use Rattle.simulation.specs.Sets.{Set, In}
use Rattle.simulation.specs.System.{greatest}
use Rattle.simulation.specs.Pattern.{Pattern, pair, system, best, plain}
use Rattle.simulation.proofs.Terms as terms
use Rattle.simulation.proofs.Terms.{changed, joined}
use Rattle.simulation.proofs.Sets.{clash, split, refuted}
use Rattle.simulation.proofs.Pattern.{pair-state, pair-node, pair-whole, meets-take, best-state, best-pair, best_make, best_of}
use Rattle.simulation.proofs.Change.{minus_make, minus_l, minus_r}
use Rattle.simulation.proofs.Plain.{plain_grows, plain-chain}
use Rattle.session.specs.Trigger.{Trigger, Graph, Marks, states, nodes, linked, edge, admits, pattern}
use Rattle.promises.specs.Standing.{stands}
use Rattle.promises.specs.Demands.{Chain, last, link}

-- the graph of these samples and edges
abbrev pub over : List ℕ → List ℕ → Graph
over samples edges = record { samples = samples; edges = edges }

-- the graph `more` has the edges of the graph `less`, and the edge from a to b
module _ (t : Trigger) (samples es more-es : List ℕ) (a b : ℕ) (one_more : edge (over samples more-es) ≡ joined (edge (over samples es)) a b) where
  abbrev less : Graph
  less = over samples es

  abbrev more : Graph
  more = over samples more-es

  abbrev n : ℕ
  n = states t

  abbrev A : Pattern
  A = pattern t less

  abbrev B : Pattern
  B = plain n (nodes less) (linked t) (admits t less) (joined (edge less) a b)

  stands-more : stands t more ≡ best B
  unfolding stands admits
  stands-more = ap (λ (e : ℕ → ℕ → Bool). best (plain n (nodes less) (linked t) (admits t less) e)) one_more

  stands-less : stands t less ≡ best A
  unfolding stands
  stands-less = refl

  pub stands_grows : (u v : ℕ) → stands t (over samples es) u v ≡ true → stands t (over samples more-es) u v ≡ true
  stands_grows u v h =
      rw stands-more (plain_grows n (nodes less) (linked t) (admits t less) (edge less) a b u v (rw stands-less at h))

  abbrev moved : Set
  moved = changed (system A) (system A).meets (system B).meets

  moved_make : (u v : ℕ) → stands t less u v ≡ false → stands t more u v ≡ true → In moved (pair A u v)
  unfolding changed
  moved_make u v old new =
      let h : best B u v ≡ true = rw stands-more at new in
      let l = best-state B u v h in
      minus_make (greatest (system B)) (greatest (system A)) (pair A u v) (best-pair B u v h)
      (refuted (greatest (system A) (pair A u v)) (λ e. clash (best_make A u v l e) (rw stands-less at old)))

  -- a changed pair has changed
  moved-take : (p : ℕ) → In moved p → (stands t less (p % n) (p / n) ≡ false) × (stands t more (p % n) (p / n) ≡ true)
  unfolding changed
  moved-take p h =
      let new = best_of B p (minus_l (greatest (system B)) (greatest (system A)) p h) in (
        rw stands-less
            (refuted (best A (p % n) (p / n))
            (λ e.
            clash (subst (In (greatest (system A))) (pair-whole A p) (best-pair A (p % n) (p / n) e))
            (minus_r (greatest (system B)) (greatest (system A)) p h))),
        rw stands-more new,
      )

  module _ (before after : Marks) (differs : (u v : ℕ) → stands t (over samples es) u v ≡ false → stands t (over samples more-es) u v ≡ true → before u v ≡ after u v → ⊥) where
    walk : {p : ℕ} → terms.Chain (system B) moved (λ q. eqb (q / n) a) p → Chain t more before after a (p % n) (p / n)
    walk {p} (terms.seed l d e) =
        let here : p / n ≡ a = eqb-true (p / n) a e in
        let w = moved-take p d in
        subst (Chain t more before after a (p % n)) (sym here)
        (last (subst (λ (v : ℕ). before (p % n) v ≡ after (p % n) v → ⊥) here (differs (p % n) (p / n) w.0 w.1)))
    walk {p} (terms.step o q l d k due m c) =
        let w = moved-take p d in
        let e = meets-take B p o q m in
        link o (q / n) (differs (p % n) (p / n) w.0 w.1) due (ap (λ (f : ℕ → ℕ → Bool). f (p / n) (q / n)) one_more ∙ e.1)
        (subst (λ (u : ℕ). Chain t more before after a u (q / n)) (sym e.0) (walk c))

    pub stands-chain : (u v : ℕ) → stands t (over samples es) u v ≡ false → stands t (over samples more-es) u v ≡ true
        → Chain t (over samples more-es) before after a u v
    stands-chain u v old new =
        let l = best-state B u v (rw stands-more at new) in
        rw (pair-state A u v l, pair-node A u v l) at
        (walk (plain-chain n (nodes less) (linked t) (admits t less) (edge less) a b (pair A u v) (moved_make u v old new)))

-- a mark that differs where the second holds all of the first
pub only_gained : (before after : Marks) (u v : ℕ) → (before u v ≡ true → after u v ≡ true) → (before u v ≡ after u v → ⊥)
    → (before u v ≡ false) × (after u v ≡ true)
only_gained before after u v grows differs =
    ⊎_elim
    (λ e. absurd (differs (e ∙ sym (grows e))))
    (λ e. (e, ⊎_elim (λ f. f) (λ f. absurd (differs (e ∙ sym f))) (split (after u v))))
    (split (before u v))
