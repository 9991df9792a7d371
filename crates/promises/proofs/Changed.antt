-- One edge more or less: the pairs that stand after it, from those that stood before.
use Prim.Native.Nat.{ℕ, ◌%◌, ◌/◌, ◌<◌}
use native.Mathlib.Nat.{mod-lt}
use mathlib.Core.Path.{◌≡◌, sym, ◌∙◌, ap, ap₂, fun_ext, subst}
use mathlib.Core.Bool.{Bool, not, ◌&&◌}
use mathlib.Core.List.{List}
use borrow.Author.Tests.{lt-ltb}
use Rattle.simulation.specs.Sets.{Set, In, none, union}
use Rattle.simulation.specs.System.{supported, greatest, refined, closure}
use Rattle.simulation.specs.Pattern.{Pattern, system, best, plain}
use Rattle.simulation.proofs.Terms.{joined}
use Rattle.simulation.proofs.Pattern.{pair-whole}
use Rattle.simulation.proofs.Plain.{plain-seeds, fresh, plain_inserted, plain_deleted, plain-first}
use Rattle.session.specs.Trigger.{Trigger, Graph, states, nodes, linked, edge, admits, pattern}
use Rattle.promises.specs.Standing.{stands, pairs_of, trial_set}
use Rattle.promises.proofs.Chains.{over}

-- the pairs that stand are the greatest set of the system
pub pairs-stands : (t : Trigger) (g : Graph) → 0 < states t → pairs_of t g (stands t g) ≡ greatest (system (pattern t g))
unfolding stands best
pairs-stands t g some =
    fun_ext
    (λ p.
    ap₂ ◌&&◌ (lt-ltb (p % states t) (states t) (mod-lt p some)) (ap (greatest (system (pattern t g))) (pair-whole (pattern t g) p)))

-- the graph `more` has the edges of the graph `less`, and the edge from a to b
module _ (t : Trigger) (some : 0 < states t) (samples es more-es : List ℕ) (a b : ℕ)
    (one_more : edge (over samples more-es) ≡ joined (edge (over samples es)) a b) where
  abbrev less : Graph
  less = over samples es

  abbrev more : Graph
  more = over samples more-es

  abbrev n : ℕ
  n = states t

  abbrev A : Pattern
  A = pattern t less

  abbrev B : Pattern
  B = plain n (nodes less) (linked t) (admits t less) (joined (edge less) a b)

  pattern-more : pattern t more ≡ B
  unfolding admits
  pattern-more = ap (λ (e : ℕ → ℕ → Bool). plain n (nodes less) (linked t) (admits t less) e) one_more

  abbrev old : Set
  old = pairs_of t less (stands t less)

  abbrev new : Set
  new = pairs_of t more (stands t more)

  new_is : new ≡ greatest (system B)
  new_is = pairs-stands t more some ∙ ap (λ (P : Pattern). greatest (system P)) pattern-more

  -- insertion: the trial set, refined beside what stood
  trial-is : trial_set t more (stands t less) a b ≡ closure (system B) (fresh (system A)) (plain-seeds n (linked t) (admits t less) a b)
  unfolding trial_set admits
  trial-is =
      ap₂ (λ (P : Pattern) (X : Set). closure (system P) (λ p. admits t less (p % n) (p / n) && not (X p)) (plain-seeds n (linked t) (admits t less) a b))
      pattern-more (pairs-stands t less some)

  pub inserted_stands : union (pairs_of t (over samples es) (stands t (over samples es)))
      (refined (system (pattern t (over samples more-es))) (pairs_of t (over samples es) (stands t (over samples es))) (trial_set t (over samples more-es) (stands t (over samples es)) a b))
      ≡ pairs_of t (over samples more-es) (stands t (over samples more-es))
  inserted_stands =
      ap (λ (P : Pattern). union old (refined (system P) old (trial_set t more (stands t less) a b))) pattern-more
      ∙ ap₂ (λ (S T : Set). union S (refined (system B) S T)) (pairs-stands t less some) trial-is
      ∙ plain_inserted n (nodes less) (linked t) (admits t less) (edge less) a b
      ∙ sym new_is

  -- deletion: what stood, refined with nothing settled
  pub deleted_stands : refined (system (pattern t (over samples es))) none (pairs_of t (over samples more-es) (stands t (over samples more-es)))
      ≡ pairs_of t (over samples es) (stands t (over samples es))
  deleted_stands = rw (new_is, pairs-stands t less some) (plain_deleted n (nodes less) (linked t) (admits t less) (edge less) a b)

  -- away from the edge's start all keep their support
  pub deleted_first : (p : ℕ) → In (pairs_of t (over samples more-es) (stands t (over samples more-es))) p → (p / states t ≡ a → ⊥)
      → In (supported (system (pattern t (over samples es))) (pairs_of t (over samples more-es) (stands t (over samples more-es)))) p
  deleted_first p h away =
      subst (λ (X : Set). In (supported (system A) X) p) (sym new_is)
      (plain-first n (nodes less) (linked t) (admits t less) (edge less) a b p (ap (λ (X : Set). X p) (sym new_is) ∙ h) away)
