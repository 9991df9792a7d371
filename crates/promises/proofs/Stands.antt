-- What stands is the greatest simulation; firing; and document 000's match relation.
use Prim.Native.Nat.{ℕ, ◌<◌}
use mathlib.Core.Path.{◌≡◌}
use mathlib.Core.Logic.{◌↔◌}
use mathlib.Core.Bool.{true, not, ◌||◌}
use Rattle.simulation.specs.Sets.{any_below}
use Rattle.simulation.proofs.Terms.{Simulates}
use Rattle.simulation.proofs.Sets.{same, implies_make, implies_take, any_make, any_take, all_make, all_take}
use Rattle.simulation.proofs.Pattern.{best-simulates, within-best}
use Rattle.session.specs.Trigger.{Trigger, Graph, Marks, states, nodes, linked, admits, pattern}
use Rattle.session.specs.Reached.{Reached, reached}
use Rattle.session.proofs.Reached.{reached-inside, reached-one, reached_least, reached_iff}
use Rattle.promises.specs.Standing.{Simulation, stands, fires, Matched}

module _ (t : Trigger) (g : Graph) where
  best-is : Simulates (pattern t g) (λ u v. stands t g u v ≡ true)
  unfolding stands
  best-is = best-simulates (pattern t g)

  -- "The union of all simulations is a simulation. It is the greatest"
  pub stands-simulates : Simulation t g (λ u v. stands t g u v ≡ true)
  stands-simulates = record {
    inside = best-is.inside;
    admitted = best-is.admits;
    carried = λ u u' v l d h. let w = best-is.carries u u' v l d h in (w.0, w.2, w.3);
  }

  pub stands-greatest : (R : ℕ → ℕ → Type 0) → Simulation t g R → (u v : ℕ) → R u v → stands t g u v ≡ true
  unfolding stands
  stands-greatest R m =
      within-best (pattern t g) R record {
        inside = m.inside;
        admits = m.admitted;
        carries = λ u u' v l d r. let w = m.carried u u' v l d r in (w.0, (m.inside u' w.0 w.2).1, w.1, w.2);
      }

  pub stands-inside : (u v : ℕ) → stands t g u v ≡ true → (u < states t) × (v < nodes g)
  stands-inside = best-is.inside

  pub stands-admitted : (u v : ℕ) → stands t g u v ≡ true → admits t g u v ≡ true
  stands-admitted = best-is.admits

  -- each link of a state that stands leads to one that does
  pub stands_on : (u u' v : ℕ) → u' < states t → linked t u u' ≡ true → stands t g u v ≡ true → (v' : ℕ) × (stands t g u' v' ≡ true)
  stands_on u u' v l k h = let w = stands-simulates.carried u u' v l k h in (w.0, w.2)

  -- ---- firing

  pub fires_make : (m : Marks) → ((u : ℕ) → reached t u ≡ true → (v : ℕ) × (v < nodes g) × (m u v ≡ true)) → fires t g m ≡ true
  unfolding fires
  fires_make m h =
      all_make (states t) (λ u. not (reached t u) || any_below (nodes g) (m u))
      (λ u l.
      implies_make (reached t u) (any_below (nodes g) (m u)) (λ r. let w = h u r in any_make (nodes g) (m u) w.0 w.1 w.2))

  pub fires-take : (m : Marks) → fires t g m ≡ true → (u : ℕ) → reached t u ≡ true → (v : ℕ) × (v < nodes g) × (m u v ≡ true)
  unfolding fires
  fires-take m h u r =
      any_take (nodes g) (m u)
      (implies_take (reached t u) (any_below (nodes g) (m u))
      (all_take (states t) (λ u. not (reached t u) || any_below (nodes g) (m u)) h u (reached-inside t u r)) r)

  -- "The trigger fires when every state stands at some node", every reached one
  pub fires_iff : (fires t g (stands t g) ≡ true) ↔ ((u : ℕ) → Reached t u → (v : ℕ) × (stands t g u v ≡ true))
  fires_iff = (
    λ h u c. let w = fires-take (stands t g) h u ((reached_iff t u).1 c) in (w.0, w.2),
    λ h.
        fires_make (stands t g)
        (λ u r. let w = h u ((reached_iff t u).0 r) in (w.0, (stands-inside u w.0 w.1).1, w.1)),
  )

  -- where State One stands, so does all that is reached: firing is whether State One stands somewhere. Of marks that are no simulation this does not hold.
  pub fires-one : 0 < states t → fires t g (stands t g) ≡ any_below (nodes g) (stands t g 0)
  fires-one l =
      same (fires t g (stands t g)) (any_below (nodes g) (stands t g 0))
      (λ h. let w = fires-take (stands t g) h 0 (reached-one t l) in any_make (nodes g) (stands t g 0) w.0 w.1 w.2)
      (λ h.
      let w = any_take (nodes g) (stands t g 0) h in
      fires_iff.1
      (λ u c.
      reached_least t (λ u. (v : ℕ) × (stands t g u v ≡ true)) (λ z. (w.0, w.2)) (λ u u' s k d. stands_on u u' s.0 k d s.1) u ((reached_iff t u).1 c)))

  -- ---- document 000's relation, of a trigger and a graph: where every state stands it is what stands, and where a pair is in it every state stands

  pub matched_all : ((u : ℕ) → u < states t → (v : ℕ) × (stands t g u v ≡ true)) → (u v : ℕ) → Matched t g u v ↔ (stands t g u v ≡ true)
  matched_all each u v = (
    λ w. stands-greatest (λ u v. w.0 u v ≡ true) w.1.simulates u v w.2,
    λ h. (stands t g, record { simulates = stands-simulates; total = each }, h),
  )

  pub matched_each : (u v : ℕ) → Matched t g u v → (x : ℕ) → x < states t → (y : ℕ) × (stands t g x y ≡ true)
  matched_each u v w x l =
      let y = w.1.total x l in
      (y.0, stands-greatest (λ u v. w.0 u v ≡ true) w.1.simulates x y.0 y.1)
