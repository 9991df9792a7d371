-- Whether every reached state is gathered: by all states, by State One, and by the set of those that are reached.
use Prim.Native.Nat.{ℕ, ◌<◌, ◌≤◌}
use native.Mathlib.Omega.{arith}
use mathlib.Core.Path.{◌≡◌, sym, ap, ap₂, ◌∙◌}
use mathlib.Core.Bool.{true, false, not, ◌||◌}
use mathlib.Core.List.{List}
use lib.Dec.{ltb}
use lib.ListN.{length}
use Rattle.simulation.specs.Sets.{Set, all_below}
use Rattle.simulation.proofs.Sets.{clash, same, refuted, implies_make, implies_take, or_r, all_make, all_take}
use Rattle.bits.specs.Word.{members, within, set_bits}
use Rattle.bits.proofs.Tests.{within-below}
use Rattle.session.specs.Reached.{reached, linked_by}
use Rattle.session.proofs.Reached.{reached-inside, reached-one}

module _ (links : List ℕ) (marked : ℕ) where
  abbrev asked : Set → Set
  asked X u = not (reached (linked_by links) u) || X u

  -- `marked` has the members of X
  module _ (X : Set) (e : members marked ≡ X) where
    pub fired-all : (all : ℕ) → length links ≤ set_bits → members all ≡ (λ i. ltb i (length links)) → within set_bits all marked ≡ true
        → true ≡ all_below (length links) (λ u. not (reached (linked_by links) u) || X u)
    fired-all all few a h =
        let each : all_below (length links) X ≡ true = ap (all_below (length links)) (sym e) ∙ sym (within-below set_bits (length links) all marked few a) ∙ h in
        sym (all_make (length links) (asked X) (λ u l. or_r (not (reached (linked_by links) u)) (all_take (length links) X each u l)))

    pub fired-none : 0 < length links → members marked 0 ≡ false → false ≡ all_below (length links) (λ u. not (reached (linked_by links) u) || X u)
    fired-none some h =
        sym
        (refuted (all_below (length links) (asked X))
        (λ f.
        clash
        (implies_take (reached (linked_by links) 0) (X 0) (all_take (length links) (asked X) f 0 some) (reached-one (linked_by links) some))
        (ap (λ (Y : Set). Y 0) (sym e) ∙ h)))

    pub fired-reached : (wanted : ℕ) → length links ≤ set_bits → members wanted ≡ reached (linked_by links)
        → within set_bits wanted marked ≡ all_below (length links) (λ u. not (reached (linked_by links) u) || X u)
    unfolding within
    fired-reached wanted few w =
        ap₂ (λ (W Y : Set). all_below set_bits (λ i. not (W i) || Y i)) w e
        ∙ (same (all_below set_bits (asked X)) (all_below (length links) (asked X))
        (λ h. all_make (length links) (asked X) (λ u l. all_take set_bits (asked X) h u (omega arith)))
        (λ h.
        all_make set_bits (asked X)
        (λ u l.
        implies_make (reached (linked_by links) u) (X u)
        (λ r. implies_take (reached (linked_by links) u) (X u) (all_take (length links) (asked X) h u (reached-inside (linked_by links) u r)) r))))
