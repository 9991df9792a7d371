-- What the report of a call reads from a session in layout: firing, and the change list.
use Rattle.session.specs.Limits.{max_changes}
use Prim.Native.Nat.{ℕ, ◌≤◌}
use native.Mathlib.Nat.{mul-le-mul_left}
use native.Mathlib.Omega.{arith}
use mathlib.Core.Path.{◌≡◌, refl, ◌∙◌, ap, ap₂}
use mathlib.Core.Bool.{Bool, true, not, ◌||◌}
use mathlib.Core.List.{List}
use lib.ListN.{length, get_or, take}
use lib.Seq.{length-take-le, get_or-take}
use Rattle.simulation.specs.Sets.{Set, all_below, any_below}
use Rattle.simulation.proofs.Edges.{any_same, all_same}
use Rattle.bits.specs.Word.{members}
use Rattle.session.specs.Trigger.{Trigger, Graph, states, nodes}
use Rattle.session.specs.Reached.{reached, linked_by}
use Rattle.session.specs.Layout.{trigger_of, graph_of, in_layout}
use Rattle.session.proofs.Reached.{reached-same}
use Rattle.session.proofs.Decoded.{LayoutFacts, layout-facts, layout_limits}
use Rattle.pair_tables.specs.Tables.{marked}
use Rattle.listing.specs.Changes.{changes}
use Rattle.listing.specs.Placed.{table_changes}
use Rattle.listing.proofs.Placing.{table-short}
use Rattle.promises.specs.Standing.{fires}

module _ (xs : List ℕ) (h : in_layout xs ≡ true) where
  abbrev facts : LayoutFacts xs
  facts = layout-facts xs h

  abbrev t : Trigger
  t = trigger_of xs

  abbrev g : Graph
  g = graph_of xs

  -- ---- the end of a call

  -- firing is read from the words of the nodes, and what is reached from the links
  pub held-fires : (ts : List ℕ) → get_or xs 1 0 ≤ length ts
      → (let links = (trigger_of xs).links in
      let marks = take (get_or xs 1 0) ts in
      all_below (length links) (λ u. not (reached (linked_by links) u) || any_below (length marks) (λ v. members (get_or marks v 0) u)))
      ≡ fires (trigger_of xs) (graph_of xs) (marked ts)
  unfolding fires
  held-fires ts l =
      let m = get_or xs 1 0 in
      let links = t.links in
      let marks = take m ts in
      ap₂
      (λ (k : ℕ) (X : Set). all_below k (λ u. not (X u) || any_below (length marks) (λ v. members (get_or marks v 0) u)))
      facts.trigger.links
      (reached-same (linked_by links) t facts.trigger.links refl)
      ∙ all_same (states t) (λ u. not (reached t u) || any_below (length marks) (λ v. members (get_or marks v 0) u))
      (λ u. not (reached t u) || any_below (nodes g) (λ v. members (get_or ts v 0) u))
      (λ u i.
      ap (λ (b : Bool). not (reached t u) || b)
      (ap (λ (k : ℕ). any_below k (λ v. members (get_or marks v 0) u)) (length-take-le m ts l)
      ∙ any_same m (λ v. members (get_or marks v 0) u) (λ v. members (get_or ts v 0) u)
      (λ v k. ap (λ (w : ℕ). members w u) (get_or-take m ts v 0 k))
      ∙ ap (λ (k : ℕ). any_below k (λ v. members (get_or ts v 0) u)) facts.counts.1))

  -- the list between two tables is the change list
  pub held-changes : (bs cs : List ℕ) → table_changes (get_or xs 0 0) (get_or xs 1 0) bs cs ≡ changes (trigger_of xs) (graph_of xs) (marked bs) (marked cs)
  unfolding changes table_changes
  held-changes bs cs = rw (facts.counts.0, facts.counts.1)

  -- a room that is long enough holds any list
  pub held-few : (bs cs : List ℕ) → length (table_changes (get_or xs 0 0) (get_or xs 1 0) bs cs) ≤ max_changes
  held-few bs cs =
      let b = layout_limits xs h in
      omega (
        arith,
        table-short (get_or xs 0 0) bs cs (get_or xs 1 0),
        mul-le-mul_left (get_or xs 1 0) b.few_states,
        b.few_nodes,
      )
