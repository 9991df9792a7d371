-- The marks that a table lacks, counted.
use Prim.Native.Nat.{ℕ, ◌*◌, ◌/◌, ◌%◌, ◌<◌}
use native.Mathlib.Omega.{arith}
use mathlib.Core.Path.{◌≡◌, sym, ◌∙◌, ap}
use mathlib.Core.Bool.{true, not, ◌&&◌}
use mathlib.Core.List.{List}
use lib.ListN.{get_or, take, drop}
use Rattle.simulation.specs.Sets.{minus, count}
use Rattle.simulation.proofs.Sets.{and_l}
use Rattle.simulation.proofs.Loops.{count_same}
use Rattle.session.specs.Limits.{marks_at, max_nodes}
use Rattle.session.specs.Trigger.{Marks, states, nodes}
use Rattle.session.specs.Layout.{trigger_of, graph_of, marks_of, in_layout}
use Rattle.session.proofs.Decoded.{LayoutFacts, layout-facts}
use Rattle.pair_tables.specs.Tables.{marked}
use Rattle.promises.specs.Standing.{pairs_of}
use Rattle.promises.specs.Promises.{ceased}
use Rattle.session_parts.proofs.Parts.{held-marks}

-- what a table ts takes away from the marks of a session
module _ (xs : List ℕ) (h : in_layout xs ≡ true) (saved ts gone : List ℕ) (full : saved ≡ take max_nodes (drop marks_at xs))
    (taken : (u v : ℕ) → marked gone u v ≡ (marked saved u v && not (marked ts u v))) where
  abbrev facts : LayoutFacts xs
  facts = layout-facts xs h

  gone-marks : (u v : ℕ) → marked gone u v ≡ (marks_of xs u v && not (marked ts u v))
  gone-marks u v = taken u v ∙ ap (λ (m : Marks). m u v && not (marked ts u v)) (ap marked full ∙ held-marks xs h)

  pub gone-states : (u v : ℕ) → marked gone u v ≡ true → u < get_or xs 0 0
  gone-states u v e =
      omega (arith, facts.counts.0, (facts.inside u v (and_l (marks_of xs u v) (not (marked ts u v)) (sym (gone-marks u v) ∙ e))).0)

  pub gone-counted : count (get_or xs 1 0 * get_or xs 0 0) (λ p. marked gone (p % get_or xs 0 0) (p / get_or xs 0 0))
      ≡ ceased (trigger_of xs) (graph_of xs) (marks_of xs) (marked ts)
  gone-counted =
      rw (facts.counts.0, facts.counts.1)
      (count_same (nodes (graph_of xs) * states (trigger_of xs))
      (λ p. marked gone (p % states (trigger_of xs)) (p / states (trigger_of xs)))
      (minus (pairs_of (trigger_of xs) (graph_of xs) (marks_of xs)) (pairs_of (trigger_of xs) (graph_of xs) (marked ts)))
      (λ p l. gone-marks (p % states (trigger_of xs)) (p / states (trigger_of xs))))
