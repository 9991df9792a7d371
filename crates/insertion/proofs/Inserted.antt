-- The edit proper of an insertion, from its steps.
use Prim.Native.Nat.{ℕ, ◌*◌, ◌/◌, ◌%◌, ◌<◌}
use native.Mathlib.Nat.{lt_of_lt_of_le}
use native.Mathlib.Omega.{arith}
use mathlib.Core.Path.{◌≡◌, sym, ◌∙◌, ap}
use mathlib.Core.Bool.{true, false, ◌||◌}
use mathlib.Core.List.{List}
use lib.ListN.{length, get_or}
use Rattle.simulation.specs.Sets.{count}
use Rattle.simulation.specs.System.{refined}
use Rattle.simulation.specs.Pattern.{system}
use Rattle.simulation.proofs.Terms.{joined}
use Rattle.session.specs.Trigger.{Trigger, Graph, nodes, edge, pattern}
use Rattle.session.specs.Layout.{trigger_of, graph_of, marks_of, in_layout}
use Rattle.session.proofs.Valid.{edge-insert}
use Rattle.session.proofs.Decoded.{LayoutFacts, layout-facts}
use Rattle.pair_tables.specs.Tables.{marked}
use Rattle.promises.specs.Standing.{stands, size, pairs_of, trial_set}
use Rattle.promises.specs.Rules.{insertion, edited, graph_rules, verdict}
use Rattle.promises.specs.Promises.{Left, Done}
use Rattle.promises.proofs.Edits.{insertion_passed}
use Rattle.session_parts.specs.Inside.{Inside}
use Rattle.editing.specs.Steps.{Holds, marked_pairs, seeds_of}
use Rattle.editing.proofs.Moved.{moved-trigger, moved-graph, moved_marks, moved-layout, done-same, done_stored}
use Rattle.insertion.proofs.Inserting.{none_tried, untried_right, tried-count, tried-few, all-inside, all_more, all_valid, inserted_right}
use Rattle.session.specs.Limits.{max_edges}

module _ (xs : List ℕ) (a b : ℕ) (h : in_layout xs ≡ true) (ok : verdict (graph_rules insertion (graph_of xs) a b) ≡ 0) (xs₁ : List ℕ)
    (moved : Left (trigger_of xs) (edited insertion (graph_of xs) a b) (marks_of xs) xs xs₁) where
  abbrev passed : (a < nodes (graph_of xs)) × (b < nodes (graph_of xs)) × (edge (graph_of xs) a b ≡ false) × (length (graph_of xs).edges < max_edges)
  passed = insertion_passed (graph_of xs) a b ok

  -- the session with the edge in it
  pub in_layout_lem : in_layout xs₁ ≡ true
  in_layout_lem = moved-layout insertion xs a b h ok xs₁ moved

  same-trigger : trigger_of xs₁ ≡ trigger_of xs
  same-trigger = moved-trigger insertion xs a b h ok xs₁ moved

  more-graph : graph_of xs₁ ≡ edited insertion (graph_of xs) a b
  more-graph = moved-graph insertion xs a b h ok xs₁ moved

  same-marks : marks_of xs₁ ≡ marks_of xs
  same-marks = moved_marks insertion xs a b h ok xs₁ moved

  pub start_near : a < nodes (graph_of xs₁)
  start_near = rw more-graph passed.0

  pub end_near : b < nodes (graph_of xs₁)
  end_near = rw more-graph passed.1

  abbrev before : Graph
  before = record { samples = (graph_of xs₁).samples; edges = (graph_of xs).edges }

  before-is : before ≡ graph_of xs
  before-is = ap (λ (x : Graph). record { samples = x.samples; edges = (graph_of xs).edges }) more-graph

  one_more : edge (graph_of xs₁) ≡ joined (edge (record { samples = (graph_of xs₁).samples; edges = (graph_of xs).edges })) a b
  one_more =
      ap edge more-graph
      ∙ edge-insert (graph_of xs) a b (lt_of_lt_of_le passed.1 (layout-facts xs h).graph.few)
      ∙ ap (λ (x : Graph). joined (edge x) a b) (sym before-is)

  were_right : marks_of xs ≡ stands (trigger_of xs) (graph_of xs) → marks_of xs₁ ≡ stands (trigger_of xs₁) (record { samples = (graph_of xs₁).samples; edges = (graph_of xs).edges })
  were_right r = same-marks ∙ r ∙ ap (λ (y : Trigger). stands y (graph_of xs)) (sym same-trigger) ∙ ap (stands (trigger_of xs₁)) (sym before-is)

  -- no seed: no mark changes, and none is tried
  pub inserted_same : ((u : ℕ) → seeds_of xs₁ a b u ≡ false) → Done insertion (trigger_of xs) (graph_of xs) (marks_of xs) (marks_of xs₁) a b 0 xs xs₁
  inserted_same empty =
      done-same insertion xs a b h ok xs₁ moved (λ u v e. e, omega arith)
      (λ r. (
        rw (same-marks, same-trigger, more-graph) at (untried_right xs₁ in_layout_lem a b empty (graph_of xs).edges one_more (were_right r)),
        rw (same-marks, same-trigger, more-graph) at (none_tried xs₁ in_layout_lem a b empty),
      ))

  abbrev facts : LayoutFacts xs₁
  facts = layout-facts xs₁ in_layout_lem

  -- else the trials are refined beside the marks, and both are stored
  module _ (ts ts' all : List ℕ) (tried : Holds xs₁ (trial_set (trigger_of xs₁) (graph_of xs₁) (marks_of xs₁) a b) ts)
      (refines : Holds xs₁ (refined (system (pattern (trigger_of xs₁) (graph_of xs₁))) (marked_pairs xs₁) (pairs_of (trigger_of xs₁) (graph_of xs₁) (marked ts))) ts')
      (both : (u v : ℕ) → marked all u v ≡ (marked ts' u v || marks_of xs₁ u v)) where
    pub stored_inside : Inside xs₁ all
    stored_inside = all-inside xs₁ in_layout_lem a b ts tried ts' refines all both

    pub inserted_stored : (n : ℕ) → n ≡ count (get_or xs₁ 1 0 * get_or xs₁ 0 0) (λ p. marked ts (p % get_or xs₁ 0 0) (p / get_or xs₁ 0 0))
        → (xs₂ : List ℕ) → Left (trigger_of xs₁) (graph_of xs₁) (marked all) xs₁ xs₂
        → Done insertion (trigger_of xs) (graph_of xs) (marks_of xs) (marks_of xs₂) a b n xs xs₂
    inserted_stored n e xs₂ stored =
        let many : n ≡ size (trigger_of xs₁) (graph_of xs₁) (trial_set (trigger_of xs₁) (graph_of xs₁) (marks_of xs₁) a b) = tried-count xs₁ in_layout_lem a b ts tried n (rw (facts.counts.0, facts.counts.1) at e) in
        let here : n ≡ size (trigger_of xs) (edited insertion (graph_of xs) a b) (trial_set (trigger_of xs) (edited insertion (graph_of xs) a b) (marks_of xs) a b) =
        rw (same-marks, same-trigger, more-graph) at many in
        done_stored insertion xs a b h ok xs₁ moved all stored_inside xs₂ stored n
        (rw (same-trigger, more-graph) at (all_valid xs₁ in_layout_lem a b ts tried ts' refines all both)) (
          rw same-marks at (all_more xs₁ in_layout_lem a b ts tried ts' refines all both),
          rw here (rw (same-marks, same-trigger, more-graph) at (tried-few xs₁ in_layout_lem a b ts tried)),
        )
        (λ r. (
          rw (same-trigger, more-graph) at (inserted_right xs₁ in_layout_lem a b ts tried ts' refines all both (graph_of xs).edges one_more (were_right r)),
          here,
        ))
