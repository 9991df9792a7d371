-- A deletion from the session at entry: the edge is taken out, and the marks stay where they are steady, or those that refinement leaves are stored.
use Prim.Native.Nat.{ℕ, ◌<◌}
use native.Mathlib.Nat.{lt_of_lt_of_le}
use mathlib.Core.Path.{◌≡◌}
use mathlib.Core.Bool.{true}
use mathlib.Core.List.{List}
use Rattle.simulation.proofs.Terms.{joined}
use Rattle.simulation.proofs.Plain.{joined-parted}
use Rattle.session.specs.Trigger.{nodes, edge}
use Rattle.session.specs.Layout.{trigger_of, graph_of, marks_of, valid_marks, in_layout}
use Rattle.session.proofs.Valid.{edge-remove, marks-facts, marks-valid}
use Rattle.session.proofs.Decoded.{LayoutFacts, layout-facts}
use Rattle.pair_tables.specs.Tables.{marked}
use Rattle.promises.specs.Standing.{stands}
use Rattle.promises.specs.Rules.{deletion, edited, graph_rules, verdict}
use Rattle.promises.specs.Promises.{Left, Done, ceased}
use Rattle.promises.proofs.Edits.{deletion_passed}
use Rattle.session_parts.specs.Inside.{Inside}
use Rattle.editing.specs.Steps.{steady_at, Ceased}
use Rattle.editing.proofs.Moved.{moved-trigger, moved-graph, moved_marks, moved-layout, done-same, done_stored}
use Rattle.deletion.proofs.Deleting.{none-ceased, ceased-right, steady_right}

module _ (xs : List ℕ) (a b : ℕ) (h : in_layout xs ≡ true) (ok : verdict (graph_rules deletion (graph_of xs) a b) ≡ 0)
    (xs₁ : List ℕ) (moved : Left (trigger_of xs) (edited deletion (graph_of xs) a b) (marks_of xs) xs xs₁) where
  -- the session without the edge
  trigger-is : trigger_of xs₁ ≡ trigger_of xs
  trigger-is = moved-trigger deletion xs a b h ok xs₁ moved

  graph_is : graph_of xs₁ ≡ edited deletion (graph_of xs) a b
  graph_is = moved-graph deletion xs a b h ok xs₁ moved

  marks-is : marks_of xs₁ ≡ marks_of xs
  marks-is = moved_marks deletion xs a b h ok xs₁ moved

  pub deleted_layout : in_layout xs₁ ≡ true
  deleted_layout = moved-layout deletion xs a b h ok xs₁ moved

  pub deleted_start : a < nodes (graph_of xs₁)
  deleted_start = rw graph_is (deletion_passed (graph_of xs) a b ok).0

  facts : LayoutFacts xs₁
  facts = layout-facts xs₁ deleted_layout

  one_more : edge (record { samples = (graph_of xs₁).samples; edges = (graph_of xs).edges }) ≡ joined (edge (graph_of xs₁)) a b
  one_more =
      let passed = deletion_passed (graph_of xs) a b ok in
      rw (graph_is, edge-remove (graph_of xs) a b (lt_of_lt_of_le passed.1 (layout-facts xs h).graph.few)) (joined-parted (edge (graph_of xs)) a b passed.2)

  was-right : marks_of xs ≡ stands (trigger_of xs) (graph_of xs)
      → marks_of xs₁ ≡ stands (trigger_of xs₁) (record { samples = (graph_of xs₁).samples; edges = (graph_of xs).edges })
  was-right right = rw (marks-is, trigger-is, graph_is) right

  pub deleted_same : steady_at xs₁ a ≡ true → Done deletion (trigger_of xs) (graph_of xs) (marks_of xs) (marks_of xs₁) a b 0 xs xs₁
  deleted_same steady =
      let none = none-ceased (trigger_of xs) (edited deletion (graph_of xs) a b) (marks_of xs) in
      done-same deletion xs a b h ok xs₁ moved (λ u v e. e, none)
      (λ right. (
        rw (marks-is, trigger-is, graph_is) at (steady_right xs₁ deleted_layout (graph_of xs).edges a b one_more (was-right right) steady),
        none,
      ))

  -- what refinement leaves lies within the marks
  module _ (ts : List ℕ) (left : Ceased xs₁ a ts) where
    pub ceased-inside : Inside xs₁ ts
    ceased-inside u v e = facts.inside u v (left.within u v e)

    ceased-valid : valid_marks (trigger_of xs) (edited deletion (graph_of xs) a b) (marked ts) ≡ true
    ceased-valid =
        rw (trigger-is, graph_is) at
        (marks-valid (trigger_of xs₁) (graph_of xs₁) (marked ts)
        (λ u v l k e. marks-facts (trigger_of xs₁) (graph_of xs₁) (marks_of xs₁) facts.marks u v l k (left.within u v e)))

    ceased-within : (u v : ℕ) → marked ts u v ≡ true → marks_of xs u v ≡ true
    ceased-within u v e = rw marks-is at (left.within u v e)

    pub deleted_stored : (n : ℕ) (xs₂ : List ℕ) → n ≡ ceased (trigger_of xs₁) (graph_of xs₁) (marks_of xs₁) (marked ts)
        → Left (trigger_of xs₁) (graph_of xs₁) (marked ts) xs₁ xs₂ → Done deletion (trigger_of xs) (graph_of xs) (marks_of xs) (marks_of xs₂) a b n xs xs₂
    deleted_stored n xs₂ counted stored =
        done_stored deletion xs a b h ok xs₁ moved ts ceased-inside xs₂ stored n ceased-valid (ceased-within, count)
        (λ right. (
          rw (trigger-is, graph_is) at (ceased-right xs₁ deleted_layout (graph_of xs).edges a b one_more (was-right right) ts left),
          count,
        ))
      where
        count : n ≡ ceased (trigger_of xs) (edited deletion (graph_of xs) a b) (marks_of xs) (marked ts)
        count = rw (trigger-is, graph_is, marks-is) at counted
