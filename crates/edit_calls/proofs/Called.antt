-- A call that breaks no rule, from its edit proper and its report.
use Prim.Native.Nat.{ℕ}
use native.Mathlib.Omega.{arith}
use mathlib.Core.Path.{◌≡◌, ◌∙◌, ap}
use mathlib.Core.Bool.{true}
use mathlib.Core.List.{List}
use lib.IntN.{ℤ}
use lib.ListN.{get_or, drop}
use Rattle.session.specs.Limits.{fixed_size}
use Rattle.session.specs.Trigger.{Trigger, Graph, Marks, states, nodes}
use Rattle.session.specs.Layout.{trigger_of, graph_of, marks_of, in_layout}
use Rattle.session.proofs.Image.{states-word, nodes-word}
use Rattle.session.proofs.Decoded.{Inside, marks-take}
use Rattle.listing.specs.Changes.{changes}
use Rattle.promises.specs.Answers.{Answer}
use Rattle.promises.specs.Rules.{Kind, edited, graph_rules, verdict}
use Rattle.promises.specs.Promises.{Reported, Done, Carried}
use Rattle.editing.proofs.Moved.{left-trigger, left-graph, left-layout}

module _ (k : Kind) (xs : List ℕ) (a b : ℕ) (h : in_layout xs ≡ true) (ok : verdict (graph_rules k (graph_of xs) a b) ≡ 0) (n : ℕ) (xs' : List ℕ)
    (done : Done k (trigger_of xs) (graph_of xs) (marks_of xs) (marks_of xs') a b n xs xs') where
  abbrev t : Trigger
  t = trigger_of xs

  abbrev g' : Graph
  g' = edited k (graph_of xs) a b

  -- the marks that it leaves are at states and nodes of what it leaves
  inside : Inside (trigger_of xs) (edited k (graph_of xs) a b) (marks_of xs')
  inside u v e =
      let w = marks-take xs' u v e in
      let rest = drop fixed_size xs in
      let few : get_or xs' 0 0 ≡ states t = ap (λ (ys : List ℕ). get_or ys 0 0) done.session ∙ states-word t g' (marks_of xs') rest in
      let many : get_or xs' 1 0 ≡ nodes g' = ap (λ (ys : List ℕ). get_or ys 1 0) done.session ∙ nodes-word t g' (marks_of xs') rest in
      (omega (arith, w.0), omega (arith, w.1))

  pub called-layout : in_layout xs' ≡ true
  called-layout = left-layout k xs a b h ok (marks_of xs') inside xs' done.session done.admitted

  pub called-carried : (m : Marks) → m ≡ marks_of xs → (c : List ℤ) (r : Answer) (c' : List ℤ)
      → Reported (trigger_of xs') (graph_of xs') (marks_of xs') n (changes (trigger_of xs') (graph_of xs') m (marks_of xs')) c r c'
      → Carried k (trigger_of xs) (graph_of xs) (marks_of xs) (marks_of xs') a b xs c r xs' c'
  called-carried m is c r c' told = record {
    trials = n;
    edit = done;
    report = rw (
      left-trigger k xs a b h ok (marks_of xs') inside xs' done.session,
      left-graph k xs a b h ok (marks_of xs') inside xs' done.session,
      is,
    ) at told;
  }
