-- Refinement on a session, from one node, and of the trials beside the marks.
use Prim.Native.Nat.{ℕ, ◌/◌, ◌%◌}
use mathlib.Core.Path.{◌≡◌, ◌∙◌, ap, subst}
use mathlib.Core.Bool.{true, false}
use mathlib.Core.List.{List}
use lib.ListN.{length, get_or, take, drop}
use borrow.Author.Tests.{eq-eqb}
use Rattle.simulation.specs.Sets.{Set, In, union, also}
use Rattle.simulation.specs.System.{refined}
use Rattle.simulation.specs.Pattern.{system}
use Rattle.simulation.proofs.Sets.{clash, or_r}
use Rattle.bits.specs.Word.{members}
use Rattle.bits.proofs.Words.{zero-members}
use Rattle.session.specs.Limits.{marks_at, max_nodes}
use Rattle.session.specs.Trigger.{Trigger, Graph, Marks, states, nodes, pattern}
use Rattle.session.specs.Layout.{trigger_of, graph_of, in_layout}
use Rattle.session.proofs.Decoded.{LayoutFacts, layout-facts}
use Rattle.pair_tables.specs.Tables.{marked}
use Rattle.promises.specs.Standing.{pairs_of}
use Rattle.worklist.specs.Waiting.{waits}
use Rattle.refinement.specs.Refining.{Settled}
use Rattle.session_parts.specs.Inside.{Inside}
use Rattle.refinement.proofs.Systems.{settled_refined}
use Rattle.session_parts.proofs.Parts.{held-marks}
use Rattle.editing.specs.Steps.{Holds, marked_pairs, backed, RefinedAt}

-- a node that was put in waits
pub start-waits : (ws ws' : List ℕ) (a : ℕ) → waits ws' ≡ also (waits ws) a → (v : ℕ) → waits ws' v ≡ false → v ≡ a → ⊥
start-waits ws ws' a e v idle is =
    clash (ap (λ (X : Set). X v) e ∙ or_r (waits ws v) (eq-eqb v a is)) idle

module _ (xs : List ℕ) (h : in_layout xs ≡ true) (links edges : List ℕ) (links-is : links ≡ (trigger_of xs).links) (edges-is : edges ≡ (graph_of xs).edges)
    (ss ts ws ts' : List ℕ) (settled : Settled (get_or xs 1 0) links edges ss ts ws ts') (long : length ts ≡ max_nodes) (inside : Inside xs ts) where
  abbrev t : Trigger
  t = trigger_of xs

  abbrev g : Graph
  g = graph_of xs

  abbrev facts : LayoutFacts xs
  facts = layout-facts xs h

  here : Settled (nodes (graph_of xs)) (trigger_of xs).links (graph_of xs).edges ss ts ws ts'
  here = rw (facts.counts.1, links-is, edges-is) at settled

  -- all that is tentative, refined beside what is settled, where what does not wait is supported
  left : ((p : ℕ) → In (pairs_of (trigger_of xs) (graph_of xs) (marked ts)) p → waits ws (p / states (trigger_of xs)) ≡ false
      → In (backed xs (union (pairs_of (trigger_of xs) (graph_of xs) (marked ss)) (pairs_of (trigger_of xs) (graph_of xs) (marked ts)))) p)
      → Holds xs (refined (system (pattern (trigger_of xs) (graph_of xs))) (pairs_of (trigger_of xs) (graph_of xs) (marked ss)) (pairs_of (trigger_of xs) (graph_of xs) (marked ts))) ts'
  left idle = record {
    long = here.long ∙ long;
    inside = λ u v e. inside u v (here.within u v e);
    pairs = settled_refined t g facts.trigger facts.graph ss ts ws ts' here (λ p l. idle p);
  }

  -- one node waits
  pub refined-at : (a : ℕ) → ((v : ℕ) → waits ws v ≡ false → v ≡ a → ⊥) → RefinedAt xs a (marked ss) (marked ts) ts'
  refined-at a starts = record {
    long = here.long ∙ long;
    within = here.within;
    exact = λ away. left (λ p m idle. away p m (starts (p / states t) idle));
  }

  -- the marks are settled, each node with a trial waits
  pub trials-refined : ss ≡ take max_nodes (drop marks_at xs) → ((v : ℕ) → (get_or ts v 0 ≡ 0 → ⊥) → waits ws v ≡ true)
      → Holds xs (refined (system (pattern (trigger_of xs) (graph_of xs))) (marked_pairs xs) (pairs_of (trigger_of xs) (graph_of xs) (marked ts))) ts'
  trials-refined full all =
      subst (λ (s : Marks). Holds xs (refined (system (pattern t g)) (pairs_of t g s) (pairs_of t g (marked ts))) ts') (ap marked full ∙ held-marks xs h)
      (left (λ p m idle. clash (all (p / states t) (λ z. clash m (ap (λ (w : ℕ). members w (p % states t)) z ∙ zero-members (p % states t)))) idle))
