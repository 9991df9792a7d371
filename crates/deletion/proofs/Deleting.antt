-- A deletion: what refinement leaves of the marks, and when it may be left out.
use Prim.Native.Nat.{ℕ, ◌*◌, ◌/◌, ◌%◌, ◌<◌}
use native.Mathlib.Nat.{mod-lt}
use mathlib.Core.Path.{◌≡◌, sym, ◌∙◌, ap, subst}
use mathlib.Core.Logic.{⊎_elim}
use mathlib.Core.Bool.{true, not, ◌||◌}
use mathlib.Core.List.{List}
use lib.Dec.{eqb}
use borrow.Author.Tests.{eqb-true, eqb-false}
use Rattle.simulation.specs.Sets.{Set, In, none, minus}
use Rattle.simulation.specs.System.{refined}
use Rattle.simulation.specs.Pattern.{pair, system}
use Rattle.simulation.proofs.Sets.{split, clash, refuted, implies_take, all_take, and_l, and_r, not-take}
use Rattle.simulation.proofs.System.{swept}
use Rattle.simulation.proofs.Pattern.{pair-whole}
use Rattle.simulation.proofs.Terms.{joined}
use Rattle.simulation.proofs.Loops.{count_none}
use Rattle.session.specs.Trigger.{Trigger, Graph, Marks, states, nodes, edge, pattern}
use Rattle.session.specs.Layout.{trigger_of, graph_of, marks_of, in_layout}
use Rattle.session.proofs.Decoded.{LayoutFacts, layout-facts}
use Rattle.pair_tables.specs.Tables.{marked}
use Rattle.promises.specs.Standing.{stands, pairs_of}
use Rattle.promises.specs.Promises.{ceased}
use Rattle.promises.proofs.Stands.{stands-inside}
use Rattle.promises.proofs.Changed.{deleted_stands, deleted_first}
use Rattle.editing.specs.Steps.{marked_pairs, backed, steady_at, Ceased}
use Rattle.editing.proofs.Pairs.{marks-below, marks-same, holds-marks}

-- none cease where the marks stay
pub none-ceased : (t : Trigger) (g : Graph) (m : Marks) → 0 ≡ ceased t g m m
none-ceased t g m =
    sym (count_none (nodes g * states t) (minus (pairs_of t g m) (pairs_of t g m))
    (λ p l. refuted (minus (pairs_of t g m) (pairs_of t g m) p)
    (λ e. clash (and_l (pairs_of t g m p) (not (pairs_of t g m p)) e) (not-take (pairs_of t g m p) (and_r (pairs_of t g m p) (not (pairs_of t g m p)) e)))))

-- the session xs holds the graph after the deletion of (a, b), and the marks of the graph with the edges es before it
module _ (xs : List ℕ) (h : in_layout xs ≡ true) (es : List ℕ) (a b : ℕ)
    (one_more : edge (record { samples = (graph_of xs).samples; edges = es }) ≡ joined (edge (graph_of xs)) a b)
    (right : marks_of xs ≡ stands (trigger_of xs) (record { samples = (graph_of xs).samples; edges = es })) where
  abbrev t : Trigger
  t = trigger_of xs

  abbrev g : Graph
  g = graph_of xs

  abbrev facts : LayoutFacts xs
  facts = layout-facts xs h

  some : 0 < states (trigger_of xs)
  some = facts.trigger.some

  -- away from the edge's start all keep their support
  away : (p : ℕ) → In (marked_pairs xs) p → (p / states (trigger_of xs) ≡ a → ⊥) → In (backed xs (marked_pairs xs)) p
  away = rw right (deleted_first t some g.samples g.edges es a b one_more)

  refined-marks : refined (system (pattern (trigger_of xs) (graph_of xs))) none (marked_pairs xs) ≡ pairs_of (trigger_of xs) (graph_of xs) (stands (trigger_of xs) (graph_of xs))
  refined-marks = rw right (deleted_stands t some g.samples g.edges es a b one_more)

  pub ceased-right : (ts : List ℕ) → Ceased xs a ts → marked ts ≡ stands (trigger_of xs) (graph_of xs)
  ceased-right ts c = holds-marks xs some _ ts (c.exact away) (stands t g) (stands-inside t g) refined-marks

  -- where the pairs at the edge's start keep it too, nothing ceases
  pub steady_right : steady_at xs a ≡ true → marks_of xs ≡ stands (trigger_of xs) (graph_of xs)
  unfolding steady_at
  steady_right steady =
      marks-same t g some (marks_of xs) (stands t g) facts.inside (stands-inside t g)
      (λ p l. ap (λ (X : Set). X p) (sym (swept (system (pattern t g)) none (marked_pairs xs) (marks-below t g some (marks_of xs) facts.inside) all) ∙ refined-marks))
    where
      here : (p : ℕ) → In (marked_pairs xs) p → p / states t ≡ a → In (backed xs (marked_pairs xs)) p
      here p m e =
          let u = p % states t in
          subst (In (backed xs (marked_pairs xs))) (ap (λ (v : ℕ). pair (pattern t g) u v) (sym e) ∙ pair-whole (pattern t g) p)
          (implies_take (marks_of xs u a) (backed xs (marked_pairs xs) (pair (pattern t g) u a))
          (all_take (states t) (λ u. not (marks_of xs u a) || backed xs (marked_pairs xs) (pair (pattern t g) u a)) steady u (mod-lt p some))
          (subst (λ (v : ℕ). marks_of xs u v ≡ true) e m))

      all : (p : ℕ) → In (marked_pairs xs) p → In (backed xs (marked_pairs xs)) p
      all p m =
          ⊎_elim (λ e. here p m (eqb-true (p / states t) a e)) (λ e. away p m (eqb-false (p / states t) a e)) (split (eqb (p / states t) a))
