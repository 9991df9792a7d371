-- The system that the loops work on is that of the trigger and the graph, but for admission, which they do not read.
use Prim.Native.Nat.{ℕ, ◌*◌, ◌/◌, ◌<◌}
use native.Mathlib.Omega.{arith}
use mathlib.Core.Path.{◌≡◌, refl, ap, subst}
use mathlib.Core.Bool.{true, false}
use mathlib.Core.List.{List}
use lib.ListN.{get_or}
use Rattle.simulation.specs.Sets.{Set, In, union}
use Rattle.simulation.specs.System.{supported, refined, closure}
use Rattle.simulation.specs.Pattern.{Pattern, paired, system, plain}
use Rattle.simulation.specs.Ordered.{joins}
use Rattle.simulation.proofs.Ordered.{rising_make, elem_at}
use Rattle.bits.specs.Word.{members}
use Rattle.session.specs.Limits.{max_nodes}
use Rattle.session.specs.Trigger.{Trigger, Graph, states, nodes, linked, edge, pattern}
use Rattle.session.specs.Layout.{trigger_of, graph_of, in_layout}
use Rattle.session.proofs.Valid.{TriggerFacts, GraphFacts}
use Rattle.session.proofs.Decoded.{LayoutFacts, layout-facts}
use Rattle.pair_tables.specs.Tables.{marked}
use Rattle.worklist.specs.Waiting.{waits}
use Rattle.refinement.specs.Refining.{Sound, pattern_of, Settled}

module _ (t : Trigger) (g : Graph) (tf : TriggerFacts t) (gf : GraphFacts g) where
  -- what a load or an edit refines is sound
  pub sound : Sound (nodes g) t.links g.edges
  sound = record {
    some_state = rw tf.links tf.some;
    few_states = rw tf.links (omega (arith, tf.few));
    few_nodes = omega (arith, gf.few);
    few_edges = omega (arith, gf.few_edges);
    ascend = rising_make g.edges gf.rising;
    starts = λ k l. gf.starts (get_or g.edges k 0) (elem_at g.edges k l);
    ends = λ k l. gf.ends (get_or g.edges k 0) (elem_at g.edges k l);
  }

  abbrev A : ℕ → Pattern
  A k = plain k (nodes g) (λ u o. members (get_or t.links u 0) o) (λ u v. true) (joins max_nodes g.edges)

  pub same-states : pattern_of (nodes g) t.links g.edges ≡ A (states t)
  same-states = ap A tf.links

  pub supported-pattern : (X : Set) → supported (system (A (states t))) X ≡ supported (system (pattern t g)) X
  unfolding supported linked edge
  supported-pattern X = refl

  refined-pattern : (S T : Set) → refined (system (A (states t))) S T ≡ refined (system (pattern t g)) S T
  unfolding refined supported linked edge
  refined-pattern S T = refl

  pub closure-pattern : (D S : Set) → closure (system (A (states t))) D S ≡ closure (system (pattern t g)) D S
  unfolding closure Rattle.simulation.specs.System.reaches linked edge
  closure-pattern D S = refl

  -- the table that refinement leaves is the refined set of the trigger and the graph
  pub settled_refined : (ss ts ws ts' : List ℕ) → Settled (nodes g) t.links g.edges ss ts ws ts'
      → ((p : ℕ) → p < nodes g * states t → In (paired (pattern t g) (marked ts)) p → waits ws (p / states t) ≡ false
      → In (supported (system (pattern t g)) (union (paired (pattern t g) (marked ss)) (paired (pattern t g) (marked ts)))) p)
      → (p : ℕ) → p < nodes g * states t
      → paired (pattern t g) (marked ts') p ≡ refined (system (pattern t g)) (paired (pattern t g) (marked ss)) (paired (pattern t g) (marked ts)) p
  settled_refined ss ts ws ts' settled idle p l =
      rw (refined-pattern (paired (pattern t g) (marked ss)) (paired (pattern t g) (marked ts))) at
      (subst
      (λ (P : Pattern).
      ((q : ℕ) → q < nodes g * P.states → In (paired P (marked ts)) q → waits ws (q / P.states) ≡ false
      → In (supported (system P) (union (paired P (marked ss)) (paired P (marked ts)))) q)
      → (q : ℕ) → q < nodes g * P.states → paired P (marked ts') q ≡ refined (system P) (paired P (marked ss)) (paired P (marked ts)) q)
      same-states settled.exact
      (λ q k h w. rw (supported-pattern (union (paired (pattern t g) (marked ss)) (paired (pattern t g) (marked ts)))) (idle q k h w))
      p l)

module _ (xs : List ℕ) (h : in_layout xs ≡ true) where
  abbrev facts : LayoutFacts xs
  facts = layout-facts xs h

  -- links and edges that are those held are sound
  pub held_sound : (links edges : List ℕ) → links ≡ (trigger_of xs).links → edges ≡ (graph_of xs).edges → Sound (get_or xs 1 0) links edges
  held_sound links edges links-is edges-is =
      rw (facts.counts.1, links-is, edges-is) (sound (trigger_of xs) (graph_of xs) facts.trigger facts.graph)
