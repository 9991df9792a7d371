-- One look at a node: no link of its marks is unmet just where each mark keeps its support.
use Prim.Native.Nat.{ℕ, ◌<◌, ◌≤◌}
use native.Mathlib.Omega.{arith}
use mathlib.Core.Path.{◌≡◌, sym, ◌∙◌, ap, ap₂, fun_ext, subst}
use mathlib.Core.Bool.{Bool, true, not, ◌&&◌, ◌||◌, or_self}
use mathlib.Core.List.{List}
use lib.Dec.{ltb, eqb}
use lib.ListN.{length, get_or, take, drop}
use Rattle.simulation.specs.Sets.{Set, union, all_below}
use Rattle.simulation.specs.System.{supported}
use Rattle.simulation.specs.Pattern.{Pattern, pair, paired, system}
use Rattle.simulation.proofs.Sets.{clash, refuted, and_l, any_take}
use Rattle.simulation.proofs.Edges.{all_same}
use Rattle.bits.specs.Word.{members, set_bits}
use Rattle.bits.proofs.Words.{zero-members}
use Rattle.session.specs.Limits.{marks_at, max_nodes}
use Rattle.session.specs.Trigger.{Trigger, Graph, Marks, nodes, pattern}
use Rattle.session.specs.Layout.{trigger_of, graph_of, marks_of, in_layout}
use Rattle.session.proofs.Decoded.{LayoutFacts, layout-facts}
use Rattle.pair_tables.specs.Tables.{marked}
use Rattle.links.specs.Links.{linked_from}
use Rattle.refinement.specs.Refining.{carried, whole, unmet_of}
use Rattle.edge_indexes.specs.Indexes.{edges_from}
use Rattle.refinement.proofs.Support.{whole-met}
use Rattle.refinement.proofs.Settling.{whole-supported}
use Rattle.refinement.proofs.Systems.{sound, same-states, supported-pattern}
use Rattle.session_parts.proofs.Parts.{held-marks}
use Rattle.editing.specs.Steps.{marked_pairs, backed, steady_at}

module _ (xs : List ℕ) (h : in_layout xs ≡ true) (ms : List ℕ) (full : ms ≡ take max_nodes (drop marks_at xs)) (a : ℕ) where
  abbrev t : Trigger
  t = trigger_of xs

  abbrev g : Graph
  g = graph_of xs

  abbrev facts : LayoutFacts xs
  facts = layout-facts xs h

  all-marked : marked ms ≡ marks_of xs
  all-marked = ap marked full ∙ held-marks xs h

  -- the pair of a state at the node is supported by the marks
  stays : (u : ℕ) → u < length (trigger_of xs).links
      → whole (length (trigger_of xs).links) (get_or (trigger_of xs).links u 0) (edges_from (graph_of xs).edges a) ms ms
      ≡ backed xs (marked_pairs xs) (pair (pattern (trigger_of xs) (graph_of xs)) u a)
  stays u l =
      subst
      (λ (P : Pattern).
      whole (length t.links) (get_or t.links u 0) (edges_from g.edges a) ms ms
      ≡ supported (system P) (union (paired P (marked ms)) (paired P (marked ms))) (pair P u a))
      (same-states t g facts.trigger facts.graph)
      (whole-supported (nodes g) t.links g.edges (sound t g facts.trigger facts.graph) ms ms u a l)
      ∙ ap (λ (X : Set). X (pair (pattern t g) u a))
      (supported-pattern t g facts.trigger facts.graph (union (paired (pattern t g) (marked ms)) (paired (pattern t g) (marked ms))))
      ∙ ap (λ (X : Set). backed xs X (pair (pattern t g) u a)) (fun_ext (λ p. or_self (paired (pattern t g) (marked ms) p)))
      ∙ ap (λ (m : Marks). backed xs (paired (pattern t g) m) (pair (pattern t g) u a)) all-marked

  pub steady_is : (links edges : List ℕ) (lacking : ℕ) → links ≡ (trigger_of xs).links → edges ≡ (graph_of xs).edges
      → members lacking ≡ unmet_of (get_or ms a 0) links (edges_from edges a) ms ms → eqb lacking 0 ≡ steady_at xs a
  unfolding steady_at
  steady_is links edges lacking links-is edges-is unmet =
      let few : length t.links ≤ set_bits = omega (arith, facts.trigger.links, facts.trigger.few) in
      whole-met (get_or ms a 0) t.links (edges_from g.edges a) ms ms lacking (rw (links-is, edges-is) at unmet) few
      ∙ all_same (length t.links)
      (λ u. not (members (get_or ms a 0) u) || whole (length t.links) (get_or t.links u 0) (edges_from g.edges a) ms ms)
      (λ u. not (marks_of xs u a) || backed xs (marked_pairs xs) (pair (pattern t g) u a))
      (λ u l. ap₂ (λ (x y : Bool). not x || y) (ap (λ (m : Marks). m u a) all-marked) (stays u l))
      ∙ ap (λ (k : ℕ). all_below k (λ u. not (marks_of xs u a) || backed xs (marked_pairs xs) (pair (pattern t g) u a))) facts.trigger.links

-- a word without a member has no link that is not met
pub unmet_none : (links es ss ts : List ℕ) → members 0 ≡ unmet_of 0 links es ss ts
unmet_none links es ss ts =
    fun_ext
    (λ o.
    let links-to : Set = λ u. members 0 u && members (get_or links u 0) o in
    zero-members o
    ∙ sym
    (refuted (unmet_of 0 links es ss ts o)
    (λ h.
    let inside = and_l (linked_from links 0 o && ltb o (length links)) (not (carried es ss ts o)) h in
    let w = any_take (length links) links-to (and_l (linked_from links 0 o) (ltb o (length links)) inside) in
    clash (and_l (members 0 w.0) (members (get_or links w.0 0) o) w.2) (zero-members w.0))))
