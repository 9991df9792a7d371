-- The tests of a valid trigger, graph and marks as facts; links and edges stay inside; one edge more and one less.
use Prim.Native.Nat.{ℕ, ◌/◌, ◌%◌, ◌^◌, ◌<◌, ◌≤◌}
use native.Mathlib.Omega.{arith}
use mathlib.Core.Path.{◌≡◌}
use mathlib.Core.Logic.{⊎_elim, ◌↔◌}
use mathlib.Core.Bool.{true, false, not, ◌&&◌, ◌||◌}
use lib.Arith.{digits_div, digits_mod}
use lib.Dec.{ltb, leb, eqb}
use lib.ListN.{length, get_or}
use lib.Pow.{pow_pos}
use borrow.Author.Tests.{ltb-true, lt-ltb, leb-true, le-leb, eqb-true, eq-eqb}
use Rattle.simulation.specs.Sets.{all_below}
use Rattle.simulation.specs.Ordered.{elem, ascends}
use Rattle.simulation.proofs.Terms.{joined, parted}
use Rattle.simulation.proofs.Sets.{clash, refuted, and_make, and_l, and_r, implies_make, implies_take, all_make, all_take}
use Rattle.simulation.proofs.Ordered.{
  Rising,
  rising-take,
  rising_make,
  elem_at,
  elem_index,
  insert-take,
  remove-take,
  rising-insert,
  rising-remove,
  length-insert,
  length-remove-le,
}
use Rattle.simulation.proofs.Edges.{elem-joins, joins_make, same-joins, joins-insert, joins-remove}
use Rattle.bits.proofs.Words.{members-below}
use Rattle.session.specs.Limits.{max_states, max_nodes, max_edges, word_bits}
use Rattle.session.specs.Trigger.{Trigger, Graph, Marks, states, nodes, linked, edge, edge_number, with_edge, without_edge, admits}
use Rattle.session.specs.Former.{formerly, marks_fit}
use Rattle.session.specs.Layout.{below, valid_trigger, names, valid_graph, valid_marks}
use Rattle.session.proofs.Tables.{below_at}
use Rattle.session.proofs.Admission.{formerly-admits}

-- ---- a valid trigger

pub record TriggerFacts (t : Trigger) : Type 0 where
  pub some : 1 ≤ states t
  pub few : states t ≤ max_states
  pub values : length t.values ≡ states t
  pub links : length t.links ≡ states t
  pub masks_fit : below (2 ^ word_bits) t.masks ≡ true
  pub values_fit : below (2 ^ word_bits) t.values ≡ true
  pub links_fit : below (2 ^ states t) t.links ≡ true
  pub inverted_fit : t.inverted < 2 ^ states t

module _ (t : Trigger) where
  -- the test, and back
  pub trigger-facts : valid_trigger t ≡ true → TriggerFacts t
  unfolding valid_trigger
  trigger-facts h =
      let a1 = leb 1 (states t) in
      let a2 = leb (states t) max_states in
      let b1 = eqb (length t.values) (states t) in
      let b2 = eqb (length t.links) (states t) in
      let c1 = below (2 ^ word_bits) t.masks in
      let c2 = below (2 ^ word_bits) t.values in
      let c3 = below (2 ^ states t) t.links in
      let c4 = ltb t.inverted (2 ^ states t) in
      let b = b1 && b2 in
      let c = (c1 && c2) && (c3 && c4) in
      let ha = and_l (a1 && a2) (b && c) h in
      let hbc = and_r (a1 && a2) (b && c) h in
      let hb = and_l b c hbc in
      let hc = and_r b c hbc in
      let hcc = and_l (c1 && c2) (c3 && c4) hc in
      let hcd = and_r (c1 && c2) (c3 && c4) hc in
      record {
        some = leb-true 1 (states t) (and_l a1 a2 ha);
        few = leb-true (states t) max_states (and_r a1 a2 ha);
        values = eqb-true (length t.values) (states t) (and_l b1 b2 hb);
        links = eqb-true (length t.links) (states t) (and_r b1 b2 hb);
        masks_fit = and_l c1 c2 hcc;
        values_fit = and_r c1 c2 hcc;
        links_fit = and_l c3 c4 hcd;
        inverted_fit = ltb-true t.inverted (2 ^ states t) (and_r c3 c4 hcd);
      }

  pub trigger-valid : TriggerFacts t → valid_trigger t ≡ true
  unfolding valid_trigger
  trigger-valid f =
      and_make (and_make (le-leb 1 (states t) f.some) (le-leb (states t) max_states f.few))
      (and_make
      (and_make (eq-eqb (length t.values) (states t) f.values) (eq-eqb (length t.links) (states t) f.links))
      (and_make (and_make f.masks_fit f.values_fit)
      (and_make f.links_fit (lt-ltb t.inverted (2 ^ states t) f.inverted_fit))))

  -- a link leads to a state of the trigger
  pub linked-inside : TriggerFacts t → (u u' : ℕ) → linked t u u' ≡ true → u' < states t
  unfolding linked
  linked-inside f u u' h =
      members-below (states t) (get_or t.links u 0) (below_at (2 ^ states t) t.links f.links_fit (pow_pos (states t)) u) u' h

-- ---- a valid graph

pub record GraphFacts (g : Graph) : Type 0 where
  pub few : nodes g ≤ max_nodes
  pub samples_fit : below (2 ^ word_bits) g.samples ≡ true
  pub few_edges : length g.edges ≤ max_edges
  pub starts : (e : ℕ) → elem e g.edges ≡ true → e / max_nodes < nodes g
  pub ends : (e : ℕ) → elem e g.edges ≡ true → e % max_nodes < nodes g
  pub rising : Rising g.edges

module _ (g : Graph) where
  -- the number of an edge names two nodes
  names-take : (e : ℕ) → names g e ≡ true → (e / max_nodes < nodes g) × (e % max_nodes < nodes g)
  unfolding names
  names-take e h =
      let a = ltb (e / max_nodes) (nodes g) in
      let b = ltb (e % max_nodes) (nodes g) in
      (ltb-true (e / max_nodes) (nodes g) (and_l a b h), ltb-true (e % max_nodes) (nodes g) (and_r a b h))

  names_make : (e : ℕ) → e / max_nodes < nodes g → e % max_nodes < nodes g → names g e ≡ true
  unfolding names
  names_make e h k = and_make (lt-ltb (e / max_nodes) (nodes g) h) (lt-ltb (e % max_nodes) (nodes g) k)

  -- the test, and back
  pub graph-facts : valid_graph g ≡ true → GraphFacts g
  unfolding valid_graph
  graph-facts h =
      let a1 = leb (nodes g) max_nodes in
      let a2 = below (2 ^ word_bits) g.samples in
      let b = leb (length g.edges) max_edges in
      let c = all_below (length g.edges) (λ k. names g (get_or g.edges k 0)) in
      let d = ascends g.edges in
      let ha = and_l (a1 && a2) (b && (c && d)) h in
      let hbcd = and_r (a1 && a2) (b && (c && d)) h in
      let hcd = and_r b (c && d) hbcd in
      let named : (e : ℕ) → elem e g.edges ≡ true → (e / max_nodes < nodes g) × (e % max_nodes < nodes g) = (λ e m.
      let r = elem_index e g.edges m in
      names-take e
      (rw r.2 at (all_take (length g.edges) (λ k. names g (get_or g.edges k 0)) (and_l c d hcd) r.0 r.1))) in
      record {
        few = leb-true (nodes g) max_nodes (and_l a1 a2 ha);
        samples_fit = and_r a1 a2 ha;
        few_edges = leb-true (length g.edges) max_edges (and_l b (c && d) hbcd);
        starts = λ e m. (named e m).0;
        ends = λ e m. (named e m).1;
        rising = rising-take g.edges (and_r c d hcd);
      }

  pub graph-valid : GraphFacts g → valid_graph g ≡ true
  unfolding valid_graph
  graph-valid f =
      and_make (and_make (le-leb (nodes g) max_nodes f.few) f.samples_fit)
      (and_make (le-leb (length g.edges) max_edges f.few_edges)
      (and_make
      (all_make (length g.edges) (λ k. names g (get_or g.edges k 0))
      (λ k l.
      let m = elem_at g.edges k l in
      names_make (get_or g.edges k 0) (f.starts (get_or g.edges k 0) m) (f.ends (get_or g.edges k 0) m)))
      (rising_make g.edges f.rising)))

  -- an edge joins two nodes of the graph
  pub edge-inside : GraphFacts g → (v w : ℕ) → edge g v w ≡ true → (v < nodes g) × (w < nodes g)
  unfolding edge
  edge-inside f v w h =
      let r = elem-joins max_nodes g.edges v w h in
      let a : edge_number v w / max_nodes < nodes g = f.starts (edge_number v w) r.1 in
      let b : edge_number v w % max_nodes < nodes g = f.ends (edge_number v w) r.1 in
      (rw (digits_div v r.0) at a, rw (digits_mod v r.0) at b)

-- a valid graph is told by its samples and the set of its edges
pub same_graph : (g g' : Graph) → GraphFacts g → GraphFacts g' → g.samples ≡ g'.samples
    → ((v w : ℕ) → (edge g v w ≡ true) ↔ (edge g' v w ≡ true)) → g ≡ g'
unfolding edge
same_graph g g' f f' s h =
    λ i. record { samples = s i; edges = same-joins max_nodes (omega arith) g.edges g'.edges f.rising f'.rising h i }

-- ---- one edge more, one edge less

module _ (g : Graph) (a b : ℕ) where
  -- the edges then: just this one more, just this one less
  pub edge-insert : b < max_nodes → edge (with_edge g a b) ≡ joined (edge g) a b
  unfolding edge
  edge-insert l = joins-insert max_nodes g.edges a b l

  pub edge-remove : b < max_nodes → edge (without_edge g a b) ≡ parted (edge g) a b
  unfolding edge
  edge-remove l = joins-remove max_nodes g.edges a b l

  -- the graph stays valid, where the edge is new and there is room; with one less always
  pub graph-insert : GraphFacts g → a < nodes g → b < nodes g → edge g a b ≡ false → length g.edges < max_edges
      → GraphFacts (with_edge g a b)
  unfolding edge
  graph-insert f la lb new room =
      let width : b < max_nodes = omega (arith, f.few) in
      record {
        few = f.few;
        samples_fit = f.samples_fit;
        few_edges = rw length-insert room;
        starts = λ e m.
            ⊎_elim (f.starts e) (λ (q : e ≡ edge_number a b). rw (q, digits_div a width) la) (insert-take (edge_number a b) e g.edges m);
        ends = λ e m.
            ⊎_elim (f.ends e) (λ (q : e ≡ edge_number a b). rw (q, digits_mod a width) lb) (insert-take (edge_number a b) e g.edges m);
        rising = rising-insert (edge_number a b) g.edges f.rising
            (refuted (elem (edge_number a b) g.edges) (λ m. clash (joins_make max_nodes g.edges a b width m) new));
      }

  pub graph-remove : GraphFacts g → GraphFacts (without_edge g a b)
  graph-remove f = record {
    few = f.few;
    samples_fit = f.samples_fit;
    few_edges = omega (arith, f.few_edges, length-remove-le (edge_number a b) g.edges);
    starts = λ e m. f.starts e (remove-take (edge_number a b) e g.edges m).0;
    ends = λ e m. f.ends e (remove-take (edge_number a b) e g.edges m).0;
    rising = rising-remove (edge_number a b) g.edges f.rising;
  }

-- ---- valid marks

module _ (t : Trigger) (g : Graph) (m : Marks) where
  -- each mark is at an admitted pair, by any admission
  fit-facts : (a : Marks) → marks_fit a t g m ≡ true → (u v : ℕ) → u < states t → v < nodes g → m u v ≡ true → a u v ≡ true
  fit-facts a h u v l k e =
      let row = all_take (nodes g) (λ v. all_below (states t) (λ u. not (m u v) || a u v)) h v k in
      implies_take (m u v) (a u v) (all_take (states t) (λ u. not (m u v) || a u v) row u l) e

  -- by the present one, and back
  pub marks-facts : valid_marks t g m ≡ true → (u v : ℕ) → u < states t → v < nodes g → m u v ≡ true → admits t g u v ≡ true
  unfolding valid_marks
  marks-facts = fit-facts (admits t g)

  pub marks-valid : ((u v : ℕ) → u < states t → v < nodes g → m u v ≡ true → admits t g u v ≡ true) → valid_marks t g m ≡ true
  unfolding valid_marks
  marks-valid h =
      all_make (nodes g) (λ v. all_below (states t) (λ u. not (m u v) || admits t g u v))
      (λ v k.
      all_make (states t) (λ u. not (m u v) || admits t g u v) (λ u l. implies_make (m u v) (admits t g u v) (h u v l k)))

  -- marks that were valid before 02, Job 9, still are: no session leaves the layout
  pub former_fits : marks_fit (formerly t g) t g m ≡ true → valid_marks t g m ≡ true
  former_fits h = marks-valid (λ u v l k e. formerly-admits t g u v (fit-facts (formerly t g) h u v l k e))
