-- What is decoded from an image is what it holds, and a memory in layout is the image of what is decoded from it.
use Prim.Native.Nat.{ℕ, ◌+◌, ◌<◌, ◌≤◌}
use native.Mathlib.Omega.{arith}
use mathlib.Core.Path.{◌≡◌, sym, ap, fun_ext, ◌∙◌}
use mathlib.Core.Logic.{◌↔◌}
use mathlib.Core.Bool.{true, ◌&&◌}
use mathlib.Core.List.{List, [], ◌++◌}
use lib.Dec.{ltb, leb, eqb}
use lib.ListN.{length, get_or, take, drop, length-append, length-drop, take-append-drop}
use lib.Seq.{length-take-le, get_or-take, get_or-drop, ext_get_or}
use borrow.Author.Tests.{ltb-true, lt-ltb, leb-true, le-leb, eqb-true, eq-eqb}
use Rattle.simulation.specs.Sets.{Set, all_below}
use Rattle.simulation.proofs.Sets.{same, and_make, and_l, and_r, all_make, all_take}
use Rattle.bits.specs.Word.{members}
use Rattle.bits.proofs.Words.{word-members}
use Rattle.session.specs.Limits.{max_states, max_nodes, max_edges, masks_at, values_at, links_at, samples_at, edges_at, marks_for, marks_at, fixed_size}
use Rattle.session.specs.Trigger.{Trigger, Graph, Marks, states, nodes}
use Rattle.session.specs.Layout.{
  mark_word,
  image_for,
  image,
  trigger_of,
  graph_of,
  marks_in,
  marks_of,
  valid_trigger,
  valid_graph,
  valid_marks,
  in_layout,
}
use Rattle.session.proofs.Valid.{TriggerFacts, trigger-facts, trigger-valid, GraphFacts, graph-facts, graph-valid}
use Rattle.session.proofs.Image.{
  states_for,
  nodes_for,
  mark_for,
  length-image,
  front-image,
  states-word,
  nodes-word,
  edges_word,
  inverted-word,
  mask_word,
  value_word,
  link-word,
  sample_word,
  edge-word,
}

-- marks at states and nodes alone
abbrev pub Inside : Trigger → Graph → Marks → Type 0
Inside t g m = (u v : ℕ) → m u v ≡ true → (u < states t) × (v < nodes g)

-- what a mark read from a memory tells
read_take : (k : ℕ) (xs : List ℕ) (u v : ℕ) → marks_in k xs u v ≡ true
    → (u < get_or xs 0 0) × (v < get_or xs 1 0) × (members (get_or xs (marks_for k + v) 0) u ≡ true)
unfolding marks_in
read_take k xs u v h =
    let a = ltb u (get_or xs 0 0) in
    let b = ltb v (get_or xs 1 0) in
    let c = members (get_or xs (marks_for k + v) 0) u in
    let d = and_r a (b && c) h in
    (ltb-true u (get_or xs 0 0) (and_l a (b && c) h), ltb-true v (get_or xs 1 0) (and_l b c d), and_r b c d)

pub marks-take : (xs : List ℕ) (u v : ℕ) → marks_of xs u v ≡ true
    → (u < get_or xs 0 0) × (v < get_or xs 1 0) × (members (get_or xs (marks_at + v) 0) u ≡ true)
marks-take = read_take max_states

-- ---- the parts of an image

-- the n entries from p on, where they are those of ys
part-is : (zs ys : List ℕ) (p n : ℕ) → n ≡ length ys → p + length ys ≤ length zs
    → ((i : ℕ) → i < length ys → get_or zs (p + i) 0 ≡ get_or ys i 0)
    → take n (drop p zs) ≡ ys
part-is zs ys p n e h read =
    ext_get_or 0 (take n (drop p zs)) ys (long ∙ e)
    (λ i l.
    let k : i < n = omega (arith, long) in
    get_or-take n (drop p zs) i 0 k ∙ get_or-drop p zs i 0 ∙ read i (omega arith))
  where
    long : length (take n (drop p zs)) ≡ n
    long = length-take-le n (drop p zs) (omega (arith, length-drop p zs))

-- the marks are read back whatever number of places the states have
module _ (k : ℕ) (t : Trigger) (g : Graph) (m : Marks) (rest : List ℕ) where
  abbrev kept : List ℕ
  kept = image_for k t g m ++ rest

  -- the mark of a state at a node, read from the node's word
  mark_read : nodes g ≤ max_nodes → (u v : ℕ) → u < states t → v < nodes g → members (get_or kept (marks_for k + v) 0) u ≡ m u v
  unfolding mark_word
  mark_read few u v l b =
      ap (λ (w : ℕ). members w u) (mark_for k t g m rest v (omega arith))
      ∙ word-members (states t) (λ u. ltb v (nodes g) && m u v) u
      ∙ rw (lt-ltb u (states t) l, lt-ltb v (nodes g) b)

  pub marks_for_lem : nodes g ≤ max_nodes → Inside t g m → marks_in k (image_for k t g m ++ rest) ≡ m
  unfolding marks_in
  marks_for_lem few inside = fun_ext (λ u. fun_ext (λ v. same (marks_in k kept u v) (m u v) (there u v) (back u v)))
    where
      there : (u v : ℕ) → marks_in k kept u v ≡ true → m u v ≡ true
      there u v h =
          let r = read_take k kept u v h in
          let l : u < states t = rw (states_for k t g m rest) at r.0 in
          let b : v < nodes g = rw (nodes_for k t g m rest) at r.1 in
          sym (mark_read few u v l b) ∙ r.2

      back : (u v : ℕ) → m u v ≡ true → marks_in k kept u v ≡ true
      back u v h =
          let r = inside u v h in
          and_make (lt-ltb u (get_or kept 0 0) (rw (states_for k t g m rest) r.0))
          (and_make (lt-ltb v (get_or kept 1 0) (rw (nodes_for k t g m rest) r.1)) (mark_read few u v r.0 r.1 ∙ h))

module _ (t : Trigger) (g : Graph) (m : Marks) (rest : List ℕ) where
  long : fixed_size ≤ length (image t g m ++ rest)
  long = omega (arith, length-append (image t g m) rest, length-image t g m)

  -- each part is read back
  pub trigger-image : TriggerFacts t → trigger_of (image t g m ++ rest) ≡ t
  unfolding trigger_of
  trigger-image f = λ i. record { masks = masks i; values = values i; links = links i; inverted = inverted-word t g m rest i }
    where
      all : List ℕ
      all = image t g m ++ rest

      masks : take (get_or all 0 0) (drop masks_at all) ≡ t.masks
      masks =
          part-is all t.masks masks_at (get_or all 0 0) (states-word t g m rest) (omega (arith, long, f.few))
          (λ i l. mask_word t g m rest i (omega (arith, f.few)))

      values : take (get_or all 0 0) (drop values_at all) ≡ t.values
      values =
          part-is all t.values values_at (get_or all 0 0) (states-word t g m rest ∙ sym f.values)
          (omega (arith, long, f.few, f.values))
          (λ i l. value_word t g m rest i (omega (arith, f.few, f.values)))

      links : take (get_or all 0 0) (drop links_at all) ≡ t.links
      links =
          part-is all t.links links_at (get_or all 0 0) (states-word t g m rest ∙ sym f.links)
          (omega (arith, long, f.few, f.links))
          (λ i l. link-word t g m rest i (omega (arith, f.few, f.links)))

  pub graph-image : GraphFacts g → graph_of (image t g m ++ rest) ≡ g
  unfolding graph_of
  graph-image f = λ i. record { samples = samples i; edges = edges i }
    where
      all : List ℕ
      all = image t g m ++ rest

      samples : take (get_or all 1 0) (drop samples_at all) ≡ g.samples
      samples =
          part-is all g.samples samples_at (get_or all 1 0) (nodes-word t g m rest) (omega (arith, long, f.few))
          (λ i l. sample_word t g m rest i (omega (arith, f.few)))

      edges : take (get_or all 2 0) (drop edges_at all) ≡ g.edges
      edges =
          part-is all g.edges edges_at (get_or all 2 0) (edges_word t g m rest) (omega (arith, long, f.few_edges))
          (λ i l. edge-word t g m rest i (omega (arith, f.few_edges)))

  pub marks-image : nodes g ≤ max_nodes → Inside t g m → marks_of (image t g m ++ rest) ≡ m
  marks-image = marks_for_lem max_states t g m rest

  -- a valid image is in layout, whatever follows it
  pub layout-image : TriggerFacts t → GraphFacts g → valid_marks t g m ≡ true → Inside t g m → in_layout (image t g m ++ rest) ≡ true
  unfolding in_layout
  layout-image f k v inside =
      rw (trigger-image f, graph-image k, marks-image k.few inside)
      (and_make (le-leb fixed_size (length (image t g m ++ rest)) long)
      (and_make (and_make (trigger-valid t f) (and_make (graph-valid g k) v))
      (all_make fixed_size (λ i. eqb (get_or (image t g m ++ rest) i 0) (get_or (image t g m) i 0))
      (λ i l. eq-eqb (get_or (image t g m ++ rest) i 0) (get_or (image t g m) i 0) (front-image t g m rest i l)))))

-- ---- a memory in layout

pub record LayoutFacts (xs : List ℕ) : Type 0 where
  pub long : fixed_size ≤ length xs
  pub trigger : TriggerFacts (trigger_of xs)
  pub graph : GraphFacts (graph_of xs)
  pub marks : valid_marks (trigger_of xs) (graph_of xs) (marks_of xs) ≡ true
  pub inside : Inside (trigger_of xs) (graph_of xs) (marks_of xs)
  pub counts : (get_or xs 0 0 ≡ states (trigger_of xs)) × (get_or xs 1 0 ≡ nodes (graph_of xs)) × (get_or xs 2 0 ≡ length (graph_of xs).edges)

module _ (xs : List ℕ) where
  abbrev held : List ℕ
  held = image (trigger_of xs) (graph_of xs) (marks_of xs)

  -- what the test says
  record Tested : Type 0 where
    long : fixed_size ≤ length xs
    trigger : valid_trigger (trigger_of xs) ≡ true
    graph : valid_graph (graph_of xs) ≡ true
    marks : valid_marks (trigger_of xs) (graph_of xs) (marks_of xs) ≡ true
    words : (i : ℕ) → i < fixed_size → get_or xs i 0 ≡ get_or held i 0

  tested : in_layout xs ≡ true → Tested
  unfolding in_layout
  tested h =
      let equal : Set = λ i. eqb (get_or xs i 0) (get_or held i 0) in
      let a = leb fixed_size (length xs) in
      let b1 = valid_trigger (trigger_of xs) in
      let b2 = valid_graph (graph_of xs) in
      let b3 = valid_marks (trigger_of xs) (graph_of xs) (marks_of xs) in
      let b = b1 && (b2 && b3) in
      let c = all_below fixed_size equal in
      let hbc = and_r a (b && c) h in
      let hb = and_l b c hbc in
      let hb' = and_r b1 (b2 && b3) hb in
      record {
        long = leb-true fixed_size (length xs) (and_l a (b && c) h);
        trigger = and_l b1 (b2 && b3) hb;
        graph = and_l b2 b3 hb';
        marks = and_r b2 b3 hb';
        words = λ i l. eqb-true (get_or xs i 0) (get_or held i 0) (all_take fixed_size equal (and_r b c hbc) i l);
      }

  -- it is the image of what it holds, and a rest
  pub layout-whole : in_layout xs ≡ true → xs ≡ image (trigger_of xs) (graph_of xs) (marks_of xs) ++ drop fixed_size xs
  layout-whole h = sym (take-append-drop fixed_size xs) ∙ ap (λ (r : List ℕ). r ++ drop fixed_size xs) front
    where
      f : Tested
      f = tested h

      size : length (take fixed_size xs) ≡ fixed_size
      size = length-take-le fixed_size xs f.long

      front : take fixed_size xs ≡ held
      front =
          ext_get_or 0 (take fixed_size xs) held (size ∙ sym (length-image (trigger_of xs) (graph_of xs) (marks_of xs)))
          (λ i l.
          let k : i < fixed_size = omega (arith, size) in
          get_or-take fixed_size xs i 0 k ∙ f.words i k)

  pub layout-facts : in_layout xs ≡ true → LayoutFacts xs
  layout-facts h =
      let f = tested h in
      let t = trigger_of xs in
      let g = graph_of xs in
      let m = marks_of xs in
      let word : (i : ℕ) → i < fixed_size → get_or xs i 0 ≡ get_or (held ++ []) i 0 = (λ i l. f.words i l ∙ sym (front-image t g m [] i l)) in
      let n0 : get_or xs 0 0 ≡ states t = word 0 (omega arith) ∙ states-word t g m [] in
      let n1 : get_or xs 1 0 ≡ nodes g = word 1 (omega arith) ∙ nodes-word t g m [] in
      let n2 : get_or xs 2 0 ≡ length g.edges = word 2 (omega arith) ∙ edges_word t g m [] in
      record {
        long = f.long;
        trigger = trigger-facts t f.trigger;
        graph = graph-facts g f.graph;
        marks = f.marks;
        inside = λ u v e. let r = marks-take xs u v e in (omega arith, omega arith);
        counts = (n0, n1, n2);
      }

-- ---- two valid images are equal exactly where their parts are

pub same-image : (t t' : Trigger) (g g' : Graph) (m m' : Marks) → TriggerFacts t → TriggerFacts t' → GraphFacts g → GraphFacts g'
    → Inside t g m → Inside t' g' m' → (image t g m ≡ image t' g' m') ↔ ((t ≡ t') × (g ≡ g') × (m ≡ m'))
same-image t t' g g' m m' f f' k k' i i' = (
  λ e.
      let e' = ap (λ (xs : List ℕ). xs ++ []) e in (
        sym (trigger-image t g m [] f) ∙ ap trigger_of e' ∙ trigger-image t' g' m' [] f',
        sym (graph-image t g m [] k) ∙ ap graph_of e' ∙ graph-image t' g' m' [] k',
        sym (marks-image t g m [] k.few i) ∙ ap marks_of e' ∙ marks-image t' g' m' [] k'.few i',
      ),
  λ w. ap (λ (x : Trigger). image x g m) w.0 ∙ ap (λ (x : Graph). image t' x m) w.1 ∙ ap (image t' g') w.2,
)

-- the length and the counts of a memory in layout
pub record Bounded (xs : List ℕ) : Type 0 where
  pub long : fixed_size ≤ length xs
  pub some_state : 1 ≤ get_or xs 0 0
  pub few_states : get_or xs 0 0 ≤ max_states
  pub few_nodes : get_or xs 1 0 ≤ max_nodes
  pub few_edges : get_or xs 2 0 ≤ max_edges

pub layout_limits : (xs : List ℕ) → in_layout xs ≡ true → Bounded xs
layout_limits xs h =
    let f = layout-facts xs h in
    record {
      long = f.long;
      some_state = rw f.counts.0 f.trigger.some;
      few_states = rw f.counts.0 f.trigger.few;
      few_nodes = rw f.counts.1 f.graph.few;
      few_edges = rw f.counts.2 f.graph.few_edges;
    }
