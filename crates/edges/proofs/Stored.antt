-- The section of the edges in a session: read, and written anew with one edge more or less.
use Prim.Native.Nat.{ℕ, suc, ◌+◌, ◌-◌, ◌<◌, ◌≤◌}
use native.Mathlib.Omega.{arith}
use mathlib.Core.Path.{◌≡◌, sym, ◌∙◌, ap, ap₂}
use mathlib.Core.Logic.{⊎_elim}
use mathlib.Core.Bool.{Bool, true, ◌&&◌}
use mathlib.Core.List.{List, [], ◌∷◌, ◌++◌, append_assoc}
use lib.ListN.{length, get_or, set, take, drop, length-append, length-drop, get_or-append, get_or-eq_default}
use lib.Seq.{length-take-le, get_or-drop, take-take, take_at, drop_at, drop-append-le, get_or-append-add, ext_get_or}
use borrow.Rule.Slice.PartMut.{put_mid}
use borrow.Author.Tests.{lt-ltb}
use Rattle.simulation.specs.Ordered.{elem, insert, remove, joins}
use Rattle.simulation.proofs.Search.{lt-or-le}
use Rattle.simulation.proofs.Ordered.{Rising, length-insert, length-remove}
use Rattle.session.specs.Limits.{max_states, max_nodes, max_edges, edges_at, fixed_size}
use Rattle.session.specs.Trigger.{Trigger, Graph, Marks, states, nodes, edge, edge_number, with_edge, without_edge}
use Rattle.session.specs.Layout.{table, section, mark_word, image, trigger_of, graph_of, marks_of, in_layout, image_for}
use Rattle.session.proofs.Tables.{length-section, get_or-section, section-zero}
use Rattle.session.proofs.Decoded.{layout-facts, layout-whole}
use Rattle.session.proofs.Valid.{edge-inside}
use Rattle.edges.proofs.Moves.{zero-end}

-- a section of es with ps over its front is a section of es', where ps has its entries and hides those of es
section-over : (n : ℕ) (es es' ps : List ℕ) → length es ≤ length ps → length ps ≤ n → ((i : ℕ) → get_or ps i 0 ≡ get_or es' i 0)
    → section n es' ≡ ps ++ drop (length ps) (section n es)
section-over n es es' ps hidden room h =
    ext_get_or 0 (section n es') (ps ++ rest)
    (omega (arith, length-section n es', length-append ps rest, length-drop (length ps) (section n es), length-section n es))
    (λ i l.
    let inside : i < n = omega (arith, length-section n es') in
    get_or-section n es' i inside
    ∙ sym (h i)
    ∙ ⊎_elim
    (λ (a : i < length ps). sym (get_or-append ps rest 0 i a))
    (λ (a : length ps ≤ i).
    let j = i - length ps in
    let e : length ps + j ≡ i = omega arith in
    get_or-eq_default ps 0 a
    ∙ sym (section-zero n es i inside (omega arith))
    ∙ sym (ap (λ (k : ℕ). get_or (section n es) k 0) e)
    ∙ sym (get_or-drop (length ps) (section n es) j 0)
    ∙ sym (get_or-append-add ps rest j 0)
    ∙ ap (λ (k : ℕ). get_or (ps ++ rest) k 0) e)
    (lt-or-le i (length ps)))
  where
    rest : List ℕ
    rest = drop (length ps) (section n es)

module _ (t : Trigger) (g : Graph) (m : Marks) (rest : List ℕ) where
  -- what stands between the counts, the inverted states with them, and the edges
  abbrev middle : List ℕ
  middle = section max_states t.masks ++ section max_states t.values ++ section max_states t.links ++ section max_nodes g.samples

  abbrev marks : List ℕ
  marks = table max_nodes (mark_word t g m) ++ rest

  abbrev begun : ℕ → List ℕ
  begun n = states t ∷ nodes g ∷ n ∷ t.inverted ∷ middle

  around : (es : List ℕ) → image t (record { samples = g.samples; edges = es }) m ++ rest ≡ begun (length es) ++ (section max_edges es ++ marks)
  unfolding image_for mark_word
  around es = simp append_assoc

  begun-length : (n : ℕ) → length (begun n) ≡ edges_at
  begun-length n = simp (length-append, length-section)

  -- the front of the edges is written, then their number
  pub edges_stored : (xs es ps : List ℕ) (k : ℕ) → xs ≡ image t g m ++ rest → k ≡ length ps → length g.edges ≤ k → k ≤ max_edges
      → ((i : ℕ) → get_or ps i 0 ≡ get_or es i 0)
      → set (put_mid edges_at k xs ps) 2 (length es) ≡ image t (record { samples = g.samples; edges = es }) m ++ rest
  edges_stored xs es ps k e size hidden room h =
      ap (λ (ys : List ℕ). set ys 2 (length es)) written ∙ sym (around es)
    where
      old : List ℕ
      old = section max_edges g.edges

      before : xs ≡ begun (length g.edges) ++ (old ++ marks)
      before = e ∙ around g.edges

      after : drop k (drop edges_at xs) ≡ drop k old ++ marks
      after =
          ap (λ (ys : List ℕ). drop k (drop edges_at ys)) before
          ∙ ap (drop k) (drop_at (begun (length g.edges)) (old ++ marks) edges_at (begun-length (length g.edges)))
          ∙ drop-append-le k old marks (omega (arith, length-section max_edges g.edges))

      new : ps ++ drop k old ≡ section max_edges es
      new = rw size (sym (section-over max_edges g.edges es ps (omega arith) (omega arith) h))

      written : put_mid edges_at k xs ps ≡ begun (length g.edges) ++ (section max_edges es ++ marks)
      written =
          ap₂ (λ (a b : List ℕ). a ++ (ps ++ b))
          (ap (take edges_at) before ∙ take_at (begun (length g.edges)) (old ++ marks) edges_at (begun-length (length g.edges))) after
          ∙ ap (λ (b : List ℕ). begun (length g.edges) ++ b)
          (sym (append_assoc ps (drop k old) marks) ∙ ap (λ (b : List ℕ). b ++ marks) new)

-- ---- a session in layout

-- its counts, and its edges
pub record Held (xs : List ℕ) : Type 0 where
  pub long : fixed_size ≤ length xs
  pub few_nodes : nodes (graph_of xs) ≤ max_nodes
  pub few_edges : get_or xs 2 0 ≤ max_edges
  pub count : get_or xs 2 0 ≡ length (graph_of xs).edges
  pub rising : Rising (graph_of xs).edges

pub held : (xs : List ℕ) → in_layout xs ≡ true → Held xs
held xs h =
    let f = layout-facts xs h in
    record {
      long = f.long;
      few_nodes = f.graph.few;
      few_edges = rw f.counts.2 f.graph.few_edges;
      count = f.counts.2;
      rising = f.graph.rising;
    }

-- the part of the memory that the edges fill
pub edges-part : (xs : List ℕ) (k : ℕ) → k ≡ get_or xs 2 0 → take k (drop edges_at xs) ≡ (graph_of xs).edges
unfolding graph_of
edges-part xs k e = ap (λ (n : ℕ). take n (drop edges_at xs)) e

pub part-size : (xs : List ℕ) (k : ℕ) → edges_at + k ≤ length xs → length (take k (drop edges_at xs)) ≡ k
part-size xs k room = length-take-le k (drop edges_at xs) (omega (arith, length-drop edges_at xs))

-- and with a place more, what stands before that place
pub edges-front : (xs : List ℕ) (k : ℕ) → k ≡ get_or xs 2 0 + 1 → edges_at + k ≤ length xs
    → take (length (take k (drop edges_at xs)) - 1) (take k (drop edges_at xs)) ≡ (graph_of xs).edges
edges-front xs k e room =
    let n = length (take k (drop edges_at xs)) in
    take-take (n - 1) k (drop edges_at xs) (omega (arith, part-size xs k room)) ∙ edges-part xs (n - 1) (omega (arith, part-size xs k room))

-- an edge between two nodes is its number among the edges
pub edge-elem : (g : Graph) (v w : ℕ) → w < max_nodes → edge g v w ≡ elem (edge_number v w) g.edges
unfolding edge joins
edge-elem g v w l = ap (λ (b : Bool). b && elem (edge_number v w) g.edges) (lt-ltb w max_nodes l)

-- an edge of the session joins two of its nodes
pub joined : (xs : List ℕ) (a b : ℕ) → in_layout xs ≡ true → edge (graph_of xs) a b ≡ true → (a < nodes (graph_of xs)) × (b < nodes (graph_of xs))
joined xs a b h e = edge-inside (graph_of xs) (layout-facts xs h).graph a b e

-- ---- one edge more, one less

module _ (xs : List ℕ) (h : in_layout xs ≡ true) (a b : ℕ) where
  pub insert_stored : (ps : List ℕ) (k n : ℕ) → n ≡ get_or xs 2 0 + 1 → k ≡ get_or xs 2 0 + 1 → k ≤ max_edges
      → ps ≡ insert (edge_number a b) (take (length (take k (drop edges_at xs)) - 1) (take k (drop edges_at xs)))
      → set (put_mid edges_at k xs ps) 2 n
      ≡ image (trigger_of xs) (with_edge (graph_of xs) a b) (marks_of xs) ++ drop fixed_size xs
  insert_stored ps k n count e room d =
      let f = held xs h in
      let es = insert (edge_number a b) (graph_of xs).edges in
      let is : ps ≡ es = d ∙ ap (insert (edge_number a b)) (edges-front xs k e (omega (arith, f.long))) in
      let more : length es ≡ n = omega (arith, length-insert (edge_number a b) (graph_of xs).edges, f.count) in
      ap (λ (j : ℕ). set (put_mid edges_at k xs ps) 2 j) (sym more)
      ∙ edges_stored (trigger_of xs) (graph_of xs) (marks_of xs) (drop fixed_size xs) xs es ps k (layout-whole xs h)
      (omega (arith, ap length is)) (omega (arith, f.count)) room (λ i. ap (λ (l : List ℕ). get_or l i 0) is)

  pub remove_stored : (ps : List ℕ) (k n : ℕ) → n ≡ get_or xs 2 0 - 1 → k ≡ get_or xs 2 0 → elem (edge_number a b) (graph_of xs).edges ≡ true
      → ps ≡ remove (edge_number a b) (take k (drop edges_at xs)) ++ (0 ∷ [])
      → set (put_mid edges_at k xs ps) 2 n
      ≡ image (trigger_of xs) (without_edge (graph_of xs) a b) (marks_of xs) ++ drop fixed_size xs
  remove_stored ps k n count e there d =
      let f = held xs h in
      let es = remove (edge_number a b) (graph_of xs).edges in
      let is : ps ≡ es ++ (0 ∷ []) = d ∙ ap (λ (l : List ℕ). remove (edge_number a b) l ++ (0 ∷ [])) (edges-part xs k e) in
      let fewer : suc (length es) ≡ length (graph_of xs).edges = length-remove (edge_number a b) (graph_of xs).edges f.rising there in
      let less : length es ≡ n = omega (arith, f.count) in
      ap (λ (j : ℕ). set (put_mid edges_at k xs ps) 2 j) (sym less)
      ∙ edges_stored (trigger_of xs) (graph_of xs) (marks_of xs) (drop fixed_size xs) xs es ps k (layout-whole xs h)
      (omega (arith, ap length is, length-append es (0 ∷ []), f.count)) (omega (arith, f.count)) (omega (arith, f.few_edges))
      (λ i. ap (λ (l : List ℕ). get_or l i 0) is ∙ zero-end es i)
