-- 01, "The session holds trigger, samples, edges in ascending order (start, then end), and marks": the layout, and what it is to be in it.
use Rattle.std.specs.Prelude.{ℕ, zero, suc, ◌+◌, ◌/◌, ◌%◌, ◌^◌, Bool, not, ◌&&◌, ◌||◌, List, [], ◌∷◌, ◌++◌, ltb, leb, eqb, length, get_or, take, drop}
use Rattle.simulation.specs.Sets.{all_below}
use Rattle.simulation.specs.Ordered.{ascends}
use Rattle.bits.specs.Word.{members, word}
use Rattle.session.specs.Limits.{
  max_states,
  max_nodes,
  max_edges,
  word_bits,
  inverted_at,
  masks_at,
  values_at,
  links_at,
  samples_at,
  edges_at,
  marks_for,
  fixed_size,
}
use Rattle.session.specs.Trigger.{Trigger, Graph, Marks, states, nodes, edge_number, admits}

-- f 0, f 1, .. , n numbers in all
unfoldable pub table : ℕ → (ℕ → ℕ) → List ℕ
table zero f = []
table (suc n) f = f 0 ∷ table n (λ i. f (suc i))

-- the numbers of the edges that are given by their starts and ends
abbrev pub numbered : List ℕ → List ℕ → List ℕ
numbered starts ends = table (length starts) (λ k. edge_number (get_or starts k 0) (get_or ends k 0))

-- "Unused places inside its fixed size are zero": the entries of xs, then zeros, n places in all
unfoldable pub section : ℕ → List ℕ → List ℕ
section n xs = table n (λ i. get_or xs i 0)

-- the marks of a node: bit u for the state u
unfoldable pub mark_word : Trigger → Graph → Marks → ℕ → ℕ
mark_word t g m v = word (states t) (λ u. ltb v (nodes g) && m u v)

-- the fixed part of a session that holds this trigger, this graph and these marks, with k places for the states
unfoldable pub image_for : ℕ → Trigger → Graph → Marks → List ℕ
image_for k t g m =
    (states t ∷ nodes g ∷ length g.edges ∷ t.inverted ∷ [])
    ++ (section k t.masks
    ++ (section k t.values
    ++ (section k t.links ++ (section max_nodes g.samples ++ (section max_edges g.edges ++ table max_nodes (mark_word t g m))))))

abbrev pub image : Trigger → Graph → Marks → List ℕ
image = image_for max_states

-- what a memory holds
abbrev pub part : List ℕ → ℕ → ℕ → List ℕ
part xs at n = take n (drop at xs)

unfoldable pub trigger_of : List ℕ → Trigger
trigger_of xs =
    let n = get_or xs 0 0 in
    record { masks = part xs masks_at n; values = part xs values_at n; links = part xs links_at n; inverted = get_or xs inverted_at 0 }

unfoldable pub graph_of : List ℕ → Graph
graph_of xs = record { samples = part xs samples_at (get_or xs 1 0); edges = part xs edges_at (get_or xs 2 0) }

unfoldable pub marks_in : ℕ → List ℕ → Marks
marks_in k xs u v = ltb u (get_or xs 0 0) && (ltb v (get_or xs 1 0) && members (get_or xs (marks_for k + v) 0) u)

abbrev pub marks_of : List ℕ → Marks
marks_of = marks_in max_states

-- every entry of the list is below n
unfoldable pub below : ℕ → List ℕ → Bool
below n xs = all_below (length xs) (λ i. ltb (get_or xs i 0) n)

-- "its counts and numbers keep these limits, links stay inside the trigger", and so do the inverted states
unfoldable pub valid_trigger : Trigger → Bool
valid_trigger t =
    (leb 1 (states t) && leb (states t) max_states)
    && ((eqb (length t.values) (states t) && eqb (length t.links) (states t))
    && ((below (2 ^ word_bits) t.masks && below (2 ^ word_bits) t.values)
    && (below (2 ^ states t) t.links && ltb t.inverted (2 ^ states t))))

-- the edge e joins two nodes of the graph
unfoldable pub names : Graph → ℕ → Bool
names g e = ltb (e / max_nodes) (nodes g) && ltb (e % max_nodes) (nodes g)

-- "edges name nodes of the graph and ascend strictly"
unfoldable pub valid_graph : Graph → Bool
valid_graph g =
    (leb (nodes g) max_nodes && below (2 ^ word_bits) g.samples)
    && (leb (length g.edges) max_edges
    && (all_below (length g.edges) (λ k. names g (get_or g.edges k 0)) && ascends g.edges))

-- "no mark is at a pair that isn't admitted"
unfoldable pub valid_marks : Trigger → Graph → Marks → Bool
valid_marks t g m = all_below (nodes g) (λ v. all_below (states t) (λ u. not (m u v) || admits t g u v))

-- "It is in layout when ..": what it holds is valid, and its fixed part is the image of that
unfoldable pub in_layout : List ℕ → Bool
in_layout xs =
    let t = trigger_of xs in
    let g = graph_of xs in
    let m = marks_of xs in
    leb fixed_size (length xs)
    && ((valid_trigger t && (valid_graph g && valid_marks t g m))
    && all_below fixed_size (λ i. eqb (get_or xs i 0) (get_or (image t g m) i 0)))
