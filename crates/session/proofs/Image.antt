-- The image of a trigger, a graph and marks, word by word, before any rest: with k places for the states, and that of a session.
use Prim.Native.Nat.{ℕ, ◌+◌, ◌<◌}
use native.Mathlib.Omega.{arith}
use mathlib.Core.Path.{◌≡◌, refl, sym, ap, ◌∙◌}
use mathlib.Core.List.{List, ◌++◌, append_assoc}
use lib.ListN.{length, get_or, take, drop, length-append, get_or-append}
use lib.Seq.{take_at, drop_at, drop-drop, get_or-drop}
use Rattle.session.specs.Limits.{
  max_states,
  max_nodes,
  max_edges,
  inverted_at,
  masks_at,
  values_for,
  links_for,
  samples_for,
  edges_for,
  marks_for,
  values_at,
  links_at,
  samples_at,
  edges_at,
  marks_at,
  fixed_size,
}
use Rattle.session.specs.Trigger.{Trigger, Graph, Marks, states, nodes}
use Rattle.session.specs.Layout.{table, section, mark_word, image_for, image}
use Rattle.session.proofs.Tables.{length-table, get_or-table, length-section, get_or-section}

-- past a front of known length
pass : (p n : ℕ) (zs xs ys : List ℕ) → drop p zs ≡ xs ++ ys → length xs ≡ n → drop (p + n) zs ≡ ys
pass p n zs xs ys e l = sym (drop-drop n p zs) ∙ ap (drop n) e ∙ drop_at xs ys n l

-- and inside what stands there
reads : (p n : ℕ) (zs xs ys : List ℕ) → drop p zs ≡ xs ++ ys → length xs ≡ n → (i : ℕ) → i < n → get_or zs (p + i) 0 ≡ get_or xs i 0
reads p n zs xs ys e l i h =
    sym (get_or-drop p zs i 0) ∙ ap (λ (r : List ℕ). get_or r i 0) e ∙ get_or-append xs ys 0 i (rw l h)

-- ---- with k places for the states: the sections, each with what follows it, and their words

module _ (k : ℕ) (t : Trigger) (g : Graph) (m : Marks) where
  pub length_for : length (image_for k t g m) ≡ marks_for k + max_nodes
  unfolding image_for
  length_for = simp (length-append, length-section, length-table) (omega arith)

  module _ (rest : List ℕ) where
    abbrev all : List ℕ
    all = image_for k t g m ++ rest

    pub states_for : get_or (image_for k t g m ++ rest) 0 0 ≡ states t
    unfolding image_for
    states_for = refl

    pub nodes_for : get_or (image_for k t g m ++ rest) 1 0 ≡ nodes g
    unfolding image_for
    nodes_for = refl

    abbrev from-marks : List ℕ
    from-marks = table max_nodes (mark_word t g m) ++ rest

    abbrev from-edges : List ℕ
    from-edges = section max_edges g.edges ++ from-marks

    abbrev from-samples : List ℕ
    from-samples = section max_nodes g.samples ++ from-edges

    abbrev from-links : List ℕ
    from-links = section k t.links ++ from-samples

    abbrev from-values : List ℕ
    from-values = section k t.values ++ from-links

    abbrev from-masks : List ℕ
    from-masks = section k t.masks ++ from-values

    at-masks : drop masks_at all ≡ from-masks
    unfolding image_for
    at-masks = simp append_assoc

    at-values : drop (values_for k) all ≡ from-values
    at-values = pass masks_at k all (section k t.masks) from-values at-masks (length-section k t.masks)

    at-links : drop (links_for k) all ≡ from-links
    at-links = pass (values_for k) k all (section k t.values) from-links at-values (length-section k t.values)

    at-samples : drop (samples_for k) all ≡ from-samples
    at-samples = pass (links_for k) k all (section k t.links) from-samples at-links (length-section k t.links)

    at-edges : drop (edges_for k) all ≡ from-edges
    at-edges =
        pass (samples_for k) max_nodes all (section max_nodes g.samples) from-edges at-samples (length-section max_nodes g.samples)

    at-marks : drop (marks_for k) all ≡ from-marks
    at-marks = pass (edges_for k) max_edges all (section max_edges g.edges) from-marks at-edges (length-section max_edges g.edges)

    holds : (p n : ℕ) (xs ys : List ℕ) → drop p all ≡ section n xs ++ ys → (i : ℕ) → i < n → get_or all (p + i) 0 ≡ get_or xs i 0
    holds p n xs ys e i h = reads p n all (section n xs) ys e (length-section n xs) i h ∙ get_or-section n xs i h

    pub mask_for : (i : ℕ) → i < k → get_or (image_for k t g m ++ rest) (masks_at + i) 0 ≡ get_or t.masks i 0
    mask_for = holds masks_at k t.masks from-values at-masks

    pub value_for : (i : ℕ) → i < k → get_or (image_for k t g m ++ rest) (values_for k + i) 0 ≡ get_or t.values i 0
    value_for = holds (values_for k) k t.values from-links at-values

    pub link_for : (i : ℕ) → i < k → get_or (image_for k t g m ++ rest) (links_for k + i) 0 ≡ get_or t.links i 0
    link_for = holds (links_for k) k t.links from-samples at-links

    pub sample_for : (i : ℕ) → i < max_nodes → get_or (image_for k t g m ++ rest) (samples_for k + i) 0 ≡ get_or g.samples i 0
    sample_for = holds (samples_for k) max_nodes g.samples from-edges at-samples

    pub edge_for : (i : ℕ) → i < max_edges → get_or (image_for k t g m ++ rest) (edges_for k + i) 0 ≡ get_or g.edges i 0
    edge_for = holds (edges_for k) max_edges g.edges from-marks at-edges

    -- the word of a node's marks is the same whatever k is
    pub mark_for : (v : ℕ) → v < max_nodes → get_or (image_for k t g m ++ rest) (marks_for k + v) 0 ≡ mark_word t g m v
    mark_for v h =
        reads (marks_for k) max_nodes all (table max_nodes (mark_word t g m)) rest at-marks (length-table max_nodes (mark_word t g m)) v h
        ∙ get_or-table max_nodes (mark_word t g m) v h

-- ---- the image of a session

module _ (t : Trigger) (g : Graph) (m : Marks) where
  pub length-image : length (image t g m) ≡ fixed_size
  length-image = length_for max_states t g m

  module _ (rest : List ℕ) where
    -- the image is the front, the rest follows
    pub take-image : take fixed_size (image t g m ++ rest) ≡ image t g m
    take-image = take_at (image t g m) rest fixed_size length-image

    pub drop-image : drop fixed_size (image t g m ++ rest) ≡ rest
    drop-image = drop_at (image t g m) rest fixed_size length-image

    pub front-image : (i : ℕ) → i < fixed_size → get_or (image t g m ++ rest) i 0 ≡ get_or (image t g m) i 0
    front-image i h = get_or-append (image t g m) rest 0 i (rw length-image h)

    pub states-word : get_or (image t g m ++ rest) 0 0 ≡ states t
    states-word = states_for max_states t g m rest

    pub nodes-word : get_or (image t g m ++ rest) 1 0 ≡ nodes g
    nodes-word = nodes_for max_states t g m rest

    pub edges_word : get_or (image t g m ++ rest) 2 0 ≡ length g.edges
    unfolding image_for
    edges_word = refl

    pub inverted-word : get_or (image t g m ++ rest) inverted_at 0 ≡ t.inverted
    unfolding image_for
    inverted-word = refl

    pub mask_word : (i : ℕ) → i < max_states → get_or (image t g m ++ rest) (masks_at + i) 0 ≡ get_or t.masks i 0
    mask_word = mask_for max_states t g m rest

    pub value_word : (i : ℕ) → i < max_states → get_or (image t g m ++ rest) (values_at + i) 0 ≡ get_or t.values i 0
    value_word = value_for max_states t g m rest

    pub link-word : (i : ℕ) → i < max_states → get_or (image t g m ++ rest) (links_at + i) 0 ≡ get_or t.links i 0
    link-word = link_for max_states t g m rest

    pub sample_word : (i : ℕ) → i < max_nodes → get_or (image t g m ++ rest) (samples_at + i) 0 ≡ get_or g.samples i 0
    sample_word = sample_for max_states t g m rest

    pub edge-word : (i : ℕ) → i < max_edges → get_or (image t g m ++ rest) (edges_at + i) 0 ≡ get_or g.edges i 0
    edge-word = edge_for max_states t g m rest

    pub mark_word_lem : (v : ℕ) → v < max_nodes → get_or (image t g m ++ rest) (marks_at + v) 0 ≡ mark_word t g m v
    mark_word_lem = mark_for max_states t g m rest
