-- The layout test of a memory that is long enough is the three tests of its parts.
use Prim.Native.Nat.{ℕ, ◌+◌, ◌-◌, ◌/◌, ◌%◌, ◌^◌, ◌<◌, ◌≤◌}
use native.Mathlib.Nat.{add_assoc, add-sub_cancel_left, sub-add-eq}
use native.Mathlib.Omega.{arith}
use mathlib.Core.Path.{◌≡◌, refl, sym, ap, subst, ◌∙◌}
use mathlib.Core.Logic.{⊎_elim}
use mathlib.Core.Bool.{Bool, true, false, not, ◌&&◌, ◌||◌, cond}
use mathlib.Core.List.{List, ◌∷◌, ◌++◌, append_assoc}
use lib.Dec.{ltb, leb, eqb}
use lib.ListN.{length, get_or, take, drop, length-drop, take-append-drop, get_or-eq_default}
use lib.Pow.{pow_pos}
use lib.Seq.{length-take-le, get_or-take, get_or-drop, take-take, take-add, drop_at, drop-drop, drop-cons, ext_get_or}
use borrow.Author.Tests.{ltb-true, lt-ltb, le-ltb, le-leb}
use Rattle.simulation.specs.Sets.{Set, all_below}
use Rattle.simulation.specs.Ordered.{ascends}
use Rattle.std.proofs.lemmas.Bool.Decides.{nat_tests}
use Rattle.simulation.proofs.Sets.{clash, split, same, refuted, and_make, and_l, and_r, implies_make, implies_take, all_make, all_take}
use Rattle.simulation.proofs.Search.{lt-or-le}
use Rattle.simulation.proofs.Ordered.{rising_make, elem_at}
use Rattle.bits.specs.Word.{members, word, within, set_bits}
use Rattle.bits.proofs.Words.{zero-members, word_below, word_same, members-word}
use Rattle.bits.proofs.Gathers.{gathers}
use Rattle.session.specs.Limits.{
  max_states,
  max_nodes,
  max_edges,
  word_bits,
  inverted_at,
  masks_at,
  values_at,
  links_at,
  samples_at,
  edges_at,
  marks_at,
  fixed_size,
}
use Rattle.session.specs.Trigger.{Trigger, Graph, Marks, states, nodes, accepts, admits}
use Rattle.session.specs.Layout.{table, section, mark_word, image, part, trigger_of, graph_of, marks_of, below, names, valid_graph, valid_marks, in_layout, image_for, marks_in}
use Rattle.session.specs.Tests.{fits, all_named, sparse, trigger_test, graph_test, marks_test}
use Rattle.session.proofs.Tables.{length-table, get_or-table, length-section, get_or-section, below-take, fits_gathered, part-below}
use Rattle.session.proofs.Valid.{TriggerFacts, GraphFacts, graph-facts, marks-facts, marks-valid}
use Rattle.session.proofs.Image.{inverted-word, mask_word, value_word, link-word, sample_word, edge-word, mark_word_lem}
use Rattle.session.proofs.Decoded.{marks-take, layout-image, LayoutFacts, layout-whole, layout-facts}

-- ---- a memory that is not in layout: it is too short

module _ (xs : List ℕ) where
  pub layout_short : length xs < fixed_size → in_layout xs ≡ false
  layout_short l = refuted (in_layout xs) (λ h. let f = layout-facts xs h in absurd (omega (arith, f.long)))

-- ---- parts and sections of a memory

module _ (xs : List ℕ) (p n : ℕ) where
  pub part_length : p + n ≤ length xs → length (part xs p n) ≡ n
  part_length h = length-take-le n (drop p xs) (omega (arith, length-drop p xs))

  part_at : (i : ℕ) → i < n → get_or (part xs p n) i 0 ≡ get_or xs (p + i) 0
  part_at i l = get_or-take n (drop p xs) i 0 l ∙ get_or-drop p xs i 0

  -- a part, and what follows it
  part_on : {ys zs : List ℕ} → part xs p n ≡ ys → drop (p + n) xs ≡ zs → drop p xs ≡ ys ++ zs
  part_on d r = rw (← d, ← r, ← drop-drop n p xs) (sym (take-append-drop n (drop p xs)))

  -- entries below a bound
  below-part : (k : ℕ) → p + n ≤ length xs → below k (part xs p n) ≡ true → (i : ℕ) → i < n → get_or xs (p + i) 0 < k
  below-part k long h i l =
      subst (λ (x : ℕ). x < k) (part_at i l) (below-take k (part xs p n) h i (omega (arith, part_length long)))

  -- the n words from p on: those before `used` are below 2 ^ k, the others are zero
  record Fits (k used : ℕ) : Type 0 where
    small : (i : ℕ) → i < n → i < used → get_or xs (p + i) 0 < 2 ^ k
    rest : (i : ℕ) → i < n → used ≤ i → get_or xs (p + i) 0 ≡ 0

  module _ (k used : ℕ) (long : p + n ≤ length xs) where
    -- the test, and back
    fits_word : fits k used (part xs p n) ≡ true → (i : ℕ) → i < n → get_or xs (p + i) 0 < cond (ltb i used) (2 ^ k) 1
    unfolding fits
    fits_word h i l =
        let b : ℕ = cond (ltb i used) (2 ^ k) 1 in
        subst (λ (x : ℕ). x < b) (part_at i l)
        (ltb-true (get_or (part xs p n) i 0) b
        (all_take (length (part xs p n)) (λ i. ltb (get_or (part xs p n) i 0) (cond (ltb i used) (2 ^ k) 1)) h i
        (omega (arith, part_length long))))

    fits-take : fits k used (part xs p n) ≡ true → Fits k used
    fits-take h = record {
      small = λ i l c. rw (lt-ltb i used c) at (fits_word h i l);
      rest = λ i l c.
          let z : get_or xs (p + i) 0 < 1 = rw (le-ltb i used c) at (fits_word h i l) in
          omega arith;
    }

    fits_make : Fits k used → fits k used (part xs p n) ≡ true
    unfolding fits
    fits_make f =
        all_make (length (part xs p n)) (λ i. ltb (get_or (part xs p n) i 0) (cond (ltb i used) (2 ^ k) 1))
        (λ i l.
        let c : i < n = omega (arith, part_length long) in
        lt-ltb (get_or (part xs p n) i 0) (cond (ltb i used) (2 ^ k) 1)
        (rw (part_at i c)
        (⊎_elim
        (λ (d : i < used). rw (lt-ltb i used d) (f.small i c d))
        (λ (d : used ≤ i). rw (le-ltb i used d, f.rest i c d) (omega arith))
        (lt-or-le i used))))

  -- a section that holds ys fits, where the entries of ys do
  holds_fits : (k used : ℕ) (ys : List ℕ) → length ys ≡ used → below (2 ^ k) ys ≡ true
      → ((i : ℕ) → i < n → get_or xs (p + i) 0 ≡ get_or ys i 0)
      → Fits k used
  holds_fits k used ys e b read = record {
    small = λ i l c. rw (read i l) (below-take (2 ^ k) ys b i (omega arith));
    rest = λ i l c. read i l ∙ get_or-eq_default ys 0 (omega arith);
  }

-- the words in use of a section that fits
fits_below : (xs : List ℕ) (p n k used : ℕ) → p + n ≤ length xs → used ≤ n → Fits xs p n k used
    → below (2 ^ k) (part xs p used) ≡ true
fits_below xs p n k used long few f = part-below xs p used (2 ^ k) (omega arith) (λ i l. f.small i (omega arith) l)

-- past the words in use all is zero: the section of these, and what follows it
section_on : (xs : List ℕ) (p n used : ℕ) {zs : List ℕ} → p + n ≤ length xs → used ≤ n
    → ((i : ℕ) → i < n → used ≤ i → get_or xs (p + i) 0 ≡ 0)
    → drop (p + n) xs ≡ zs
    → drop p xs ≡ section n (part xs p used) ++ zs
section_on xs p n used long few rest =
    part_on xs p n
    (ext_get_or 0 (part xs p n) (section n (part xs p used)) (size ∙ sym (length-section n (part xs p used)))
    (λ i l.
    let c : i < n = omega (arith, size) in
    part_at xs p n i c ∙ entry i c ∙ sym (get_or-section n (part xs p used) i c)))
  where
    size : length (part xs p n) ≡ n
    size = part_length xs p n long

    entry : (i : ℕ) → i < n → get_or xs (p + i) 0 ≡ get_or (part xs p used) i 0
    entry i c =
        ⊎_elim
        (λ (d : i < used). sym (part_at xs p used i d))
        (λ (d : used ≤ i).
        rest i c d ∙ sym (get_or-eq_default (part xs p used) 0 (omega (arith, part_length xs p used (omega arith)))))
        (lt-or-le i used)

-- ---- the three tests as facts, and back

module _ (xs : List ℕ) where
  record TriggerWords (n : ℕ) : Type 0 where
    masks : Fits xs masks_at max_states word_bits n
    values : Fits xs values_at max_states word_bits n
    links : Fits xs links_at max_states n n
    inverted : get_or xs inverted_at 0 < 2 ^ n

  record GraphWords (m e : ℕ) : Type 0 where
    samples : Fits xs samples_at max_nodes word_bits m
    rest : (i : ℕ) → i < max_edges → e ≤ i → get_or xs (edges_at + i) 0 ≡ 0
    named : all_named m (part xs edges_at e) ≡ true
    ascend : ascends (part xs edges_at e) ≡ true

  -- the state u admits the sample at v
  abbrev fit : ℕ → ℕ → ℕ → Set
  fit n m u v =
      accepts word_bits (members (get_or xs inverted_at 0) u) (get_or (part xs masks_at n) u 0) (get_or (part xs values_at n) u 0) (get_or (part xs samples_at m) v 0)

  record MarkWords (n m : ℕ) : Type 0 where
    words : Fits xs marks_at max_nodes n m
    kept : (u v : ℕ) → u < n → v < m → members (get_or xs (marks_at + v) 0) u ≡ true → fit n m u v ≡ true

  module _ (long : fixed_size ≤ length xs) where
    trigger-take : (n : ℕ) → trigger_test xs n ≡ true → TriggerWords n
    unfolding trigger_test
    trigger-take n h =
        let a = fits word_bits n (part xs masks_at max_states) in
        let b = fits word_bits n (part xs values_at max_states) in
        let c = fits n n (part xs links_at max_states) in
        let d = ltb (get_or xs inverted_at 0) (2 ^ n) in
        let r = and_r a (b && (c && d)) h in
        let s = and_r b (c && d) r in
        record {
          masks = fits-take xs masks_at max_states word_bits n (omega arith) (and_l a (b && (c && d)) h);
          values = fits-take xs values_at max_states word_bits n (omega arith) (and_l b (c && d) r);
          links = fits-take xs links_at max_states n n (omega arith) (and_l c d s);
          inverted = ltb-true (get_or xs inverted_at 0) (2 ^ n) (and_r c d s);
        }

    trigger_make : (n : ℕ) → TriggerWords n → trigger_test xs n ≡ true
    unfolding trigger_test
    trigger_make n f =
        and_make (fits_make xs masks_at max_states word_bits n (omega arith) f.masks)
        (and_make
        (fits_make xs values_at max_states word_bits n (omega arith) f.values)
        (and_make (fits_make xs links_at max_states n n (omega arith) f.links) (lt-ltb (get_or xs inverted_at 0) (2 ^ n) f.inverted)))

    module _ (m e : ℕ) (few : e ≤ max_edges) where
      graph-take : graph_test xs m e ≡ true → GraphWords m e
      unfolding graph_test
      graph-take h =
          let a = fits word_bits m (part xs samples_at max_nodes) in
          let b = below 1 (part xs (edges_at + e) (max_edges - e)) in
          let c = ascends (part xs edges_at e) in
          let d = all_named m (part xs edges_at e) in
          let r = and_r a (b && (c && d)) h in
          let s = and_r b (c && d) r in
          record {
            samples = fits-take xs samples_at max_nodes word_bits m (omega arith) (and_l a (b && (c && d)) h);
            rest = λ i l k.
                let z : get_or xs (edges_at + e + (i - e)) 0 < 1 =
                below-part xs (edges_at + e) (max_edges - e) 1 (omega arith) (and_l b (c && d) r) (i - e) (omega arith) in
                let y : get_or xs (edges_at + i) 0 < 1 = subst (λ (j : ℕ). get_or xs j 0 < 1) (omega arith) z in
                omega arith;
            named = and_r c d s;
            ascend = and_l c d s;
          }

      graph_make : GraphWords m e → graph_test xs m e ≡ true
      unfolding graph_test
      graph_make f =
          and_make (fits_make xs samples_at max_nodes word_bits m (omega arith) f.samples)
          (and_make
          (part-below xs (edges_at + e) (max_edges - e) 1 (omega arith)
          (λ i l. rw (add_assoc edges_at e i, f.rest (e + i) (omega arith) (omega arith)) (omega arith)))
          (and_make f.ascend f.named))

    module _ (n m : ℕ) (few : m ≤ max_nodes) where
      abbrev marks : List ℕ
      marks = part xs marks_at m

      size : length marks ≡ m
      size = part_length xs marks_at m (omega arith)

      abbrev row : ℕ → Bool
      row u =
          sparse (part xs samples_at m) marks
          (accepts word_bits (members (get_or xs inverted_at 0) u) (get_or (part xs masks_at n) u 0) (get_or (part xs values_at n) u 0)) u

      row-take : (u v : ℕ) → row u ≡ true → v < m → members (get_or xs (marks_at + v) 0) u ≡ true → fit n m u v ≡ true
      unfolding sparse
      row-take u v h l d =
          implies_take (members (get_or marks v 0) u) (fit n m u v)
          (all_take (length marks) (λ v. not (members (get_or marks v 0) u) || fit n m u v) h v (omega (arith, size)))
          (ap (λ (w : ℕ). members w u) (part_at xs marks_at m v l) ∙ d)

      row_make : (u : ℕ) → ((v : ℕ) → v < m → members (get_or xs (marks_at + v) 0) u ≡ true → fit n m u v ≡ true) → row u ≡ true
      unfolding sparse
      row_make u h =
          all_make (length marks) (λ v. not (members (get_or marks v 0) u) || fit n m u v)
          (λ v l.
          let c : v < m = omega (arith, size) in
          implies_make (members (get_or marks v 0) u) (fit n m u v)
          (λ d. h v c (ap (λ (w : ℕ). members w u) (sym (part_at xs marks_at m v c)) ∙ d)))

      mark_take : marks_test xs n m ≡ true → MarkWords n m
      unfolding marks_test
      mark_take h =
          let a = fits n m (part xs marks_at max_nodes) in
          let b = all_below n row in
          record {
            words = fits-take xs marks_at max_nodes n m (omega arith) (and_l a b h);
            kept = λ u v l c d. row-take u v (all_take n row (and_r a b h) u l) c d;
          }

      mark_make : MarkWords n m → marks_test xs n m ≡ true
      unfolding marks_test
      mark_make f =
          and_make (fits_make xs marks_at max_nodes n m (omega arith) f.words)
          (all_make n row (λ u l. row_make u (λ v c d. f.kept u v l c d)))

-- where the tests of trigger and graph pass, masks and samples are words; marks are, where their section fits
pub test_masks : (xs : List ℕ) (n : ℕ) → trigger_test xs n ≡ true → n ≤ max_states → fixed_size ≤ length xs
    → below (2 ^ word_bits) (part xs masks_at n) ≡ true
test_masks xs n h few long =
    fits_below xs masks_at max_states word_bits n (omega arith) few (trigger-take xs long n h).masks

pub test_samples : (xs : List ℕ) (m e : ℕ) → graph_test xs m e ≡ true → m ≤ max_nodes → e ≤ max_edges → fixed_size ≤ length xs
    → below (2 ^ word_bits) (part xs samples_at m) ≡ true
test_samples xs m e h few edges long =
    fits_below xs samples_at max_nodes word_bits m (omega arith) few (graph-take xs long m e edges h).samples

-- the n words from p on, whose first m are tested together, and the others
module _ (xs : List ℕ) (p n m : ℕ) (h : m ≤ n) (long : p + n ≤ length xs) where
  part-front : take m (part xs p n) ≡ part xs p (p + m - p)
  part-front =
      let e : m ≡ p + m - p = omega arith in
      take-take m n (drop p xs) h ∙ ap (part xs p) e

  part-rest : drop m (part xs p n) ≡ part xs (p + m) (p + n - (p + m))
  part-rest =
      let ys : List ℕ = drop p xs in
      let e : n ≡ m + (n - m) = omega arith in
      let d : n - m ≡ p + n - (p + m) = omega arith in
      ap (λ (k : ℕ). drop m (take k ys)) e
      ∙ ap (drop m) (take-add m (n - m) ys)
      ∙ drop_at (take m ys) (take (n - m) (drop m ys)) m (length-take-le m ys (omega (arith, length-drop p xs)))
      ∙ ap (take (n - m)) (drop-drop m p xs)
      ∙ ap (part xs (p + m)) d

  pub fits_unions : (k inside unused : ℕ) → inside < 2 ^ set_bits
      → members inside ≡ gathers (length (part xs p (p + m - p))) (λ i. members (get_or (part xs p (p + m - p)) i 0))
      → members unused ≡ gathers (length (part xs (p + m) (p + n - (p + m)))) (λ i. members (get_or (part xs (p + m) (p + n - (p + m))) i 0))
      → (within set_bits inside (2 ^ k - 1) && eqb unused 0) ≡ fits k m (part xs p n)
  fits_unions k inside unused l e d =
      fits_gathered set_bits k m inside unused (part xs p n) (omega (arith, part_length xs p n long)) l
      (subst (λ (ys : List ℕ). members inside ≡ gathers (length ys) (λ i. members (get_or ys i 0))) (sym part-front) e)
      (subst (λ (ys : List ℕ). members unused ≡ gathers (length ys) (λ i. members (get_or ys i 0))) (sym part-rest) d)

-- ---- edges that name nodes, and the word of a node's marks

module _ (g : Graph) where
  named_make : GraphFacts g → all_named (nodes g) g.edges ≡ true
  unfolding all_named
  named_make f =
      all_make (length g.edges)
      (λ k. ltb (get_or g.edges k 0 / max_nodes) (nodes g) && ltb (get_or g.edges k 0 % max_nodes) (nodes g))
      (λ k l.
      let e = get_or g.edges k 0 in
      let m = elem_at g.edges k l in
      and_make (lt-ltb (e / max_nodes) (nodes g) (f.starts e m)) (lt-ltb (e % max_nodes) (nodes g) (f.ends e m)))

  graph_build : nodes g ≤ max_nodes → below (2 ^ word_bits) g.samples ≡ true → length g.edges ≤ max_edges
      → all_named (nodes g) g.edges ≡ true → ascends g.edges ≡ true → GraphFacts g
  unfolding valid_graph names all_named
  graph_build few fit few_edges named ascend =
      graph-facts g
      (and_make (and_make (le-leb (nodes g) max_nodes few) fit)
      (and_make (le-leb (length g.edges) max_edges few_edges) (and_make named ascend)))

-- the marks of a node are the bits of its word
marks-word : (n w : ℕ) (X : Set) → ((u : ℕ) → u < n → X u ≡ members w u) → w < 2 ^ n → word n X ≡ w
marks-word n w X h l = word_same n X (members w) h ∙ members-word n w l

-- ---- the test

abbrev limits : ℕ → ℕ → ℕ → Bool
limits n m e = not (eqb n 0) && leb n max_states && leb m max_nodes && leb e max_edges

limits_take : (n m e : ℕ) → limits n m e ≡ true → (1 ≤ n) × (n ≤ max_states) × (m ≤ max_nodes) × (e ≤ max_edges)
limits_take n m e h = grind (arith, nat_tests)

limits_make : (n m e : ℕ) → 1 ≤ n → n ≤ max_states → m ≤ max_nodes → e ≤ max_edges → limits n m e ≡ true
limits_make n m e some few few_nodes few_edges = grind (arith, nat_tests)

module _ (xs : List ℕ) where
  -- the counts, and what the memory holds
  abbrev n : ℕ
  n = get_or xs 0 0

  abbrev m : ℕ
  m = get_or xs 1 0

  abbrev e : ℕ
  e = get_or xs 2 0

  abbrev t : Trigger
  t = trigger_of xs

  abbrev g : Graph
  g = graph_of xs

  abbrev k : Marks
  k = marks_of xs

  abbrev rest : List ℕ
  rest = drop fixed_size xs

  -- ---- a memory in layout passes the tests

  module _ (h : in_layout xs ≡ true) where
    f : LayoutFacts xs
    f = layout-facts xs h

    -- a word is that of the image
    through : (p : ℕ) → get_or xs p 0 ≡ get_or (image t g k ++ rest) p 0
    through p = ap (λ (r : List ℕ). get_or r p 0) (layout-whole xs h)

    trigger-passes : trigger_test xs n ≡ true
    trigger-passes =
        trigger_make xs f.long n
        record {
          masks = holds_fits xs masks_at max_states word_bits n t.masks (sym f.counts.0) f.trigger.masks_fit
              (λ i l. through (masks_at + i) ∙ mask_word t g k rest i l);
          values = holds_fits xs values_at max_states word_bits n t.values (f.trigger.values ∙ sym f.counts.0) f.trigger.values_fit
              (λ i l. through (values_at + i) ∙ value_word t g k rest i l);
          links = holds_fits xs links_at max_states n n t.links (f.trigger.links ∙ sym f.counts.0)
              (subst (λ (b : ℕ). below (2 ^ b) t.links ≡ true) (sym f.counts.0) f.trigger.links_fit)
              (λ i l. through (links_at + i) ∙ link-word t g k rest i l);
          inverted = rw (through inverted_at, inverted-word t g k rest, f.counts.0) f.trigger.inverted_fit;
        }

    edges_few : e ≤ max_edges
    edges_few = omega (arith, f.counts.2, f.graph.few_edges)

    named : all_named m g.edges ≡ true
    named = subst (λ (b : ℕ). all_named b g.edges ≡ true) (sym f.counts.1) (named_make g f.graph)

    graph-passes : graph_test xs m e ≡ true
    unfolding graph_of
    graph-passes =
        graph_make xs f.long m e edges_few
        record {
          samples = holds_fits xs samples_at max_nodes word_bits m g.samples (sym f.counts.1) f.graph.samples_fit
              (λ i l. through (samples_at + i) ∙ sample_word t g k rest i l);
          rest = λ i l c.
              through (edges_at + i) ∙ edge-word t g k rest i l
              ∙ get_or-eq_default g.edges 0 (omega (arith, f.counts.2));
          named = named;
          ascend = rising_make g.edges f.graph.rising;
        }

    nodes-few : m ≤ max_nodes
    nodes-few = omega (arith, f.counts.1, f.graph.few)

    mark_is : (v : ℕ) → v < max_nodes → get_or xs (marks_at + v) 0 ≡ mark_word t g k v
    mark_is v l = through (marks_at + v) ∙ mark_word_lem t g k rest v l

    mark_small : (v : ℕ) → mark_word t g k v < 2 ^ n
    unfolding mark_word
    mark_small v =
        subst (λ (b : ℕ). mark_word t g k v < 2 ^ b) (sym f.counts.0) (word_below (states t) (λ u. ltb v (nodes g) && k u v))

    mark_rest : (v : ℕ) → m ≤ v → mark_word t g k v ≡ 0
    unfolding mark_word
    mark_rest v c =
        marks-word (states t) 0 (λ u. ltb v (nodes g) && k u v)
        (λ u l. ap (λ (b : Bool). b && k u v) (le-ltb v (nodes g) (omega (arith, f.counts.1))) ∙ sym (zero-members u))
        (pow_pos (states t))

    kept : (u v : ℕ) → u < n → v < m → members (get_or xs (marks_at + v) 0) u ≡ true → admits t g u v ≡ true
    unfolding marks_in
    kept u v l c d =
        marks-facts t g k f.marks u v (omega (arith, f.counts.0)) (omega (arith, f.counts.1))
        (and_make (lt-ltb u n l) (and_make (lt-ltb v m c) d))

    marks-passes : marks_test xs n m ≡ true
    unfolding admits trigger_of graph_of
    marks-passes =
        mark_make xs f.long n m nodes-few
        record {
          words =
              record {
                small = λ v l c. rw (mark_is v l) (mark_small v);
                rest = λ v l c. mark_is v l ∙ mark_rest v c;
              };
          kept = kept;
        }

  -- ---- a memory that passes the tests is in layout

  module _ (long : fixed_size ≤ length xs) (some : 1 ≤ n) (few_states : n ≤ max_states)
      (few_nodes : m ≤ max_nodes) (few_edges : e ≤ max_edges) where
    -- the counts
    count-states : states t ≡ n
    unfolding trigger_of
    count-states = part_length xs masks_at n (omega arith)

    count-nodes : nodes g ≡ m
    unfolding graph_of
    count-nodes = part_length xs samples_at m (omega arith)

    count-edges : length g.edges ≡ e
    unfolding graph_of
    count-edges = part_length xs edges_at e (omega arith)

    module _ (tw : TriggerWords xs n) (gw : GraphWords xs m e) (mw : MarkWords xs n m) where
      trigger-holds : TriggerFacts t
      unfolding trigger_of
      trigger-holds = record {
        some = omega (arith, count-states);
        few = omega (arith, count-states);
        values = part_length xs values_at n (omega arith) ∙ sym count-states;
        links = part_length xs links_at n (omega arith) ∙ sym count-states;
        masks_fit = fits_below xs masks_at max_states word_bits n (omega arith) few_states tw.masks;
        values_fit = fits_below xs values_at max_states word_bits n (omega arith) few_states tw.values;
        links_fit =
            subst (λ (b : ℕ). below (2 ^ b) (part xs links_at n) ≡ true) (sym count-states)
            (fits_below xs links_at max_states n n (omega arith) few_states tw.links);
        inverted_fit = subst (λ (b : ℕ). get_or xs inverted_at 0 < 2 ^ b) (sym count-states) tw.inverted;
      }

      graph-holds : GraphFacts g
      unfolding graph_of
      graph-holds =
          graph_build g (omega (arith, count-nodes)) (fits_below xs samples_at max_nodes word_bits m (omega arith) few_nodes gw.samples)
          (omega (arith, count-edges))
          (subst (λ (b : ℕ). all_named b (part xs edges_at e) ≡ true) (sym count-nodes) gw.named)
          gw.ascend

      marks_hold : valid_marks t g k ≡ true
      unfolding admits trigger_of graph_of
      marks_hold = marks-valid t g k (λ u v l c h. let r = marks-take xs u v h in mw.kept u v r.0 r.1 r.2)

      inside : (u v : ℕ) → k u v ≡ true → (u < states t) × (v < nodes g)
      inside u v h = let r = marks-take xs u v h in (omega (arith, count-states), omega (arith, count-nodes))

      -- the word of a node is that of its marks
      mark_same : (v : ℕ) → v < max_nodes → (u : ℕ) → u < states t → (ltb v (nodes g) && k u v) ≡ members (get_or xs (marks_at + v) 0) u
      unfolding marks_in
      mark_same v l u c =
          ⊎_elim
          (λ (d : v < m). rw (count-nodes, lt-ltb v m d, lt-ltb u n (omega (arith, count-states))))
          (λ (d : m ≤ v). rw (count-nodes, le-ltb v m d, mw.words.rest v l d) (sym (zero-members u)))
          (lt-or-le v m)

      mark_below : (v : ℕ) → v < max_nodes → get_or xs (marks_at + v) 0 < 2 ^ states t
      mark_below v l =
          rw count-states
          (⊎_elim
          (λ (d : v < m). mw.words.small v l d)
          (λ (d : m ≤ v). rw (mw.words.rest v l d) (pow_pos n))
          (lt-or-le v m))

      marks-table : part xs marks_at max_nodes ≡ table max_nodes (mark_word t g k)
      unfolding mark_word
      marks-table =
          ext_get_or 0 (part xs marks_at max_nodes) (table max_nodes (mark_word t g k)) (size' ∙ sym (length-table max_nodes (mark_word t g k)))
          (λ v l.
          let c : v < max_nodes = omega (arith, size') in
          part_at xs marks_at max_nodes v c
          ∙ sym (marks-word (states t) (get_or xs (marks_at + v) 0) (λ u. ltb v (nodes g) && k u v) (mark_same v c) (mark_below v c))
          ∙ sym (get_or-table max_nodes (mark_word t g k) v c))
        where
          size' : length (part xs marks_at max_nodes) ≡ max_nodes
          size' = part_length xs marks_at max_nodes (omega arith)

      -- the memory from the masks on
      at-masks : drop masks_at xs
          ≡ section max_states t.masks
          ++ (section max_states t.values
          ++ (section max_states t.links
          ++ (section max_nodes g.samples ++ (section max_edges g.edges ++ (table max_nodes (mark_word t g k) ++ rest)))))
      unfolding trigger_of graph_of
      at-masks =
          section_on xs masks_at max_states n (omega arith) few_states tw.masks.rest
          (section_on xs values_at max_states n (omega arith) few_states tw.values.rest
          (section_on xs links_at max_states n (omega arith) few_states tw.links.rest
          (section_on xs samples_at max_nodes m (omega arith) few_nodes gw.samples.rest
          (section_on xs edges_at max_edges e (omega arith) few_edges gw.rest (part_on xs marks_at max_nodes marks-table refl)))))

      at-counts : xs ≡ n ∷ m ∷ e ∷ t.inverted ∷ drop masks_at xs
      unfolding trigger_of
      at-counts =
          drop-cons xs 0 0 (omega arith)
          ∙ ap (λ (r : List ℕ). n ∷ r)
          (drop-cons xs 1 0 (omega arith)
          ∙ ap (λ (r : List ℕ). m ∷ r)
          (drop-cons xs 2 0 (omega arith) ∙ ap (λ (r : List ℕ). e ∷ r) (drop-cons xs inverted_at 0 (omega arith))))

      whole : xs ≡ image t g k ++ rest
      unfolding image_for
      whole =
          at-counts ∙ ap (λ (r : List ℕ). n ∷ m ∷ e ∷ t.inverted ∷ r) at-masks ∙ rw (count-states, count-nodes, count-edges) (simp append_assoc)

      in_layout_lem : in_layout xs ≡ true
      in_layout_lem = rw whole (layout-image t g k rest trigger-holds graph-holds marks_hold inside)

  -- where the counts keep their limits
  pub layout-test : fixed_size ≤ length xs → 1 ≤ get_or xs 0 0 → get_or xs 0 0 ≤ max_states → get_or xs 1 0 ≤ max_nodes → get_or xs 2 0 ≤ max_edges
      → in_layout xs
      ≡ (trigger_test xs (get_or xs 0 0) && (graph_test xs (get_or xs 1 0) (get_or xs 2 0) && marks_test xs (get_or xs 0 0) (get_or xs 1 0)))
  layout-test long some few_states few_nodes few_edges =
      let a = trigger_test xs n in
      let b = graph_test xs m e in
      let c = marks_test xs n m in
      same (in_layout xs) (a && (b && c))
      (λ h. and_make (trigger-passes h) (and_make (graph-passes h) (marks-passes h)))
      (λ h.
      let r = and_r a (b && c) h in
      in_layout_lem long some few_states few_nodes few_edges
      (trigger-take xs long n (and_l a (b && c) h))
      (graph-take xs long m e few_edges (and_l b c r))
      (mark_take xs long n m few_nodes (and_r b c r)))

  -- with the limits of the counts among the tests
  pub layout_tests : fixed_size ≤ length xs → in_layout xs
      ≡ ((not (eqb (get_or xs 0 0) 0) && leb (get_or xs 0 0) max_states && leb (get_or xs 1 0) max_nodes && leb (get_or xs 2 0) max_edges)
      && (trigger_test xs (get_or xs 0 0) && (graph_test xs (get_or xs 1 0) (get_or xs 2 0) && marks_test xs (get_or xs 0 0) (get_or xs 1 0))))
  layout_tests long =
      ⊎_elim
      (λ (h : limits n m e ≡ true). let l = limits_take n m e h in rw h (layout-test long l.0 l.1 l.2 l.3))
      (λ (h : limits n m e ≡ false).
      rw h
      (refuted (in_layout xs)
      (λ i.
      let f = layout-facts xs i in
      clash
      (limits_make n m e (omega (arith, f.counts.0, f.trigger.some)) (omega (arith, f.counts.0, f.trigger.few)) (omega (arith, f.counts.1, f.graph.few))
      (omega (arith, f.counts.2, f.graph.few_edges)))
      h)))
      (split (limits n m e))

-- the parts of the edges, as the code cuts them
pub graph_parts : (xs : List ℕ) (m e : ℕ) → graph_test xs m e
    ≡ (fits word_bits m (part xs samples_at max_nodes)
    && (below 1 (part xs (edges_at + e) (marks_at - (edges_at + e)))
    && (ascends (part xs edges_at (edges_at + e - edges_at)) && all_named m (part xs edges_at (edges_at + e - edges_at)))))
unfolding graph_test
graph_parts xs m e = rw (sub-add-eq marks_at edges_at e, add-sub_cancel_left edges_at e)
