-- The sections of a load, written one after the other.
use Prim.Native.Nat.{ℕ, ◌+◌, ◌≤◌}
use native.Mathlib.Omega.{arith}
use mathlib.Core.Path.{◌≡◌, refl, sym, ◌∙◌, ap}
use mathlib.Core.Bool.{false}
use mathlib.Core.List.{List, [], ◌∷◌, ◌++◌}
use lib.ListN.{length, set, take, drop, length-take, length-drop}
use lib.Seq.{drop_at}
use borrow.Rule.Slice.PartMut.{put_mid}
use Rattle.session.specs.Limits.{fixed_size, inverted_at, masks_at, values_at, links_at, samples_at, edges_at, marks_at, max_edges, max_nodes, max_states}
use Rattle.session.specs.Layout.{numbered, section, image}
use Rattle.session.proofs.Tables.{length-section, length-table}
use Rattle.session.proofs.Stores.{front, image-front, no_marks, write_counts, put_section}
use Rattle.promises.specs.Rules.{Given, given_trigger, given_graph}

-- one section is filled from a source
filled : (ys xs written source part : List ℕ) (p k : ℕ) → xs ≡ written ++ drop p ys → length written ≡ p → p + k ≤ length ys
    → part ≡ section (length (take k (drop p xs))) source
    → (put_mid p k xs part ≡ (written ++ section k source) ++ drop (p + k) ys) × (length (written ++ section k source) ≡ p + k)
filled ys xs written source part p k e l room f =
    let rest : drop p xs ≡ drop p ys = ap (drop p) e ∙ drop_at written (drop p ys) p l in
    let size : length (take k (drop p xs)) ≡ k = length-take k (drop p xs) ∙ omega (arith, ap length rest, length-drop p ys) in
    let is : part ≡ section k source = f ∙ ap (λ (x : ℕ). section x source) size in
    rw is (put_section ys xs written (section k source) p k e l (length-section k source))

-- the sections before the marks are those of the trigger and the graph that are given
front-given : (x : Given)
    → ((((((length x.masks ∷ length x.samples ∷ length x.starts ∷ x.inverted ∷ []) ++ section max_states x.masks) ++ section max_states x.values) ++ section max_states x.links)
    ++ section max_nodes x.samples)
    ++ section max_edges (numbered x.starts x.ends))
    ≡ front (given_trigger x) (given_graph x)
unfolding front
front-given x =
    ap
    (λ (e : ℕ).
    (((((length x.masks ∷ length x.samples ∷ e ∷ x.inverted ∷ []) ++ section max_states x.masks) ++ section max_states x.values) ++ section max_states x.links)
    ++ section max_nodes x.samples)
    ++ section max_edges (numbered x.starts x.ends))
    (sym (length-table (length x.starts) _))

module _ (x : Given) (ys : List ℕ) (long : fixed_size ≤ length ys) (p1 p2 p3 p4 p5 p6 : List ℕ) where
  abbrev x0 : List ℕ
  x0 = set (set (set (set ys 0 (length x.masks)) 1 (length x.samples)) 2 (length x.starts)) inverted_at x.inverted

  abbrev x1 : List ℕ
  x1 = put_mid masks_at max_states x0 p1

  abbrev x2 : List ℕ
  x2 = put_mid values_at max_states x1 p2

  abbrev x3 : List ℕ
  x3 = put_mid links_at max_states x2 p3

  abbrev x4 : List ℕ
  x4 = put_mid samples_at max_nodes x3 p4

  abbrev x5 : List ℕ
  x5 = put_mid edges_at max_edges x4 p5

  -- what is written before each section
  abbrev s0 : List ℕ
  s0 = length x.masks ∷ length x.samples ∷ length x.starts ∷ x.inverted ∷ []

  abbrev s1 : List ℕ
  s1 = s0 ++ section max_states x.masks

  abbrev s2 : List ℕ
  s2 = s1 ++ section max_states x.values

  abbrev s3 : List ℕ
  s3 = s2 ++ section max_states x.links

  abbrev s4 : List ℕ
  s4 = s3 ++ section max_nodes x.samples

  abbrev s5 : List ℕ
  s5 = s4 ++ section max_edges (numbered x.starts x.ends)

  pub sections_written : p1 ≡ section (length (take max_states (drop masks_at x0))) x.masks
      → p2 ≡ section (length (take max_states (drop values_at x1))) x.values
      → p3 ≡ section (length (take max_states (drop links_at x2))) x.links
      → p4 ≡ section (length (take max_nodes (drop samples_at x3))) x.samples
      → p5 ≡ section (length (take max_edges (drop edges_at x4))) (numbered x.starts x.ends)
      → p6 ≡ section (length (take max_nodes (drop marks_at x5))) []
      → put_mid marks_at max_nodes x5 p6 ≡ image (given_trigger x) (given_graph x) (λ u v. false) ++ drop fixed_size ys
  sections_written f1 f2 f3 f4 f5 f6 =
      let w1 =
      filled ys x0 s0 x.masks p1 masks_at max_states (write_counts ys (length x.masks) (length x.samples) (length x.starts) x.inverted (omega arith)) refl
      (omega arith) f1 in
      let w2 = filled ys x1 s1 x.values p2 values_at max_states w1.0 w1.1 (omega arith) f2 in
      let w3 = filled ys x2 s2 x.links p3 links_at max_states w2.0 w2.1 (omega arith) f3 in
      let w4 = filled ys x3 s3 x.samples p4 samples_at max_nodes w3.0 w3.1 (omega arith) f4 in
      let w5 = filled ys x4 s4 (numbered x.starts x.ends) p5 edges_at max_edges w4.0 w4.1 (omega arith) f5 in
      let w6 = filled ys x5 s5 [] p6 marks_at max_nodes w5.0 w5.1 (omega arith) f6 in
      w6.0 ∙ ap (λ (l : List ℕ). l ++ drop fixed_size ys) whole
    where
      whole : s5 ++ section max_nodes [] ≡ image (given_trigger x) (given_graph x) (λ u v. false)
      whole =
          ap (λ (l : List ℕ). l ++ section max_nodes []) (front-given x)
          ∙ ap (λ (l : List ℕ). front (given_trigger x) (given_graph x) ++ l) (no_marks (given_trigger x) (given_graph x))
          ∙ sym (image-front (given_trigger x) (given_graph x) (λ u v. false))
