-- Writing a session section by section, and its marks anew.
use Prim.Native.Nat.{ℕ, ◌+◌, ◌<◌, ◌≤◌}
use native.Mathlib.Omega.{arith}
use mathlib.Core.Path.{◌≡◌, refl, sym, ◌∙◌, ap, ap₂, fun_ext}
use mathlib.Core.Bool.{true, false, ◌&&◌}
use mathlib.Core.List.{List, [], ◌∷◌, ◌++◌, append_assoc}
use lib.Dec.{ltb}
use lib.ListN.{length, get_or, set, take, drop, length-append}
use lib.Seq.{take_at, drop_at, drop-drop}
use borrow.Author.Tests.{lt-ltb}
use Rattle.simulation.proofs.Sets.{clash, same, and_make, and_r, refuted}
use Rattle.bits.specs.Word.{members, word}
use Rattle.bits.proofs.Words.{same-members, word-members, zero-members}
use Rattle.session.specs.Limits.{max_states, max_nodes, max_edges, inverted_at, masks_at, marks_at, fixed_size}
use Rattle.session.specs.Trigger.{Trigger, Graph, Marks, states, nodes}
use Rattle.session.specs.Layout.{table, section, mark_word, image, image_for}
use Rattle.session.proofs.Tables.{length-section, table_of, table_same}
use Rattle.session.proofs.Image.{drop-image}

-- ---- all but the marks

-- the sections before the marks
unfoldable pub front : Trigger → Graph → List ℕ
front t g =
    (states t ∷ nodes g ∷ length g.edges ∷ t.inverted ∷ [])
    ++ section max_states t.masks
    ++ section max_states t.values
    ++ section max_states t.links
    ++ section max_nodes g.samples
    ++ section max_edges g.edges

pub length_front : (t : Trigger) (g : Graph) → length (front t g) ≡ marks_at
unfolding front
length_front t g = simp (length-append, length-section)

pub image-front : (t : Trigger) (g : Graph) (m : Marks) → image t g m ≡ front t g ++ table max_nodes (mark_word t g m)
unfolding front image_for
image-front t g m = simp append_assoc

-- ---- the marks anew

-- the marks of a memory that is an image are put in the place of others
pub store_marks : (t : Trigger) (g : Graph) (m m' : Marks) (xs rest : List ℕ) → xs ≡ image t g m ++ rest
    → take marks_at xs ++ (table max_nodes (mark_word t g m') ++ drop fixed_size xs) ≡ image t g m' ++ rest
store_marks t g m m' xs rest e =
    let at_front : take marks_at xs ≡ front t g =
    ap (take marks_at) (e ∙ ap (λ (l : List ℕ). l ++ rest) (image-front t g m) ∙ append_assoc (front t g) (table max_nodes (mark_word t g m)) rest)
    ∙ take_at (front t g) (table max_nodes (mark_word t g m) ++ rest) marks_at (length_front t g) in
    let past : drop fixed_size xs ≡ rest = ap (drop fixed_size) e ∙ drop-image t g m rest in
    ap₂ (λ (a b : List ℕ). a ++ (table max_nodes (mark_word t g m') ++ b)) at_front past
    ∙ sym (append_assoc (front t g) (table max_nodes (mark_word t g m')) rest)
    ∙ ap (λ (l : List ℕ). l ++ rest) (sym (image-front t g m'))

-- a mark word with the members of w is w
mark_word-is : (t : Trigger) (g : Graph) (m : Marks) (v w : ℕ) → ((u : ℕ) → members w u ≡ (ltb u (states t) && (ltb v (nodes g) && m u v)))
    → w ≡ mark_word t g m v
unfolding mark_word
mark_word-is t g m v w h =
    same-members w (word (states t) (λ u. ltb v (nodes g) && m u v))
    (fun_ext (λ u. h u ∙ sym (word-members (states t) (λ u. ltb v (nodes g) && m u v) u)))

-- a table of words that marks states and nodes of the session alone is its mark words
table-words : (t : Trigger) (g : Graph) (ts : List ℕ) → length ts ≡ max_nodes
    → ((u v : ℕ) → members (get_or ts v 0) u ≡ true → (u < states t) × (v < nodes g))
    → ts ≡ table max_nodes (mark_word t g (λ u v. members (get_or ts v 0) u))
table-words t g ts whole inside =
    sym (table_of ts)
    ∙ ap (λ (n : ℕ). table n (λ v. get_or ts v 0)) whole
    ∙ table_same max_nodes (λ v. get_or ts v 0) (mark_word t g (λ u v. members (get_or ts v 0) u))
    (λ v l.
    mark_word-is t g (λ u v. members (get_or ts v 0) u) v (get_or ts v 0)
    (λ u.
    same (members (get_or ts v 0) u) (ltb u (states t) && (ltb v (nodes g) && members (get_or ts v 0) u))
    (λ h. let i = inside u v h in and_make (lt-ltb u (states t) i.0) (and_make (lt-ltb v (nodes g) i.1) h))
    (λ h.
    and_r (ltb v (nodes g)) (members (get_or ts v 0) u)
    (and_r (ltb u (states t)) (ltb v (nodes g) && members (get_or ts v 0) u) h))))

-- no marks are words of zero
pub no_marks : (t : Trigger) (g : Graph) → section max_nodes [] ≡ table max_nodes (mark_word t g (λ u v. false))
unfolding section
no_marks t g =
    table_same max_nodes (λ v. 0) (mark_word t g (λ u v. false))
    (λ v l.
    mark_word-is t g (λ u v. false) v 0
    (λ u. zero-members u ∙ sym (refuted (ltb u (states t) && (ltb v (nodes g) && false)) (λ h. clash (and_r (ltb v (nodes g)) false (and_r (ltb u (states t)) (ltb v (nodes g) && false) h)) refl))))

-- ---- section after section

-- the three counts and the inverted states
pub write_counts : (ys : List ℕ) (a b c d : ℕ) → masks_at ≤ length ys
    → set (set (set (set ys 0 a) 1 b) 2 c) inverted_at d ≡ (a ∷ b ∷ c ∷ d ∷ []) ++ drop masks_at ys
write_counts [] a b c d l = absurd (omega arith)
write_counts (x ∷ []) a b c d l = absurd (omega arith)
write_counts (x ∷ y ∷ []) a b c d l = absurd (omega arith)
write_counts (x ∷ y ∷ z ∷ []) a b c d l = absurd (omega arith)
write_counts (w ∷ x ∷ y ∷ z ∷ ys) a b c d l = refl

-- a section of k places is written from the place p on, in a memory that begins with what is written
pub put_section : (ys xs written part : List ℕ) (p k : ℕ) → xs ≡ written ++ drop p ys → length written ≡ p → length part ≡ k
    → (take p xs ++ (part ++ drop k (drop p xs)) ≡ (written ++ part) ++ drop (p + k) ys) × (length (written ++ part) ≡ p + k)
put_section ys xs written part p k e l n =
    let before : take p xs ≡ written = ap (take p) e ∙ take_at written (drop p ys) p l in
    let rest : drop p xs ≡ drop p ys = ap (drop p) e ∙ drop_at written (drop p ys) p l in (
      ap₂ (λ (a b : List ℕ). a ++ (part ++ drop k b)) before rest
          ∙ ap (λ (b : List ℕ). written ++ (part ++ b)) (drop-drop k p ys)
          ∙ sym (append_assoc written part (drop (p + k) ys)),
      omega (arith, length-append written part),
    )

-- ---- the marks of a table

pub put_marks : (t : Trigger) (g : Graph) (m : Marks) (xs rest ts ys : List ℕ) → xs ≡ image t g m ++ rest → length ts ≡ max_nodes
    → ((u v : ℕ) → members (get_or ts v 0) u ≡ true → (u < states t) × (v < nodes g))
    → ys ≡ ts
    → take marks_at xs ++ (ys ++ drop max_nodes (drop marks_at xs)) ≡ image t g (λ u v. members (get_or ts v 0) u) ++ rest
put_marks t g m xs rest ts ys e whole inside copied =
    ap₂ (λ (a b : List ℕ). take marks_at xs ++ (a ++ b)) (copied ∙ table-words t g ts whole inside) (drop-drop max_nodes marks_at xs)
    ∙ store_marks t g m (λ u v. members (get_or ts v 0) u) xs rest e
