-- Marks that are not admitted.
use Prim.Native.Nat.{ℕ, ◌+◌, ◌-◌, ◌/◌, ◌%◌, ◌^◌, ◌<◌, ◌≤◌}
use native.Mathlib.Nat.{zero-add, div-one, mod-eq_of_lt}
use native.Mathlib.Omega.{arith}
use mathlib.Core.Path.{◌≡◌, refl, sym, ap, ap₂, fun_ext, ◌∙◌}
use mathlib.Core.Bool.{Bool, true, false, not, ◌&&◌, ◌||◌}
use mathlib.Core.List.{List}
use lib.ListN.{length, get_or, take, drop, length-drop}
use lib.Seq.{length-take-le, get_or-take, get_or-drop}
use Rattle.simulation.specs.Sets.{Set, any_below, all_below}
use Rattle.simulation.proofs.Sets.{clash, refuted, or_l, not_make, any_make, all_make, not_any}
use Rattle.simulation.proofs.Edges.{all_same, any_same}
use Rattle.bits.specs.Word.{members, half_bits}
use Rattle.bits.proofs.Words.{shifted_members, part-members}
use Rattle.bits.proofs.Gathers.{gathers}
use Rattle.session.specs.Limits.{word_bits}
use Rattle.session.specs.Trigger.{matches, accepts}
use Rattle.session.specs.Layout.{below}
use Rattle.session.specs.Tests.{sparse, halves}
use Rattle.session.proofs.Tables.{length-table, get_or-table, table_same, table_of, below-take, all-add}
use Rattle.pair_tables.specs.Tables.{turned_states}
use Rattle.pair_tables.proofs.Tabling.{turned-admits}

not-and : (a b : Bool) → not (a && not b) ≡ (not a || b)
not-and true true = refl
not-and true false = refl
not-and false b = refl

module _ (samples marks : List ℕ) where
  -- a mark of u at v, where the sample fails the test
  abbrev pub stray : Set → ℕ → Set
  stray test v u = members (get_or marks v 0) u && not (test (get_or samples v 0))

  module _ (test : Set) where
    -- a state has none just where its marks pass
    pub sparse-stray : (all u : ℕ) → members all ≡ gathers (length marks) (stray test) → not (members all u) ≡ sparse samples marks test u
    unfolding sparse
    sparse-stray all u e =
        ap (λ (X : Set). not (X u)) e
        ∙ not_any (length marks) (λ v. stray test v u)
        ∙ all_same (length marks) (λ v. not (stray test v u)) (λ v. not (members (get_or marks v 0) u) || test (get_or samples v 0))
        (λ v l. not-and (members (get_or marks v 0) u) (test (get_or samples v 0)))

    -- and so do those of a state that has none at all
    pub sparse-none : (u : ℕ) → gathers (length marks) (λ v. members (get_or marks v 0)) u ≡ false → sparse samples marks test u ≡ true
    unfolding sparse
    sparse-none u h =
        all_make (length marks) (λ v. not (members (get_or marks v 0) u) || test (get_or samples v 0))
        (λ v l.
        or_l (test (get_or samples v 0))
        (not_make
        (refuted (members (get_or marks v 0) u)
        (λ m. clash (any_make (length marks) (λ v. members (get_or marks v 0) u) v l m) h))))

  -- two tests that agree
  pub sparse-same : (test test' : Set) → ((x : ℕ) → test x ≡ test' x) → (u : ℕ) → sparse samples marks test u ≡ sparse samples marks test' u
  sparse-same test test' h u = ap (λ (X : Set). sparse samples marks X u) (fun_ext h)

  -- all states, turned round as inversion and mask tell
  pub sparse-turned : (masks values : List ℕ) (inverted turned : ℕ) → members turned ≡ turned_states masks inverted
      → all_below (length masks) (λ u. sparse samples marks (matches word_bits (members turned u) (get_or masks u 0) (get_or values u 0)) u)
      ≡ all_below (length masks) (λ u. sparse samples marks (accepts word_bits (members inverted u) (get_or masks u 0) (get_or values u 0)) u)
  sparse-turned masks values inverted turned e =
      ap (all_below (length masks))
      (fun_ext
      (λ u.
      sparse-same (matches word_bits (members turned u) (get_or masks u 0) (get_or values u 0))
      (accepts word_bits (members inverted u) (get_or masks u 0) (get_or values u 0))
      (turned-admits masks inverted turned e u (get_or values u 0))
      u))

-- ---- halves of the marks

module _ (marks : List ℕ) (from : ℕ) where
  pub halves_long : length (halves from marks) ≡ length marks
  halves_long = length-table (length marks) (λ i. get_or marks i 0 / 2 ^ from % 2 ^ half_bits)

  half_member : (v : ℕ) → v < length marks → (u : ℕ) → u < half_bits → members (get_or (halves from marks) v 0) u ≡ members (get_or marks v 0) (from + u)
  half_member v k u l =
      ap (λ (w : ℕ). members w u) (get_or-table (length marks) (λ i. get_or marks i 0 / 2 ^ from % 2 ^ half_bits) v k)
      ∙ part-members half_bits from (get_or marks v 0) u l

  -- the lower half of a small word is that word
  pub halves_small : from ≡ 0 → below (2 ^ half_bits) marks ≡ true → halves from marks ≡ marks
  halves_small z h =
      table_same (length marks) (λ i. get_or marks i 0 / 2 ^ from % 2 ^ half_bits) (λ i. get_or marks i 0)
      (λ i l. rw z (ap (λ (x : ℕ). x % 2 ^ half_bits) (div-one (get_or marks i 0)) ∙ mod-eq_of_lt (below-take (2 ^ half_bits) marks h i l)))
      ∙ table_of marks

  -- half of their union says whether a state has a mark
  pub used_half : (used : ℕ) → members used ≡ gathers (length marks) (λ v. members (get_or marks v 0)) → (u : ℕ) → u < half_bits
      → members (used / 2 ^ from) u ≡ gathers (length (halves from marks)) (λ v. members (get_or (halves from marks) v 0)) u
  used_half used e u l =
      shifted_members from used u
      ∙ ap (λ (X : Set). X (from + u)) e
      ∙ any_same (length marks) (λ v. members (get_or marks v 0) (from + u)) (λ v. members (get_or (halves from marks) v 0) u)
      (λ v k. sym (half_member v k u l))
      ∙ ap (λ (n : ℕ). any_below n (λ v. members (get_or (halves from marks) v 0) u)) (sym halves_long)

  -- a state is tested by its half of the words
  pub sparse-half : (samples : List ℕ) (test : Set) (u : ℕ) → u < half_bits → sparse samples (halves from marks) test u ≡ sparse samples marks test (from + u)
  unfolding sparse
  sparse-half samples test u l =
      ap (λ (n : ℕ). all_below n (λ v. not (members (get_or (halves from marks) v 0) u) || test (get_or samples v 0))) halves_long
      ∙ all_same (length marks) (λ v. not (members (get_or (halves from marks) v 0) u) || test (get_or samples v 0))
      (λ v. not (members (get_or marks v 0) (from + u)) || test (get_or samples v 0))
      (λ v k. ap (λ (b : Bool). not b || test (get_or samples v 0)) (half_member v k u l))

-- ---- the states, tested in two parts

module _ (samples marks : List ℕ) (turned : ℕ) where
  -- the marks of the state `first + u`, of which these are the masks and values from `first` on, are admitted
  abbrev pub admitted : List ℕ → List ℕ → ℕ → Set
  admitted masks values first u =
      sparse samples marks (matches word_bits (members turned (first + u)) (get_or masks u 0) (get_or values u 0)) (first + u)

  -- all of them
  abbrev all_of : List ℕ → List ℕ → Set
  all_of masks values u = sparse samples marks (matches word_bits (members turned u) (get_or masks u 0) (get_or values u 0)) u

  module _ (masks values : List ℕ) where
    pub admitted-whole : all_below (length masks) (admitted masks values 0) ≡ all_below (length masks) (all_of masks values)
    admitted-whole =
        ap (all_below (length masks))
        (fun_ext (λ u. ap (λ (x : ℕ). sparse samples marks (matches word_bits (members turned x) (get_or masks u 0) (get_or values u 0)) x) (zero-add u)))

    -- the first k, and the others
    pub admitted_parts : (k : ℕ) → k ≤ length masks
        → (all_below (length (take k masks)) (admitted (take k masks) (take k values) 0)
        && all_below (length (drop k masks)) (admitted (drop k masks) (drop k values) k))
        ≡ all_below (length masks) (all_of masks values)
    admitted_parts k l =
        ap₂ ◌&&◌
        (ap (λ (n : ℕ). all_below n (admitted (take k masks) (take k values) 0)) (length-take-le k masks l)
        ∙ all_same k (admitted (take k masks) (take k values) 0) (all_of masks values)
        (λ u h. rw (zero-add u, get_or-take k masks u 0 h, get_or-take k values u 0 h) refl))
        (ap (λ (n : ℕ). all_below n (admitted (drop k masks) (drop k values) k)) (length-drop k masks)
        ∙ all_same (length masks - k) (admitted (drop k masks) (drop k values) k) (λ u. all_of masks values (k + u))
        (λ u h. rw (get_or-drop k masks u 0, get_or-drop k values u 0) refl))
        ∙ sym (all-add (length masks - k) k (all_of masks values))
        ∙ ap (λ (n : ℕ). all_below n (all_of masks values)) size
      where
        size : k + (length masks - k) ≡ length masks
        size = omega arith
