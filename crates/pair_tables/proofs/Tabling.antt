-- Loops over a table or a set: a set that gains what passes a test, a table changed word by word, the pairs counted node by node.
use Prim.Native.Nat.{ℕ, zero, suc, ◌+◌, ◌*◌, ◌/◌, ◌%◌, ◌^◌, ◌<◌, ◌≤◌}
use native.Mathlib.Numerals.{add-one}
use native.Mathlib.Omega.{arith}
use mathlib.Core.Path.{◌≡◌, refl, sym, ap, ap₂, ◌∙◌, fun_ext}
use mathlib.Core.Logic.{⊎_elim}
use mathlib.Core.Bool.{Bool, true, false, not, ◌&&◌, and-false, beq}
use mathlib.Core.List.{List}
use lib.Arith.{digits_mod, digits_div}
use lib.Bits.{bit_and, bit_xor}
use lib.Dec.{ltb, eqb}
use lib.ListN.{length, get_or, get_or-eq_default}
use borrow.Author.Tests.{ltb-false, lt-ltb, eqb-true, eqb-false, eq-eqb, ne_eqb}
use Rattle.simulation.specs.Sets.{Set, count}
use Rattle.simulation.proofs.Sets.{clash, refuted, split, count-le}
use Rattle.simulation.proofs.Loops.{count_same, count_beyond, total, count-rows}
use Rattle.simulation.proofs.Search.{lt-or-le}
use Rattle.bits.specs.Word.{members, set_bits}
use Rattle.bits.proofs.Words.{zero-members, and-members}
use Rattle.session.specs.Limits.{word_bits, max_states}
use Rattle.session.specs.Trigger.{agrees, matches, accepts}
use Rattle.session.proofs.Admission.{agrees_masked, matches_differs, accepts-turned}
use Rattle.pair_tables.specs.Tables.{marked, turned_states}

-- words of zero mark nothing
pub marked-none : (ts : List ℕ) → ((v : ℕ) → get_or ts v 0 ≡ 0) → marked ts ≡ (λ u v. false)
marked-none ts h = fun_ext (λ u. fun_ext (λ v. ap (λ (w : ℕ). members w u) (h v) ∙ zero-members u))

-- nor does a table past its end
pub unmarked : (ts : List ℕ) (u v : ℕ) → length ts ≤ v → marked ts u v ≡ false
unmarked ts u v h = ap (λ (w : ℕ). members w u) (get_or-eq_default ts 0 h) ∙ zero-members u

module _ (masks values : List ℕ) (sample : ℕ) where
  abbrev pub agreeing : Set
  agreeing u = agrees word_bits (get_or masks u 0) (get_or values u 0) sample

  module _ (u : ℕ) (small : get_or masks u 0 < 2 ^ word_bits) where
    abbrev tested : ℕ
    tested = bit_and (bit_xor (get_or values u 0) sample) (get_or masks u 0)

    pub agreeing_yes : bit_and (bit_xor (get_or values u 0) sample) (get_or masks u 0) ≡ 0 → agreeing u ≡ true
    agreeing_yes e = sym (agrees_masked word_bits (get_or masks u 0) (get_or values u 0) sample small) ∙ eq-eqb tested 0 e

    pub agreeing_no : (bit_and (bit_xor (get_or values u 0) sample) (get_or masks u 0) ≡ 0 → ⊥) → agreeing u ≡ false
    agreeing_no e = sym (agrees_masked word_bits (get_or masks u 0) (get_or values u 0) sample small) ∙ ne_eqb tested 0 e

  -- those of the first n that agree, turned round at some of these
  pub agreeing-turned : (n turned : ℕ) (all answer : Set) → ((u : ℕ) → members turned u ≡ true → u < n) → all ≡ (λ u. ltb u n && agreeing u)
      → answer ≡ (λ u. not (beq (all u) (members turned u)))
      → answer ≡ (λ u. ltb u n && matches word_bits (members turned u) (get_or masks u 0) (get_or values u 0) sample)
  agreeing-turned n turned all answer few e d =
      fun_ext
      (λ u.
      ap (λ (X : Set). X u) d
      ∙ ap (λ (X : Set). not (beq (X u) (members turned u))) e
      ∙ ⊎_elim
      (λ (l : ltb u n ≡ true). rw l (matches_differs word_bits (members turned u) (get_or masks u 0) (get_or values u 0) sample))
      (λ (l : ltb u n ≡ false).
      rw (l, refuted (members turned u) (λ m. clash (lt-ltb u n (few u m)) l)))
      (split (ltb u n)))

-- ---- which states are turned round

module _ (masks : List ℕ) where
  abbrev pub wanting : Set
  wanting u = not (eqb (get_or masks u 0) 0)

  -- those of the states that want something and are inverted; past the last there is no mask
  pub turned_are : (n inverted w : ℕ) → n ≡ length masks → members w ≡ (λ u. ltb u n && wanting u)
      → members (bit_and inverted w) ≡ turned_states masks inverted
  turned_are n inverted w l e =
      fun_ext
      (λ u.
      and-members inverted w u
      ∙ ap (λ (X : Set). members inverted u && X u) e
      ∙ ⊎_elim
      (λ (h : ltb u n ≡ true). rw h)
      (λ (h : ltb u n ≡ false).
      let beyond : length masks ≤ u = omega (arith, ltb-false u n h) in
      rw (h, get_or-eq_default masks 0 beyond))
      (split (ltb u n)))

  -- with them the states admit what they do
  pub turned-admits : (inverted turned : ℕ) → members turned ≡ turned_states masks inverted → (u value sample : ℕ)
      → matches word_bits (members turned u) (get_or masks u 0) value sample ≡ accepts word_bits (members inverted u) (get_or masks u 0) value sample
  turned-admits inverted turned e u value sample =
      ap (λ (X : Set). matches word_bits (X u) (get_or masks u 0) value sample) e
      ∙ sym (accepts-turned word_bits (members inverted u) (get_or masks u 0) value sample)

  -- and they are states
  pub turned-below : (inverted turned : ℕ) → members turned ≡ turned_states masks inverted → (u : ℕ) → members turned u ≡ true → u < length masks
  turned-below inverted turned e u m =
      ⊎_elim
      (λ (l : u < length masks). l)
      (λ (l : length masks ≤ u).
      clash m
      (ap (λ (X : Set). X u) e
      ∙ rw (get_or-eq_default masks 0 l) (and-false (members inverted u))))
      (lt-or-le u (length masks))

  pub turned_none : (inverted : ℕ) → inverted ≡ 0 → members 0 ≡ turned_states masks inverted
  turned_none inverted e = fun_ext (λ u. rw (e, zero-members u))

-- ---- each word is changed by the other table's of its node; past the end neither table has a pair

pub changed_words : (op : Bool → Bool → Bool) (ts os ts' : List ℕ) → op false false ≡ false → length os ≡ length ts → length ts' ≡ length ts
    → ((v : ℕ) → v < length ts → members (get_or ts' v 0) ≡ (λ u. op (marked ts u v) (marked os u v)))
    → (length ts' ≡ length ts) × ((u v : ℕ) → marked ts' u v ≡ op (marked ts u v) (marked os u v))
changed_words op ts os ts' off same long each =
    (long, λ u v. ⊎_elim (λ (l : v < length ts). ap (λ (X : Set). X u) (each v l)) (λ (l : length ts ≤ v). past u v l) (lt-or-le v (length ts)))
  where
    past : (u v : ℕ) → length ts ≤ v → marked ts' u v ≡ op (marked ts u v) (marked os u v)
    past u v l = rw (unmarked ts u v l, unmarked os u v (omega arith), unmarked ts' u v (omega arith)) (sym off)

-- ---- the pairs at the nodes below v

module _ (ts : List ℕ) (n : ℕ) where
  abbrev pub pairs_to : ℕ → ℕ
  pairs_to v = count (v * n) (λ p. marked ts (p % n) (p / n))

  pub pairs-none : 0 ≡ pairs_to 0
  unfolding count total
  pairs-none = sym (count-rows n 0 (λ p. marked ts (p % n) (p / n)))

  module _ (few : n ≤ max_states) (inside : (u v : ℕ) → marked ts u v ≡ true → u < n) (v : ℕ) where
    row : count set_bits (members (get_or ts v 0)) ≡ count n (members (get_or ts v 0))
    row = count_beyond n set_bits (members (get_or ts v 0)) (λ u m. inside u v m) (omega arith)

    pub row-few : count set_bits (members (get_or ts v 0)) ≤ max_states
    row-few = omega (arith, row, count-le n (members (get_or ts v 0)))

    pub pairs-more : pairs_to (v + 1) ≡ pairs_to v + count set_bits (members (get_or ts v 0))
    unfolding total
    pairs-more =
        let X : Set = λ p. marked ts (p % n) (p / n) in
        let here : count n (λ u. X (v * n + u)) ≡ count n (members (get_or ts v 0)) =
        count_same n (λ u. X (v * n + u)) (members (get_or ts v 0)) (λ u l. ap₂ (marked ts) (digits_mod v l) (digits_div v l)) in
        let all : count (suc v * n) X ≡ count n (λ u. X (v * n + u)) + total v (λ w. count n (λ u. X (w * n + u))) = count-rows n (suc v) X in
        let before : count (v * n) X ≡ total v (λ w. count n (λ u. X (w * n + u))) = count-rows n v X in
        rw (add-one v) (omega (arith, all, before, here, row))

  -- one word alone: its pairs are all
  module _ (few : n ≤ max_states) (inside : (u v : ℕ) → marked ts u v ≡ true → u < n) (a : ℕ) (alone : (v : ℕ) → (v ≡ a → ⊥) → get_or ts v 0 ≡ 0) where
    no_member : count set_bits (members 0) ≡ 0
    unfolding count
    no_member = refl

    idle : (v : ℕ) → (v ≡ a → ⊥) → pairs_to (v + 1) ≡ pairs_to v
    idle v ne =
        let no-pair : count set_bits (members (get_or ts v 0)) ≡ 0 = ap (λ (w : ℕ). count set_bits (members w)) (alone v ne) ∙ no_member in
        omega (arith, pairs-more few inside v, no-pair)

    up_to : (k : ℕ) → k ≤ a → pairs_to k ≡ 0
    up_to zero l = sym pairs-none
    up_to (suc k) l = ap pairs_to (sym (add-one k)) ∙ idle k (λ e. omega (arith, l, e)) ∙ up_to k (omega (arith, l))

    pub pairs_single : (k : ℕ) → a < k → pairs_to k ≡ count set_bits (members (get_or ts a 0))
    pairs_single zero l = absurd (omega (arith, l))
    pairs_single (suc k) l =
        ap pairs_to (sym (add-one k))
        ∙ ⊎_elim
        (λ (e : eqb k a ≡ true). rw (eqb-true k a e) (omega (arith, pairs-more few inside a, up_to a (omega arith))))
        (λ (e : eqb k a ≡ false). let ne = eqb-false k a e in idle k ne ∙ pairs_single k (omega (arith, l, ne)))
        (split (eqb k a))
