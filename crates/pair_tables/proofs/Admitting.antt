-- The table of admitted pairs as it is filled: node by node for a state, and state by state.
use Prim.Native.Nat.{ℕ, zero, suc, ◌+◌, ◌*◌, ◌/◌, ◌%◌, ◌^◌, ◌<◌, ◌≤◌}
use native.Mathlib.Nat.{add-zero}
use native.Mathlib.Numerals.{add-one}
use native.Mathlib.Omega.{arith}
use mathlib.Core.Path.{◌≡◌, refl, sym, ap, ap₂, ◌∙◌}
use mathlib.Core.Logic.{⊎_elim}
use mathlib.Core.Bool.{Bool, true, false, ◌&&◌, ◌||◌, cond, and-true, and-false, or-false}
use mathlib.Core.List.{List}
use lib.Arith.{digits_mod, digits_div}
use lib.Bits.{bit_or, or_zero_r}
use lib.Dec.{ltb, eqb}
use lib.ListN.{length, get_or, set, length-set}
use lib.Seq.{get_or-set_same, get_or-set_other, set-get_or}
use borrow.Author.Tests.{le-ltb, eqb-true, eqb-false}
use Rattle.simulation.specs.Sets.{Set, also, count}
use Rattle.simulation.proofs.Sets.{split, count-le}
use Rattle.simulation.proofs.Loops.{count_same, total, count-rows}
use Rattle.bits.specs.Word.{members}
use Rattle.bits.proofs.Words.{zero-members, also-members}
use Rattle.session.specs.Limits.{word_bits, max_nodes}
use Rattle.session.specs.Trigger.{matches}
use Rattle.pair_tables.specs.Tables.{marked, Admits, Admitted}
use Rattle.simulation.proofs.Gains.{more-here, more_other, row_more}

-- ---- a state: the nodes below k are seen

module _ (samples : List ℕ) (turned : Bool) (mask value u : ℕ) (ts : List ℕ) where
  abbrev accepted : Set
  accepted v = matches word_bits turned mask value (get_or samples v 0)

  pub record Seen (k n : ℕ) (ts' : List ℕ) : Type 0 where
    pub long : length ts' ≡ length ts
    pub words : (x v : ℕ) → marked ts' x v ≡ (marked ts x v || (eqb x u && (ltb v k && accepted v)))
    pub counted : n ≡ count k accepted

  pub seen_start : Seen 0 0 ts
  unfolding count
  seen_start = record {
    long = refl;
    words = λ x v. rw (le-ltb v 0 (omega arith), and-false, or-false);
    counted = refl;
  }

  pub seen_end : {n : ℕ} {ts' : List ℕ} → Seen (length samples) n ts' → Admits samples turned mask value u ts n ts'
  seen_end s = record { long = s.long; words = s.words; counted = s.counted }

  module _ {k n : ℕ} {ts' : List ℕ} (s : Seen k n ts') where
    seen-take : (w : ℕ) → k < length ts' → accepted k ≡ true → members w ≡ also (members (get_or ts' k 0)) u
        → Seen (k + 1) (n + 1) (set ts' k w)
    unfolding count
    seen-take w l taken m = record {
      long = length-set ts' k w ∙ s.long;
      words = λ x v. ⊎_elim (λ (t : eqb v k ≡ true). here x v (eqb-true v k t)) (λ (t : eqb v k ≡ false). away x v (eqb-false v k t)) (split (eqb v k));
      counted = rw (add-one k, taken) (omega (arith, s.counted));
    }
      where
        here : (x v : ℕ) → v ≡ k → marked (set ts' k w) x v ≡ (marked ts x v || (eqb x u && (ltb v (k + 1) && accepted v)))
        here x v q =
            rw (q, get_or-set_same ts' k w 0 l, more-here k, taken, ap (λ (X : Set). X x) m, s.words x k, le-ltb k k (omega arith), and-false, or-false, and-true)

        away : (x v : ℕ) → (v ≡ k → ⊥) → marked (set ts' k w) x v ≡ (marked ts x v || (eqb x u && (ltb v (k + 1) && accepted v)))
        away x v q = rw (get_or-set_other ts' k v w 0 q, more_other v k q) (s.words x v)

    seen_pass : accepted k ≡ false → Seen (k + 1) n ts'
    unfolding count
    seen_pass left = record {
      long = s.long;
      words = λ x v. ⊎_elim (λ (t : eqb v k ≡ true). here x v (eqb-true v k t)) (λ (t : eqb v k ≡ false). away x v (eqb-false v k t)) (split (eqb v k));
      counted = rw (add-one k, left) (omega (arith, s.counted));
    }
      where
        here : (x v : ℕ) → v ≡ k → marked ts' x v ≡ (marked ts x v || (eqb x u && (ltb v (k + 1) && accepted v)))
        here x v q = rw (q, left, and-false) (rw (left, and-false) at (s.words x k))

        away : (x v : ℕ) → (v ≡ k → ⊥) → marked ts' x v ≡ (marked ts x v || (eqb x u && (ltb v (k + 1) && accepted v)))
        away x v q = rw (more_other v k q) (s.words x v)

    -- one store serves both: a bit that is chosen by the test
    pub seen_step : (bit w more : ℕ) (hit : Bool) → k < length ts' → hit ≡ accepted k → bit ≡ 2 ^ u
        → w ≡ cond hit bit 0
        → more ≡ cond hit 1 0
        → Seen (k + 1) (n + more) (set ts' k (bit_or (get_or ts' k 0) w))
    seen_step bit w more true l h b p q =
        rw (p, q, b) (seen-take (bit_or (get_or ts' k 0) (2 ^ u)) l (sym h) (also-members (get_or ts' k 0) u))
    seen_step bit w more false l h b p q = rw (p, q, or_zero_r (get_or ts' k 0), set-get_or ts' k 0, add-zero) (seen_pass (sym h))

-- a picked number is at most that number
pub picked_le : (test : Bool) (w n : ℕ) → w ≡ cond test n 0 → w ≤ n
picked_le true w n e = omega arith
picked_le false w n e = omega arith

-- ---- two sums change places

total-none : (n : ℕ) → total n (λ u. 0) ≡ 0
unfolding total
total-none zero = refl
total-none (suc n) = omega (arith, total-none n)

total-add : (n : ℕ) (f g : ℕ → ℕ) → total n (λ u. f u + g u) ≡ total n f + total n g
unfolding total
total-add zero f g = refl
total-add (suc n) f g = omega (arith, total-add n f g)

total-same : (n : ℕ) (f g : ℕ → ℕ) → ((u : ℕ) → f u ≡ g u) → total n f ≡ total n g
unfolding total
total-same zero f g h = refl
total-same (suc n) f g h = omega (arith, h n, total-same n f g h)

total-count : (n : ℕ) (X : Set) → total n (λ u. cond (X u) 1 0) ≡ count n X
unfolding total count
total-count zero X = refl
total-count (suc n) X = omega (arith, total-count n X)

total_swap : (m n : ℕ) (A : ℕ → ℕ → Bool) → total m (λ v. count n (λ u. A u v)) ≡ total n (λ u. count m (λ v. A u v))
unfolding total count
total_swap zero n A = sym (total-none n)
total_swap (suc m) n A =
    omega (
      arith,
      total-add n (λ u. cond (A u m) 1 0) (λ u. count m (λ v. A u v)),
      total-count n (λ u. A u m),
      total_swap m n A,
    )

-- ---- all states: those below k are put in

module _ (masks values : List ℕ) (turned : ℕ) (samples : List ℕ) where
  abbrev admits-at : ℕ → ℕ → Bool
  admits-at u v = matches word_bits (members turned u) (get_or masks u 0) (get_or values u 0) (get_or samples v 0)

  abbrev rows : ℕ → ℕ
  rows u = count (length samples) (λ v. admits-at u v)

  pub record Filled (k n : ℕ) (ts : List ℕ) : Type 0 where
    pub long : length ts ≡ max_nodes
    pub words : (u v : ℕ) → marked ts u v ≡ (ltb u k && (ltb v (length samples) && admits-at u v))
    pub counted : n ≡ total k rows

  pub admits-few : {k n : ℕ} {ts ts' : List ℕ} → Admits samples (members turned k) (get_or masks k 0) (get_or values k 0) k ts n ts' → n ≤ length samples
  admits-few {k} a = omega (arith, a.counted, count-le (length samples) (λ v. admits-at k v))

  pub filled-start : {ts : List ℕ} → length ts ≡ max_nodes → ((v : ℕ) → get_or ts v 0 ≡ 0) → Filled 0 0 ts
  unfolding total
  filled-start l z = record {
    long = l;
    words = λ u v. rw (z v, zero-members u, le-ltb u 0 (omega arith));
    counted = refl;
  }

  pub filled_more : {k n n' : ℕ} {ts ts' : List ℕ} → Filled k n ts → Admits samples (members turned k) (get_or masks k 0) (get_or values k 0) k ts n' ts'
      → Filled (k + 1) (n + n') ts'
  unfolding total
  filled_more {k} {n} {n'} {ts} {ts'} s a = record {
    long = a.long ∙ s.long;
    words =
        row_more (λ u v. ltb v (length samples) && admits-at u v) (marked ts) (marked ts') k s.words a.words;
    counted = rw (add-one k) (omega (arith, s.counted, a.counted));
  }

  pub filled-end : {n : ℕ} {ts : List ℕ} → Filled (length masks) n ts → Admitted masks values turned samples n ts
  filled-end s = record {
    long = s.long;
    words = s.words;
    counted = s.counted ∙ sym (pairs (length samples) (length masks));
  }
    where
      pairs : (m n : ℕ) → count (m * n) (λ p. admits-at (p % n) (p / n)) ≡ total n (λ u. count m (λ v. admits-at u v))
      pairs m n =
          count-rows n m (λ p. admits-at (p % n) (p / n))
          ∙ total-same m (λ v. count n (λ u. admits-at ((v * n + u) % n) ((v * n + u) / n))) (λ v. count n (λ u. admits-at u v))
          (λ v.
          count_same n (λ u. admits-at ((v * n + u) % n) ((v * n + u) / n)) (λ u. admits-at u v)
          (λ u l. ap₂ admits-at (digits_mod v l) (digits_div v l)))
          ∙ total_swap m n admits-at
