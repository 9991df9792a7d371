-- The nodes that wait: one put in or taken out, and the lowest.
use Prim.Native.Nat.{ℕ, ◌+◌, ◌*◌, ◌/◌, ◌%◌, ◌<◌, ◌≤◌}
use native.Mathlib.Omega.{arith}
use mathlib.Core.Path.{◌≡◌, sym, ap, fun_ext, ◌∙◌}
use mathlib.Core.Logic.{⊎_elim}
use mathlib.Core.Bool.{Bool, true, false, not, ◌&&◌, ◌||◌, and-true, or-false}
use mathlib.Core.List.{List}
use lib.Dec.{eqb}
use lib.ListN.{length, get_or, set}
use lib.Seq.{get_or-set_same, get_or-set_other}
use borrow.Author.Tests.{eqb-true, eqb-false, eq-eqb, ne_eqb}
use Rattle.simulation.specs.Sets.{Set, also, without}
use Rattle.simulation.specs.Search.{first}
use Rattle.simulation.proofs.Sets.{clash, split, same}
use Rattle.simulation.proofs.Search.{lt-or-le, first-le, first-before, first-at}
use Rattle.bits.specs.Word.{members, set_bits}
use Rattle.bits.proofs.Counts.{Lowest}
use Rattle.worklist.specs.Waiting.{waits, waiting_words}
use Rattle.session.specs.Limits.{max_nodes}

-- ---- one node put in or taken out: its word is written

module _ (ws : List ℕ) (v w : ℕ) (l : v / set_bits < length ws) where
  waits-set : (B : Bool → Bool → Bool) → ((b : Bool) → B b false ≡ b)
      → members w ≡ (λ i. B (members (get_or ws (v / set_bits) 0) i) (eqb i (v % set_bits)))
      → waits (set ws (v / set_bits) w) ≡ (λ x. B (waits ws x) (eqb x v))
  waits-set B still e =
      fun_ext
      (λ x.
      ⊎_elim
      (λ (t : eqb (x / set_bits) (v / set_bits) ≡ true). here x (eqb-true (x / set_bits) (v / set_bits) t))
      (λ (t : eqb (x / set_bits) (v / set_bits) ≡ false). away x (eqb-false (x / set_bits) (v / set_bits) t))
      (split (eqb (x / set_bits) (v / set_bits))))
    where
      here : (x : ℕ) → x / set_bits ≡ v / set_bits → waits (set ws (v / set_bits) w) x ≡ B (waits ws x) (eqb x v)
      here x h =
          let word : get_or (set ws (v / set_bits) w) (x / set_bits) 0 ≡ w =
          ap (λ (k : ℕ). get_or (set ws (v / set_bits) w) k 0) h ∙ get_or-set_same ws (v / set_bits) w 0 l in
          let node : eqb (x % set_bits) (v % set_bits) ≡ eqb x v =
          same (eqb (x % set_bits) (v % set_bits)) (eqb x v)
          (λ t. let k = eqb-true (x % set_bits) (v % set_bits) t in eq-eqb x v (omega arith))
          (λ t. let k = eqb-true x v t in eq-eqb (x % set_bits) (v % set_bits) (omega arith)) in
          ap (λ (k : ℕ). members k (x % set_bits)) word
          ∙ ap (λ (X : Set). X (x % set_bits)) e
          ∙ rw (node, h)

      away : (x : ℕ) → (x / set_bits ≡ v / set_bits → ⊥) → waits (set ws (v / set_bits) w) x ≡ B (waits ws x) (eqb x v)
      away x h =
          let other : eqb x v ≡ false = ne_eqb x v (λ (k : x ≡ v). h (omega arith)) in
          ap (λ (k : ℕ). members k (x % set_bits)) (get_or-set_other ws (v / set_bits) (x / set_bits) w 0 h)
          ∙ rw other (sym (still (waits ws x)))

  pub waits-also : members w ≡ also (members (get_or ws (v / set_bits) 0)) (v % set_bits) → waits (set ws (v / set_bits) w) ≡ also (waits ws) v
  waits-also e = waits-set ◌||◌ or-false e

  pub waits-without : members w ≡ without (members (get_or ws (v / set_bits) 0)) (v % set_bits)
      → waits (set ws (v / set_bits) w) ≡ without (waits ws) v
  waits-without e = waits-set (λ b t. b && not t) and-true e

-- ---- the lowest

-- the first index is the one at which P holds, and below which it does not; or the end
pub first-is : (P : Set) (n r : ℕ) → r ≤ n → (r < n → P r ≡ true) → ((k : ℕ) → k < r → P k ≡ false) → first P 0 n ≡ r
first-is P n r h at before =
    ⊎_elim
    (λ (a : first P 0 n < r). clash (first-at P 0 n (omega arith) (omega arith)) (before (first P 0 n) a))
    (λ (a : r ≤ first P 0 n).
    ⊎_elim
    (λ (b : r < first P 0 n). clash (at (omega (arith, first-le P 0 n (omega arith)))) (first-before P 0 n r (omega arith) b))
    (λ (b : first P 0 n ≤ r). omega arith)
    (lt-or-le r (first P 0 n)))
    (lt-or-le (first P 0 n) r)

-- none waits below v
abbrev pub Idle : List ℕ → ℕ → Type 0
Idle ws v = (k : ℕ) → k < v → waits ws k ≡ false

module _ (ws : List ℕ) (i : ℕ) (idle : Idle ws (i * set_bits)) where
  -- the word i has a lowest member
  pub waits-lowest : (r : ℕ) → i < waiting_words → Lowest set_bits (get_or ws i 0) r → first (waits ws) 0 max_nodes ≡ i * set_bits + r
  waits-lowest r h low =
      first-is (waits ws) max_nodes (i * set_bits + r) (omega (arith, low.0))
      (λ l. at r low.0 ∙ low.1)
      (λ k l.
      ⊎_elim
      (λ (a : k < i * set_bits). idle k a)
      (λ (a : i * set_bits ≤ k).
      let word : k / set_bits ≡ i = omega (arith, low.0) in
      ap (λ (j : ℕ). members (get_or ws j 0) (k % set_bits)) word ∙ low.2 (k % set_bits) (omega (arith, low.0)))
      (lt-or-le k (i * set_bits)))
    where
      at : (x : ℕ) → x < set_bits → waits ws (i * set_bits + x) ≡ members (get_or ws i 0) x
      at x l =
          let word : (i * set_bits + x) / set_bits ≡ i = omega arith in
          let bit : (i * set_bits + x) % set_bits ≡ x = omega arith in
          rw (word, bit)

pub waits-none : (ws : List ℕ) → Idle ws max_nodes → first (waits ws) 0 max_nodes ≡ max_nodes
waits-none ws idle = first-is (waits ws) max_nodes max_nodes (omega arith) (λ l. absurd (omega arith)) idle
