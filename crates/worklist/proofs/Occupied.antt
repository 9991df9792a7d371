-- The nodes at which a table has a pair are put in.
use Prim.Native.Nat.{ℕ, ◌+◌, ◌*◌, ◌/◌, ◌%◌, ◌^◌, ◌<◌, ◌≤◌, zero-le}
use native.Mathlib.Omega.{arith}
use mathlib.Core.Path.{◌≡◌, refl, sym, ap, ap₂, ◌∙◌}
use mathlib.Core.Logic.{⊎_elim}
use mathlib.Core.Bool.{Bool, true, false, not, ◌&&◌, ◌||◌, cond, or-false}
use mathlib.Core.List.{List}
use lib.Bits.{bit_or, or_zero_r}
use lib.Dec.{ltb, eqb}
use lib.ListN.{length, get_or, set, take, drop, get_or-eq_default}
use lib.Seq.{get_or-set_same, get_or-set_other, get_or-take, get_or-drop}
use borrow.Author.Tests.{ltb-false, lt-ltb, le-ltb, eqb-true, eqb-false, eq-eqb}
use Rattle.simulation.specs.Sets.{Set, none, union}
use Rattle.simulation.proofs.Sets.{split}
use Rattle.bits.specs.Word.{members, set_bits}
use Rattle.bits.proofs.Words.{also-members}
use Rattle.worklist.specs.Waiting.{waits, waiting_words}
use Rattle.simulation.proofs.Gains.{more_other, gained, gained-more, gained_pass}
use Rattle.session.specs.Limits.{max_nodes}

-- the nodes at which a table has a pair; none is past its end
abbrev pub occupied : List ℕ → Set
occupied ts v = not (eqb (get_or ts v 0) 0)

pub none-past : (ts : List ℕ) (v : ℕ) → length ts ≤ v → occupied ts v ≡ false
none-past ts v l = ap not (eq-eqb (get_or ts v 0) 0 (get_or-eq_default ts 0 l))

-- the nodes below k of a part are looked at: the bit of node k is picked by the test
module _ (part : List ℕ) (k all : ℕ) (e : members all ≡ gained none (occupied part) k) where
  pub held-step : (bit w : ℕ) (hit : Bool) → hit ≡ occupied part k → bit ≡ 2 ^ k → w ≡ cond hit bit 0
      → members (bit_or all w) ≡ gained none (occupied part) (k + 1)
  held-step bit w true h b p = rw (p, b) (gained-more none (occupied part) k e (sym h) (also-members all k))
  held-step bit w false h b p = rw (p, or_zero_r all) (gained_pass none (occupied part) k e (sym h))

-- the nodes that wait, and those with a pair in the words below i
module _ (ws ts : List ℕ) where
  abbrev pub called : ℕ → Set
  called i v = waits ws v || (ltb (v / set_bits) i && occupied ts v)

  pub called-none : (v : ℕ) → waits ws v ≡ called 0 v
  called-none v = sym (ap (λ (b : Bool). waits ws v || (b && occupied ts v)) (le-ltb (v / set_bits) 0 zero-le) ∙ or-false (waits ws v))

  -- the word i gains those of its part
  module _ (i : ℕ) (ws' : List ℕ) (e : (v : ℕ) → waits ws' v ≡ called i v) (n held word : ℕ) where
    pub called-step : n ≡ set_bits → i < length ws' → ((k : ℕ) → members held k ≡ occupied (take n (drop (i * set_bits) ts)) k)
        → members word ≡ union (members (get_or ws' i 0)) (members held)
        → (v : ℕ) → waits (set ws' i word) v ≡ called (i + 1) v
    called-step whole l h m v =
        ⊎_elim
        (λ (t : eqb (v / set_bits) i ≡ true). here (eqb-true (v / set_bits) i t))
        (λ (t : eqb (v / set_bits) i ≡ false). away (eqb-false (v / set_bits) i t))
        (split (eqb (v / set_bits) i))
      where
        here : v / set_bits ≡ i → waits (set ws' i word) v ≡ called (i + 1) v
        here q =
            let node : i * set_bits + v % set_bits ≡ v = omega arith in
            let pair : members held (v % set_bits) ≡ occupied ts v =
            h (v % set_bits)
            ∙ ap (λ (x : ℕ). not (eqb x 0))
            (get_or-take n (drop (i * set_bits) ts) (v % set_bits) 0 (omega arith) ∙ get_or-drop (i * set_bits) ts (v % set_bits) 0 ∙ ap (λ (x : ℕ). get_or ts x 0) node) in
            let old : members (get_or ws' i 0) (v % set_bits) ≡ waits ws v =
            ap (λ (x : ℕ). members (get_or ws' x 0) (v % set_bits)) (sym q) ∙ e v
            ∙ ap (λ (b : Bool). waits ws v || (b && occupied ts v)) (le-ltb (v / set_bits) i (omega arith))
            ∙ or-false (waits ws v) in
            let new : called (i + 1) v ≡ (waits ws v || occupied ts v) =
            ap (λ (b : Bool). waits ws v || (b && occupied ts v)) (lt-ltb (v / set_bits) (i + 1) (omega arith)) in
            ap (λ (x : ℕ). members (get_or (set ws' i word) x 0) (v % set_bits)) q
            ∙ ap (λ (x : ℕ). members x (v % set_bits)) (get_or-set_same ws' i word 0 l)
            ∙ ap (λ (X : Set). X (v % set_bits)) m
            ∙ ap₂ ◌||◌ old pair
            ∙ sym new

        away : (v / set_bits ≡ i → ⊥) → waits (set ws' i word) v ≡ called (i + 1) v
        away q =
            ap (λ (x : ℕ). members x (v % set_bits)) (get_or-set_other ws' i (v / set_bits) word 0 q)
            ∙ e v
            ∙ ap (λ (b : Bool). waits ws v || (b && occupied ts v)) (sym (more_other (v / set_bits) i q))

  pub called-all : length ts ≡ max_nodes → (v : ℕ) → called waiting_words v ≡ (waits ws v || occupied ts v)
  called-all long v =
      ap (λ (b : Bool). waits ws v || b)
      (⊎_elim
      (λ (t : ltb (v / set_bits) waiting_words ≡ true). rw t refl)
      (λ (t : ltb (v / set_bits) waiting_words ≡ false). let l = ltb-false (v / set_bits) waiting_words t in rw (t, none-past ts v (omega (arith, long))) refl)
      (split (ltb (v / set_bits) waiting_words)))

-- the states that admit a sample
