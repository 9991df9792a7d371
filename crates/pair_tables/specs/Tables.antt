-- Tables of pairs, and the table of all that are admitted.
use Rattle.std.specs.Prelude.{ℕ, ◌*◌, ◌/◌, ◌%◌, ◌≡◌, Bool, not, ◌&&◌, ◌||◌, List, ltb, eqb, length, get_or}
use Rattle.simulation.specs.Sets.{Set, count}
use Rattle.bits.specs.Word.{members}
use Rattle.session.specs.Limits.{max_nodes, word_bits}
use Rattle.session.specs.Trigger.{Marks, matches}

-- a table has a word for each node: the states marked there
abbrev pub marked : List ℕ → Marks
marked ts u v = members (get_or ts v 0) u

-- the states whose answer is turned round: inverted, and of a mask that is not zero
abbrev pub turned_states : List ℕ → ℕ → Set
turned_states masks inverted u = members inverted u && not (eqb (get_or masks u 0) 0)

-- ---- the admitted pairs

-- the state u, turned round or not, is put into the words of the nodes that it admits, and those nodes are counted
pub record Admits (samples : List ℕ) (turned : Bool) (mask value u : ℕ) (ts : List ℕ) (n : ℕ) (ts' : List ℕ) : Type 0 where
  pub long : length ts' ≡ length ts
  pub words : (x v : ℕ) → marked ts' x v
      ≡ (marked ts x v || (eqb x u && (ltb v (length samples) && matches word_bits turned mask value (get_or samples v 0))))
  pub counted : n ≡ count (length samples) (λ v. matches word_bits turned mask value (get_or samples v 0))

-- all states
pub record Admitted (masks values : List ℕ) (turned : ℕ) (samples : List ℕ) (n : ℕ) (ts' : List ℕ) : Type 0 where
  pub long : length ts' ≡ max_nodes
  pub words : (u v : ℕ) → marked ts' u v
      ≡ (ltb u (length masks) && (ltb v (length samples) && matches word_bits (members turned u) (get_or masks u 0) (get_or values u 0) (get_or samples v 0)))
  pub counted : n
      ≡ count (length samples * length masks)
      (λ p. matches word_bits (members turned (p % length masks)) (get_or masks (p % length masks) 0) (get_or values (p % length masks) 0) (get_or samples (p / length masks) 0))
