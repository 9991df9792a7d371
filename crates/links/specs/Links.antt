-- Sets of states by their links. A set is a word.
use Rattle.std.specs.Prelude.{ℕ, ◌<◌, ◌≡◌, ◌&&◌, List, ltb, length, get_or}
use Rattle.simulation.specs.Sets.{Set, any_below}
use Rattle.bits.specs.Word.{members, meets, set_bits}

-- the states to which a state of the word w has a link
abbrev pub linked_from : List ℕ → ℕ → Set
linked_from links w o = any_below (length links) (λ u. members w u && members (get_or links u 0) o)

-- the states with a link to a state of the word w, in words of k bits
abbrev pub links_to_in : ℕ → List ℕ → ℕ → Set
links_to_in k links w u = ltb u (length links) && meets k (get_or links u 0) w

abbrev pub links_to : List ℕ → ℕ → Set
links_to = links_to_in set_bits

-- for each of k states the states with a link to it
pub record CallersIn (k : ℕ) (links callers : List ℕ) : Type 0 where
  pub long : length callers ≡ k
  pub called : (o u : ℕ) → o < k → members (get_or callers o 0) u ≡ (ltb u (length links) && members (get_or links u 0) o)

abbrev pub Callers : List ℕ → List ℕ → Type 0
Callers = CallersIn set_bits
