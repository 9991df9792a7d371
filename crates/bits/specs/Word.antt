-- A word as a set of small numbers.
use Rattle.std.specs.Prelude.{ℕ, zero, suc, ◌+◌, ◌/◌, ◌%◌, ◌^◌, Bool, not, ◌&&◌, ◌||◌, cond, eqb}
use Rattle.simulation.specs.Sets.{Set, all_below, any_below}

-- a set is held in a word of so many bits, or in the lower or upper half of one
abbrev pub half_bits : ℕ
half_bits = 16

abbrev pub set_bits : ℕ
set_bits = half_bits + half_bits

-- bit i of w: 0 or 1
abbrev pub bit : ℕ → ℕ → ℕ
bit w i = w / 2 ^ i % 2

-- the numbers whose bit is 1
abbrev pub members : ℕ → Set
members w i = eqb (bit w i) 1

-- the word whose members are those of X below k
unfoldable pub word : ℕ → Set → ℕ
word zero X = 0
word (suc k) X = cond (X k) (2 ^ k) 0 + word k X

-- each member of a below k is one of b
unfoldable pub within : ℕ → ℕ → ℕ → Bool
within k a b = all_below k (λ i. not (members a i) || members b i)

-- a and b have a member below k in common
abbrev pub meets : ℕ → ℕ → ℕ → Bool
meets k a b = any_below k (λ i. members a i && members b i)

abbrev pub overlaps : ℕ → ℕ → Bool
overlaps = meets set_bits
