-- The first index of a range at which a test holds: what every search of the engine finds.
use Rattle.std.specs.Prelude.{ℕ, zero, suc, ◌+◌, ◌-◌, Bool, cond, ltb}
use Rattle.simulation.specs.Sets.{Set}

unfoldable pub first_of : Set → ℕ → ℕ → ℕ
first_of P i zero = i
first_of P i (suc k) = cond (P i) i (first_of P (i + 1) k)

-- the first index from i up to n, n left out, at which P holds; n where there is none
unfoldable pub first : Set → ℕ → ℕ → ℕ
first P i n = first_of P i (n - i)

-- P holds at some index from i up to n
unfoldable pub found : Set → ℕ → ℕ → Bool
found P i n = ltb (first P i n) n
