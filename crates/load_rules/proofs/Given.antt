-- What rules 4 and 7 leave: not too many states, and an end for each start.
use Prim.Native.Nat.{ℕ, ◌≤◌}
use borrow.Author.Tests.{ltb-false, eqb-true, not-false}
use mathlib.Core.Path.{◌≡◌}
use mathlib.Core.Bool.{Bool, false, not, ◌||◌}
use lib.Dec.{ltb, eqb}
use Rattle.simulation.proofs.Sets.{or_false_l, or_false_r}
use Rattle.session.specs.Limits.{max_edges, max_states}

pub few_states : (n : ℕ) (b : Bool) → ((eqb n 0 || ltb max_states n) || b) ≡ false → n ≤ max_states
few_states n b e = ltb-false max_states n (or_false_r (eqb n 0) (ltb max_states n) (or_false_l (eqb n 0 || ltb max_states n) b e))

pub ends-given : (m n : ℕ) → (ltb max_edges n || not (eqb m n)) ≡ false → m ≡ n
ends-given m n e = eqb-true m n (not-false (eqb m n) (or_false_r (ltb max_edges n) (not (eqb m n)) e))
