-- A loop that tests each number below a bound and keeps whether all passed: how it begins, goes on and ends.
use Prim.Native.Nat.{ℕ, ◌+◌}
use native.Mathlib.Numerals.{add-one}
use mathlib.Core.Path.{◌≡◌, refl, ap, ap₂, ◌∙◌}
use mathlib.Core.Bool.{Bool, true, ◌&&◌, and_comm}
use Rattle.simulation.specs.Sets.{Set, all_below}

pub test_none : (P : Set) → true ≡ all_below 0 P
unfolding all_below
test_none P = refl

pub test_more : (P : Set) (k : ℕ) (all now : Bool) → all ≡ all_below k P → now ≡ P k → (all && now) ≡ all_below (k + 1) P
unfolding all_below
test_more P k all now e h = rw add-one (and_comm all now ∙ ap₂ ◌&&◌ h e)

pub test_all : (P : Set) (n k : ℕ) (all : Bool) → all ≡ all_below k P → k ≡ n → all ≡ all_below n P
test_all P n k all e whole = e ∙ ap (λ (m : ℕ). all_below m P) whole
