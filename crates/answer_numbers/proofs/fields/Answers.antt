-- The bits add up, and the sum fits.
use Prim.Native.Nat.{◌≤◌}
use native.Mathlib.Omega.{arith}
use mathlib.Core.Path.{refl}
use Rattle.answer_numbers.specs.Packed.{fields}
use Rattle.answer_numbers.proofs.fields.Goals as goal
use Rattle.answer_numbers.proofs.fields.Goals.{Joined-flag, then-flag, else-flag}

-- the bit of a yes
small : (c : Joined-flag) → c.if-flag.bit ≤ 256
small c = elim c.if-flag.branch [ then-flag w ↦ omega arith | else-flag w ↦ omega arith ]

pub overflow_add-result-2 : goal.overflow_add-result-2
overflow_add-result-2 c =
    omega (arith, small (goal.at.overflow_add-result-2 c).Joined-flag)

pub returns : goal.returns
unfolding fields
returns c =
    elim c.if-flag.branch [
      | then-flag w ↦ rw (w.bit-is, w.if-flag.true) refl
      | else-flag w ↦ rw (w.bit-is, w.if-flag.false) refl
    ]
