-- The bits that hold a signed number are its two's complement.
use native.Mathlib.Omega.{arith}
use mathlib.Core.Path.{◌≡◌, refl, ap, ◌∙◌}
use lib.IntN.{ℤ, pos, negsuc}
use mir.Syntax.{w32}
use mir.Val.{of_z}
use mir.ValLaws.{to_z-of_z}
use Rattle.frames.specs.Outputs as o
use Rattle.answer_lines.proofs.complement.Goals as goal

held : (z : ℤ) → of_z w32 z ≡ o.complement z
unfolding o.complement
held (pos n) = refl
held (negsuc n) = omega arith

pub returns : goal.returns
returns c =
    let z = c.args.change in
    c.cast_unsigned.ensures ∙ ap (of_z w32) (to_z-of_z w32 z c.ranges.change) ∙ held z
