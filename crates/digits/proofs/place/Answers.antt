-- The mask keeps the four bits of the digit.
use Prim.Native.Nat.{◌*◌, ◌/◌, ◌^◌}
use mathlib.Core.Path.{◌∙◌}
use lib.Bits.{and_mask}
use Rattle.frames.proofs.Written.{place_is}
use Rattle.digits.proofs.place.Goals as goal

pub returns : goal.returns
returns c =
    let a = c.args in and_mask (a.value / 2 ^ (a.i * 4)) 4 ∙ place_is a.value a.i
