-- `below` meets its contract: 2 to the n, less one, has all the numbers below n.
use Prim.Native.Nat.{◌*◌, ◌^◌, ◌%◌}
use native.Mathlib.Nat.{one-mul}
use native.Mathlib.Omega.{arith}
use mathlib.Core.Path.{◌≡◌, refl, ◌∙◌}
use lib.Pow.{shl_exact}
use Rattle.bits.proofs.Words.{full-members}
use Rattle.bits.proofs.below.Goals as goal
use Rattle.bits.proofs.below.Goals.{Start}

-- the shift does not wrap
power : (c : Start) → 1 * 2 ^ c.args.n % 2 ^ 64 ≡ 2 ^ c.args.n
power c = shl_exact 1 c.args.n 64 (omega arith) (omega arith) ∙ one-mul (2 ^ c.args.n)

pub returns : goal.returns
returns c =
    rw (power c) (refl, full-members c.args.n)
