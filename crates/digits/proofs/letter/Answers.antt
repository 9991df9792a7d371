-- Seven bytes lie between the figures and the letters.
use Prim.Native.Nat.{ℕ, ◌+◌, ◌*◌, ◌<◌, ◌≤◌}
use mathlib.Core.Path.{◌≡◌, ap}
use mathlib.Core.Bool.{Bool, true, false}
use native.Mathlib.Omega.{arith}
use lib.Dec.{ltb}
use mir.Val.{bool_byte}
use borrow.Author.Tests.{lt-ltb, le-ltb}
use Rattle.frames.specs.Digits as d
use Rattle.digits.proofs.Sums.{letter_sum}
use Rattle.digits.proofs.letter.Goals as goal

one-or-none : (b : Bool) → bool_byte b ≤ 1
one-or-none true = omega arith
one-or-none false = omega arith

byte_is : (n : ℕ) → (48 + n) + 7 * bool_byte (ltb 9 n) ≡ d.letter n
byte_is n =
    letter_sum n (bool_byte (ltb 9 n)) (λ (l : n < 10). ap bool_byte (le-ltb 9 n (omega (arith, l)))) (λ (l : 10 ≤ n). ap bool_byte (lt-ltb 9 n l))

pub overflow_mul-result : goal.overflow_mul-result
overflow_mul-result c =
    record { fits = omega (arith, one-or-none (ltb 9 c.args.digit)) }

pub overflow_add-result-2 : goal.overflow_add-result-2
overflow_add-result-2 c =
    record { fits = omega (arith, c.requires, one-or-none (ltb 9 c.args.digit)) }

pub returns : goal.returns
returns c =
    byte_is c.args.digit
