-- No step leaves 32 bits, and the last is the word of the four letters.
use native.Mathlib.Omega.{arith}
use mathlib.Core.Path.{◌∙◌}
use Rattle.digits.proofs.Fours.{bytes_of}
use Rattle.digits.proofs.Sums.{bytes_fit, places-fit, raised-fit, word-is}
use Rattle.digits.proofs.letters.Goals as goal

pub overflow_add-bytes : goal.overflow_add-bytes
overflow_add-bytes c =
    record { fits = omega (arith, bytes_fit c.args.value) }

pub overflow_add-places : goal.overflow_add-places
overflow_add-places c =
    record { fits = omega (arith, places-fit c.args.value) }

pub overflow_add-raised : goal.overflow_add-raised
overflow_add-raised c =
    record { fits = omega (arith, places-fit c.args.value) }

pub overflow_add-word : goal.overflow_add-word
overflow_add-word c =
    record { fits = omega (arith, places-fit c.args.value) }

pub overflow_mul-word : goal.overflow_mul-word
overflow_mul-word c =
    record { fits = omega (arith, raised-fit c.args.value) }

pub overflow_add-word-2 : goal.overflow_add-word-2
overflow_add-word-2 c =
    record { fits = omega (arith, places-fit c.args.value, raised-fit c.args.value) }

pub returns : goal.returns
returns c =
    c.to_le_bytes.ensures ∙ bytes_of c.args.value _ (word-is c.args.value)
