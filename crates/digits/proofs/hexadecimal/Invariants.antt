-- Whether those looked at so far are digits.
use mathlib.Core.Path.{◌≡◌}
use lib.Dec.{ltb}
use lib.ListN.{get_or}
use Rattle.simulation.specs.Sets.{all_below}
use Rattle.frames.specs.Digits as d
use Rattle.digits.proofs.hexadecimal.Given as goal

abbrev pub invariant-loop-byte : goal.invariant-loop-byte
invariant-loop-byte l =
    l.all ≡ all_below l.byte-index (λ i. ltb (d.digit (get_or l.line i 0)) 16)
