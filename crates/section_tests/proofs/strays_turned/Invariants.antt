-- `strays_turned` meets its contract: after v nodes `all` has the marks at these that are not admitted.
use mathlib.Core.Path.{◌≡◌}
use mathlib.Core.Bool.{not}
use lib.Dec.{eqb}
use Rattle.bits.specs.Word.{members}
use Rattle.bits.proofs.Gathers.{gathers}
use Rattle.session.specs.Limits.{word_bits}
use Rattle.session.specs.Trigger.{matches}
use Rattle.section_tests.proofs.Unadmitted.{stray}
use Rattle.section_tests.proofs.strays_turned.Given as goal

abbrev pub invariant-loop-v : goal.invariant-loop-v
invariant-loop-v g l =
    members l.all ≡ gathers l.v (stray l.samples l.marks (matches word_bits (not (eqb g.row.TURNED 0)) l.mask l.value))
