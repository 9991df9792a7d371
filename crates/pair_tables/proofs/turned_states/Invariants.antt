-- `turned_states` meets its contract: the states below u whose mask is not zero were put in.
use mathlib.Core.Path.{◌≡◌}
use Rattle.simulation.specs.Sets.{none}
use Rattle.bits.specs.Word.{members}
use Rattle.simulation.proofs.Gains.{gained}
use Rattle.pair_tables.proofs.Tabling.{wanting}
use Rattle.pair_tables.proofs.turned_states.Given as goal

abbrev pub invariant-loop-u : goal.invariant-loop-u
invariant-loop-u l =
    members l.wanting ≡ gained none (wanting l.masks) l.u
