-- `held_among` meets its contract: the nodes below k of the part that have a pair were put in.
use mathlib.Core.Path.{◌≡◌}
use Rattle.simulation.specs.Sets.{none}
use Rattle.bits.specs.Word.{members}
use Rattle.simulation.proofs.Gains.{gained}
use Rattle.worklist.proofs.Occupied.{occupied}
use Rattle.worklist.proofs.held_among.Given as goal

abbrev pub invariant-loop-k : goal.invariant-loop-k
invariant-loop-k l =
    members l.all ≡ gained none (occupied l.part) l.k
