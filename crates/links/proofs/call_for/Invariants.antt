-- `call_for` meets its contract: the state is in the words of the targets that were taken out of `rest`.
use Rattle.bits.specs.Word.{members, set_bits}
use Rattle.links.proofs.CallerTables.{Calling}
use Rattle.simulation.specs.Sets.{count}
use Rattle.links.proofs.call_for.Given as goal

abbrev pub invariant-loop-rest : goal.invariant-loop-rest
invariant-loop-rest l =
    Calling l.initial.callers l.targets l.u l.rest l.callers

abbrev pub decreases-loop-rest : goal.decreases-loop-rest
decreases-loop-rest l =
    count set_bits (members l.rest)
