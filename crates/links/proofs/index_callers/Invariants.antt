-- `index_callers` meets its contract: before state u the states below it are in the words of their targets.
use Rattle.bits.specs.Word.{set_bits}
use Rattle.links.proofs.CallerTables.{Called}
use Rattle.links.proofs.index_callers.Given as goal

abbrev pub invariant-loop-u : goal.invariant-loop-u
invariant-loop-u l =
    Called set_bits l.links l.u l.callers
