-- `unlinked` meets its contract: of the states that were taken out of `rest`, `left` has those without such a link.
use Rattle.simulation.specs.Sets.{count}
use Rattle.bits.specs.Word.{members, set_bits}
use Rattle.links.proofs.LinkSets.{Thinned}
use Rattle.links.proofs.unlinked.Given as goal

abbrev pub invariant-loop-rest : goal.invariant-loop-rest
invariant-loop-rest l =
    Thinned set_bits l.links l.word l.others l.left l.rest

abbrev pub decreases-loop-rest : goal.decreases-loop-rest
decreases-loop-rest l =
    count set_bits (members l.rest)
