-- `linked` meets its contract: `all` has the links of the states that were taken out of `rest`.
use Rattle.bits.specs.Word.{members, set_bits}
use Rattle.links.proofs.LinkSets.{Linking}
use Rattle.simulation.specs.Sets.{count}
use Rattle.links.proofs.linked.Given as goal

abbrev pub invariant-loop-rest : goal.invariant-loop-rest
invariant-loop-rest l =
    Linking l.links l.word l.all l.rest

abbrev pub decreases-loop-rest : goal.decreases-loop-rest
decreases-loop-rest l =
    count set_bits (members l.rest)
