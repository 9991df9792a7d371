-- `admitted_at` meets its contract: the states below u that agree with the sample were put in; at the end the set is turned round where it is to be.
use mathlib.Core.Path.{◌≡◌}
use Rattle.simulation.specs.Sets.{none}
use Rattle.bits.specs.Word.{members}
use Rattle.simulation.proofs.Gains.{gained}
use Rattle.pair_tables.proofs.Tabling.{agreeing}
use Rattle.pair_tables.proofs.Patterns.admitted_at.Given as goal

abbrev pub invariant-loop-u : goal.invariant-loop-u
invariant-loop-u l =
    members l.all ≡ gained none (agreeing l.self.masks.now l.self.values.now l.sample) l.u
