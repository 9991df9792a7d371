-- `gathered` meets its contract: `all` has the members of the words so far.
use mathlib.Core.Path.{◌≡◌}
use lib.ListN.{get_or}
use Rattle.bits.specs.Word.{members}
use Rattle.bits.proofs.Gathers.{gathers}
use Rattle.bits.proofs.gathered.Given as goal

abbrev pub invariant-loop-word : goal.invariant-loop-word
invariant-loop-word l =
    members l.all ≡ gathers l.word-index (λ j. members (get_or l.words j 0))
