-- `all_below` meets its contract: the words so far are below the limit, or not all.
use mathlib.Core.Path.{◌≡◌}
use lib.Dec.{ltb}
use lib.ListN.{get_or}
use Rattle.simulation.specs.Sets.{all_below}
use Rattle.section_tests.proofs.all_below.Given as goal

abbrev pub invariant-loop-word : goal.invariant-loop-word
invariant-loop-word l =
    l.all ≡ all_below l.word-index (λ j. ltb (get_or l.words j 0) l.limit)
