-- `same_words` meets its contract: nothing is folded in just where the words so far agree.
use mathlib.Core.Path.{◌≡◌}
use lib.Dec.{eqb}
use lib.ListN.{get_or}
use Rattle.simulation.specs.Sets.{all_below}
use Rattle.change_lists.proofs.same_words.Given as goal

abbrev pub invariant-loop-v : goal.invariant-loop-v
invariant-loop-v l =
    eqb l.all 0 ≡ all_below l.v (λ j. eqb (get_or l.before j 0) (get_or l.after j 0))
