use native.Mathlib.Omega.{arith}
use mathlib.Core.Path.{refl}
use lib.Dec.{ltb}
use lib.ListN.{length, get_or}
use Rattle.session.specs.Layout.{below}
use Rattle.section_tests.proofs.Folds.{test_none, test_more, test_all}
use Rattle.section_tests.proofs.all_below.Goals as goal

pub loop-word-init : goal.loop-word-init
loop-word-init c =
    test_none (λ j. ltb (get_or c.args.words.now j 0) c.args.limit)

pub loop-word-preserved : goal.loop-word-preserved
loop-word-preserved c =
    let l = c.loop-word in
    test_more (λ j. ltb (get_or c.args.words.now j 0) c.args.limit) l.word-index l.all _ l.invariant refl

pub returns : goal.returns
unfolding below
returns c =
    let l = c.loop-word in
    test_all (λ j. ltb (get_or c.args.words.now j 0) c.args.limit) (length c.args.words.now) l.word-index l.all l.invariant (omega arith)
