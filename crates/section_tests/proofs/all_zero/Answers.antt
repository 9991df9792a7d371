-- `all_zero` meets its contract: there is no member in the union just where each word is zero.
use Rattle.bits.proofs.Gathers.{gathered_zero}
use Rattle.session.specs.Layout.{below}
use Rattle.section_tests.proofs.all_zero.Goals as goal

pub returns : goal.returns
unfolding below
returns c =
    gathered_zero c.gathered.result c.args.words.now c.gathered.ensures
