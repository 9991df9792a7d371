-- `inside` meets its contract: a subset of the numbers below n.
use borrow.Author.Rules.{rules}
use mathlib.Core.Path.{ap, ◌∙◌}
use Rattle.bits.specs.Word.{within, set_bits}
use Rattle.bits.proofs.Tests.{within-inside}
use Rattle.bits.proofs.inside.Goals as goal

pub returns : goal.returns
returns c =
    let a = c.args in
    c.subset.ensures ∙ ap (within set_bits a.word) c.below.ensures.0 ∙ within-inside set_bits a.n a.word (search rules)
