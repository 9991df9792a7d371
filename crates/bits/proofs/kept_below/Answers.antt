-- `kept_below` meets its contract: the word under a mask of n bits.
use mathlib.Core.Path.{ap, ◌∙◌}
use lib.Bits.{bit_and, and_mask}
use Rattle.bits.proofs.kept_below.Goals as goal

pub returns : goal.returns
returns c =
    let a = c.args in ap (bit_and a.word) c.below.ensures.0 ∙ and_mask a.word a.n
