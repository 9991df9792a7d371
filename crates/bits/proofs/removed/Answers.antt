-- `removed` meets its contract: & with the complement of a power of two takes one member away.
use borrow.Author.Rules.{rules}
use Rattle.bits.proofs.Words.{without-members}
use Rattle.bits.specs.Word.{set_bits}
use Rattle.bits.proofs.removed.Goals as goal

pub returns : goal.returns
returns c =
    rw c.only.ensures
    (without-members set_bits c.args.word c.args.i (search rules) (search rules))
