-- `difference` meets its contract: & with the complement is the difference.
use borrow.Author.Rules.{rules}
use Rattle.bits.proofs.Words.{andnot_members}
use Rattle.bits.specs.Word.{set_bits}
use Rattle.bits.proofs.difference.Goals as goal

pub returns : goal.returns
returns c =
    andnot_members set_bits c.args.a c.args.b (search rules) (search rules)
