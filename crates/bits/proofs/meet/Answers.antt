-- `meet` meets its contract: a & b is zero where no member is common.
use borrow.Author.Rules.{rules}
use Rattle.bits.specs.Word.{set_bits}
use Rattle.bits.proofs.Tests.{meets-test}
use Rattle.bits.proofs.meet.Goals as goal

pub returns : goal.returns
returns c =
    meets-test set_bits c.args.a c.args.b (search rules)
