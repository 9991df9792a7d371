-- `differing` meets its contract: ^ has the members in which the words differ.
use Rattle.bits.proofs.Words.{differ_members}
use Rattle.bits.proofs.differing.Goals as goal

pub returns : goal.returns
returns c =
    differ_members c.args.a c.args.b
