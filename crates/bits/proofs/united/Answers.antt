-- `united` meets its contract: | is the union.
use Rattle.bits.proofs.Words.{or-members}
use Rattle.bits.proofs.united.Goals as goal

pub returns : goal.returns
returns c =
    or-members c.args.a c.args.b
