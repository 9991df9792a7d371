-- `added` meets its contract: | with a power of two adds one member.
use Rattle.bits.proofs.Words.{also-members}
use Rattle.bits.proofs.added.Goals as goal

pub returns : goal.returns
returns c =
    rw c.only.ensures (also-members c.args.word c.args.i)
