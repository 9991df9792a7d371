-- `without_lowest` meets its contract: & with the word before it takes the lowest member out.
use Rattle.bits.proofs.Counts.{without-lowest}
use Rattle.bits.proofs.without_lowest.Goals as goal

pub returns : goal.returns
returns c =
    without-lowest c.args.word
