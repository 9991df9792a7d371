-- Four digits fit 16 bits.
use Rattle.frames.proofs.Hex.{number_fits}
use Rattle.digits.proofs.Hex.half.Goals as goal

pub overflow_cast-result : goal.overflow_cast-result
overflow_cast-result c =
    record { fits = rw c.number.ensures (number_fits c.args.self.now.bytes.now 4 c.args.self.now.digits c.requires) }
