-- The digits read so far, and what the rest makes of them. Eight fit 32 bits.
use Rattle.frames.proofs.Hex.{Reading}
use Rattle.digits.proofs.Hex.number.Given as goal

abbrev pub invariant-loop-byte : goal.invariant-loop-byte
invariant-loop-byte l =
    Reading l.self.bytes.now l.value l.byte-index
