-- Each digit is below 16, as the line is hexadecimal.
use native.Mathlib.Omega.{arith}
use mathlib.Core.Path.{◌≡◌, refl}
use borrow.Author.Tests.{lt-ltb}
use Rattle.std.proofs.Common.{Some}
use lib.ListN.{get_or}
use Rattle.frames.specs.Digits.{digit}
use Rattle.frames.proofs.Hex.{digit-fits, reading-more, reading-end}
use Rattle.digits.proofs.Hex.number.Goals as goal
use Rattle.digits.proofs.Hex.number.Goals.{After-digit}

read : (c : After-digit) → c.digit.result ≡ Some (digit (get_or c.args.self.now.bytes.now c.loop-byte.byte-index 0))
read c =
    rw (lt-ltb _ 16 (digit-fits c.args.self.now.bytes.now c.args.self.now.digits c.loop-byte.byte-index (omega arith))) at c.digit.ensures

pub unwrap-requires : goal.unwrap-requires
unwrap-requires c =
    rw (read (goal.at.unwrap-requires c).After-digit) refl

pub loop-byte-preserved : goal.loop-byte-preserved
loop-byte-preserved c =
    let l = c.loop-byte in
    let is = read (goal.at.loop-byte-preserved c).After-digit in
    let same : c.unwrap.result ≡ digit (get_or c.args.self.now.bytes.now l.byte-index 0) = cc in
    rw same (reading-more c.args.self.now.bytes.now c.args.self.now.digits l.value l.byte-index l.invariant (omega arith))

pub returns : goal.returns
returns c =
    let l = c.loop-byte in
    reading-end c.args.self.now.bytes.now c.args.self.now.digits l.value l.byte-index l.invariant (omega arith)
