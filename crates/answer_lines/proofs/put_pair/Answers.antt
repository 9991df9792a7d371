-- One number after the other, and the line feed.
use native.Mathlib.Omega.{arith}
use mathlib.Core.List.{◌++◌}
use Rattle.listing.proofs.Placing.{placed-append}
use Rattle.frames.specs.Digits.{digits}
use Rattle.frames.proofs.Written.{digits_long, pair-long, room_after}
use Rattle.answer_lines.proofs.put_pair.Goals as goal

pub put_digits-next-requires : goal.put_digits-next-requires
put_digits-next-requires c =
    let k = c.put_digits-middle in (
      omega arith,
      room_after c.args.out.now c.args.at (digits 4 c.args.first) k.new.out k.result 4 (omega (arith, c.requires, digits_long 4 c.args.first)) k.ensures,
    )

pub put_byte-requires : goal.put_byte-requires
put_byte-requires c =
    let k = c.put_digits-next in
    omega (
      arith,
      room_after c.args.out.now c.args.at (digits 4 c.args.first ++ digits 4 c.args.second) k.new.out k.result 1
          (omega (arith, c.requires, pair-long 4 c.args.first c.args.second))
          (placed-append (omega (arith, c.requires)) c.put_digits-middle.ensures k.ensures),
    )

pub returns : goal.returns
returns c =
    let near = c.requires in
    placed-append (omega (arith, near)) (placed-append (omega (arith, near)) c.put_digits-middle.ensures c.put_digits-next.ensures) c.put_byte.ensures
