-- One number after the other.
use native.Mathlib.Omega.{arith}
use Rattle.listing.proofs.Placing.{placed-append}
use Rattle.frames.specs.Digits.{digits}
use Rattle.frames.proofs.Written.{digits_long, room_after}
use Rattle.answer_lines.proofs.put_head.Goals as goal

pub put_digits-requires : goal.put_digits-requires
put_digits-requires c =
    let k = c.put_digits-next in (
      omega arith,
      room_after c.args.out.now c.args.at (digits 2 c.args.kind) k.new.out k.result 2 (omega (arith, c.requires, digits_long 2 c.args.kind)) k.ensures,
    )

pub returns : goal.returns
returns c =
    placed-append (omega (arith, c.requires)) c.put_digits-next.ensures c.put_digits.ensures
