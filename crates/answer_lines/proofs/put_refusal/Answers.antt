-- The kind, the number and the line feed.
use native.Mathlib.Omega.{arith}
use mathlib.Core.List.{[], ◌∷◌, ◌++◌, append_assoc}
use Rattle.listing.proofs.Placing.{placed-append}
use Rattle.frames.specs.Digits.{digits}
use Rattle.frames.specs.Outputs.{refusal}
use Rattle.frames.proofs.Written.{pair-long, room_after}
use Rattle.answer_lines.proofs.put_refusal.Goals as goal

pub put_byte-requires : goal.put_byte-requires
put_byte-requires c =
    let k = c.put_head-next in
    omega (
      arith,
      room_after c.args.out.now c.args.at (digits 2 143 ++ digits 2 c.args.rule) k.new.out k.result 1
          (omega (arith, c.requires, pair-long 2 143 c.args.rule)) k.ensures,
    )

pub returns : goal.returns
unfolding refusal
returns c =
    rw (← append_assoc (digits 2 143) (digits 2 c.args.rule) (10 ∷ []))
    (placed-append (omega (arith, c.requires)) c.put_head-next.ensures c.put_byte.ensures)
