-- The kind, the states and the line feed.
use native.Mathlib.Omega.{arith}
use mathlib.Core.List.{[], ◌∷◌, ◌++◌, append_assoc}
use Rattle.listing.proofs.Placing.{placed-append}
use Rattle.frames.specs.Digits.{digits}
use Rattle.frames.specs.Outputs.{each, walked}
use Rattle.frames.proofs.Written.{digits_long, room_after}
use Rattle.frames.proofs.Listed.{states-long}
use Rattle.answer_lines.proofs.put_order.Goals as goal

pub put_digits-kind-requires : goal.put_digits-kind-requires
put_digits-kind-requires c =
    omega (arith, c.requires)

pub put_states-next-requires : goal.put_states-next-requires
put_states-next-requires c =
    let k = c.put_digits-kind in
    room_after c.args.out.now c.args.at (digits 2 130) k.new.out k.result _ (omega (arith, c.requires, digits_long 2 130)) k.ensures

pub put_byte-requires : goal.put_byte-requires
put_byte-requires c =
    let k = c.put_states-next in
    let us = c.args.states.now in
    omega (
      arith,
      room_after c.args.out.now c.args.at (digits 2 130 ++ each (digits 2) us) k.new.out k.result 1 (omega (arith, c.requires, states-long 130 us))
          (placed-append (omega (arith, c.requires)) c.put_digits-kind.ensures k.ensures),
    )

pub returns : goal.returns
unfolding walked
returns c =
    rw (← append_assoc (digits 2 130) (each (digits 2) c.args.states.now) (10 ∷ []))
    (placed-append (omega (arith, c.requires)) (placed-append (omega (arith, c.requires)) c.put_digits-kind.ensures c.put_states-next.ensures) c.put_byte.ensures)
