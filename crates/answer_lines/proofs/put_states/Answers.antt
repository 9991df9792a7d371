use native.Mathlib.Omega.{arith}
use Rattle.frames.specs.Digits.{digits}
use Rattle.frames.proofs.Written.{digits_long}
use Rattle.frames.proofs.Listed.{listing_start, listing_next, listing_long, listing_more}
use Rattle.answer_lines.proofs.put_states.Goals as goal

pub loop-state-init : goal.loop-state-init
loop-state-init c =
    listing_start (digits 2) 2 (digits_long 2) c.args.states.now c.args.out.now c.args.at (omega (arith, c.requires))

pub put_digits-next-requires : goal.put_digits-next-requires
put_digits-next-requires c =
    let l = c.loop-state in
    let near = listing_next (digits 2) 2 (digits_long 2) c.args.states.now c.args.out.now c.args.at (omega (arith, c.requires)) l.out l.next l.state-index l.invariant in
    let long = listing_long (digits 2) 2 (digits_long 2) c.args.states.now c.args.out.now c.args.at (omega (arith, c.requires)) l.out l.next l.state-index l.invariant
    (omega (arith, c.requires)) in
    (omega arith, omega (arith, c.requires, near, long))

pub loop-state-preserved : goal.loop-state-preserved
loop-state-preserved c =
    let l = c.loop-state in
    let p = c.put_digits-next in
    listing_more (digits 2) 2 (digits_long 2) c.args.states.now c.args.out.now c.args.at (omega (arith, c.requires)) l.out l.next l.state-index 0
    p.new.out p.result l.invariant (omega arith) p.ensures
