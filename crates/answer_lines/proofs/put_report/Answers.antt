-- The kind and the firing, then the two counts.
use native.Mathlib.Omega.{arith}
use mathlib.Core.List.{[], ◌∷◌, ◌++◌}
use Rattle.listing.specs.Placed.{Placed}
use Rattle.listing.proofs.Placing.{placed-append}
use Rattle.frames.specs.Digits.{digits}
use mathlib.Core.Bool.{cond}
use Rattle.frames.specs.Outputs.{report_line}
use Rattle.frames.proofs.Written.{bool_number, pair-long, four_parts, room_after}
use Rattle.answer_lines.proofs.put_report.Goals as goal
use Rattle.answer_lines.proofs.put_report.Goals.{After-put_head-next}

-- the kind and the firing, as the line has them
headed : (c : After-put_head-next) → Placed c.args.out.now c.args.at (digits 2 128 ++ digits 2 (cond c.args.fires 1 0)) c.put_head-next.new.out c.put_head-next.result
headed c = rw (bool_number c.args.fires) at c.put_head-next.ensures

pub put_pair-requires : goal.put_pair-requires
put_pair-requires c =
    room_after c.args.out.now c.args.at (digits 2 128 ++ digits 2 (cond c.args.fires 1 0)) c.put_head-next.new.out c.put_head-next.result 9
    (omega (arith, c.requires, pair-long 2 128 (cond c.args.fires 1 0))) (headed (goal.at.put_pair-requires c).After-put_head-next)

pub returns : goal.returns
unfolding report_line
returns c =
    rw (← four_parts (digits 2 128) (digits 2 (cond c.args.fires 1 0)) (digits 4 c.args.trials ++ digits 4 c.args.changes) (10 ∷ []))
    (placed-append (omega (arith, c.requires)) (headed (goal.at.returns c).After-put_head-next) c.put_pair.ensures)
