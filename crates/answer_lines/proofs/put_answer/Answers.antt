-- The report and then its changes, or the refusal.
use Prim.Native.Nat.{◌*◌}
use native.Mathlib.Omega.{arith}
use mathlib.Core.Path.{◌≡◌, ap}
use lib.ListN.{length}
use Rattle.listing.proofs.Placing.{placed-append}
use Rattle.promises.specs.Answers.{told, handed_back}
use Rattle.frames.specs.Outputs.{report_line, change_size}
use Rattle.frames.proofs.Written.{room_after}
use Rattle.frames.proofs.Listed.{report-long}
use Rattle.answer_lines.proofs.put_answer.Goals as goal
use Rattle.answer_lines.proofs.put_answer.Goals.{After-changed_part}

-- the part is the list handed back
handed : (c : After-changed_part) → let a = c.args in c.changed_part.result.now ≡ handed_back a.room.now a.answer
handed c = rw c.in-Ok.is c.changed_part.ensures

pub put_changes-requires : goal.put_changes-requires
put_changes-requires c =
    let k = c.put_report-next in
    let e = ap length (handed c) in
    let v = c.in-Ok.report in
    omega (arith, e, room_after c.args.out.now 0 (report_line c.from-fires.result v.trials v.changes) k.new.out k.result (change_size * length (handed_back c.args.room.now c.args.answer)) (omega (arith, c.requires, report-long c.from-fires.result v.trials v.changes)) k.ensures)

pub returns-in-Ok : goal.returns-in-Ok
returns-in-Ok c =
    rw (ap told c.in-Ok.is, ← handed (goal.at.returns-in-Ok c).After-changed_part, ← c.from-fires.ensures)
    (placed-append (omega arith) c.put_report-next.ensures c.put_changes.ensures)

pub returns-in-Err : goal.returns-in-Err
returns-in-Err c =
    rw (ap told c.in-Err.is) c.put_broken.ensures
