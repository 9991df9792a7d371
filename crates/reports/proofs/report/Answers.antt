-- The list is written from the marks of the session, and the answer tells its length.
use native.Mathlib.Omega.{arith}
use lib.ListN.{take, drop}
use Rattle.session.specs.Limits.{marks_at, max_nodes}
use Rattle.session.proofs.Decoded.{layout_limits}
use Rattle.session_parts.proofs.Parts.{marks-long}
use Rattle.reports.proofs.Held.{held-few}
use Rattle.reports.proofs.Reported.{reported}
use Rattle.reports.proofs.report.Goals as goal

pub write_changes-count-requires : goal.write_changes-count-requires
write_changes-count-requires c =
    let xs = c.args.session.now in
    let m = c.marks-marks.ensures in
    let b = layout_limits xs m.held in
    rw (c.states.ensures.is, c.nodes.ensures.is, m.is)
    (record {
      states_le_max_states = (b.few_states, b.few_nodes, c.requires.1);
      nodes_in_bounds = (omega (arith, b.few_nodes, c.requires.0), omega (arith, b.few_nodes, marks-long xs m.held));
    })

pub overflow_cast-count : goal.overflow_cast-count
overflow_cast-count c =
    let w = rw (c.states.ensures.is, c.nodes.ensures.is, c.marks-marks.ensures.is) at c.write_changes-count.ensures in
    omega (arith, w.past, held-few c.args.session.now c.marks-marks.ensures.held c.args.before.now (take max_nodes (drop marks_at c.args.session.now)))

pub returns : goal.returns
returns c =
    let w = c.write_changes-count in
    reported c.args.session.now c.marks-marks.ensures.held c.args.before.now c.args.trials w.result c.args.room.now w.new.changes c.answered.result
    (rw (c.states.ensures.is, c.nodes.ensures.is, c.marks-marks.ensures.is) at w.ensures) c.answered.ensures
