-- The states that admit the node, less its marks.
use native.Mathlib.Omega.{arith}
use mathlib.Core.Path.{◌∙◌}
use Rattle.session.proofs.Decoded.{layout-facts}
use Rattle.session_parts.proofs.Parts.{marks-long}
use Rattle.trials.proofs.Lonely.{fresh-met}
use Rattle.trials.proofs.fresh_among.Goals as goal

pub bounds-marks-node : goal.bounds-marks-node
bounds-marks-node c =
    let xs = c.args.session.now in
    rw c.marks-marks.ensures.is (omega (arith, marks-long xs c.marks-marks.ensures.held, c.requires.1, (layout-facts xs c.marks-marks.ensures.held).graph.few))

pub returns : goal.returns
returns c =
    c.meet.ensures
    ∙ fresh-met c.args.session.now c.marks-marks.ensures.held _ c.marks-marks.ensures.is c.args.word c.args.node c.admitting-able.result
    c.difference.result c.admitting-able.ensures c.difference.ensures
