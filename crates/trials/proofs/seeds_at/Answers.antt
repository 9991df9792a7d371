-- The states that admit the edge's ends, and the links between them.
use native.Mathlib.Omega.{arith}
use Rattle.session.proofs.Decoded.{layout-facts}
use Rattle.session_parts.proofs.Parts.{marks-long}
use Rattle.trials.proofs.Trying.{seeds_are}
use Rattle.trials.proofs.seeds_at.Goals as goal

pub linking-able-requires : goal.linking-able-requires
linking-able-requires c =
    let f = (layout-facts c.args.session.now c.marks-marks.ensures.held).trigger in
    rw c.links.ensures.is (omega (arith, f.links, f.few))

pub bounds-marks-start : goal.bounds-marks-start
bounds-marks-start c =
    let xs = c.args.session.now in
    rw c.marks-marks.ensures.is (omega (arith, marks-long xs c.marks-marks.ensures.held, c.requires.0, (layout-facts xs c.marks-marks.ensures.held).graph.few))

pub returns : goal.returns
returns c =
    seeds_are c.args.session.now c.marks-marks.ensures.held c.args.start c.args.end _ _ c.links.ensures.is c.marks-marks.ensures.is
    c.admitting-at_end.result c.linking-able.result c.admitting-at_start.result c.difference.result
    c.admitting-at_end.ensures c.linking-able.ensures c.admitting-at_start.ensures c.difference.ensures
