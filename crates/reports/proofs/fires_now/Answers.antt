-- Firing is read from the marks and the links of the session.
use native.Mathlib.Omega.{arith}
use Prim.Native.Nat.{◌≤◌}
use mathlib.Core.Path.{sym, ◌∙◌, ap}
use lib.ListN.{length, take, drop}
use lib.Seq.{length-take-le}
use Rattle.session.specs.Limits.{marks_at, max_nodes}
use Rattle.session.specs.Layout.{trigger_of, graph_of}
use Rattle.session.proofs.Decoded.{layout_limits}
use Rattle.session_parts.proofs.Parts.{held-links, held-marks, marks-long}
use Rattle.promises.specs.Standing.{fires}
use Rattle.reports.proofs.Held.{held-fires}
use Rattle.reports.proofs.fires_now.Goals as goal
use Rattle.reports.proofs.fires_now.Goals.{After-nodes}

-- the nodes have a word each
few : (c : After-nodes) → c.nodes.result ≤ length c.marks.result.now
few c =
    let xs = c.args.session.now in
    omega (arith, c.nodes.ensures.is, ap length c.marks.ensures.is, marks-long xs c.marks.ensures.held, (layout_limits xs c.marks.ensures.held).few_nodes)

pub slice_bounds-marks-end : goal.slice_bounds-marks-end
slice_bounds-marks-end c =
    sym (length-take-le _ _ (few (goal.at.slice_bounds-marks-end c).After-nodes))

pub reached_marked-requires : goal.reached_marked-requires
reached_marked-requires c =
    let l = held-links c.args.session.now c.links.ensures.held in
    rw c.links.ensures.is (l.0, omega (arith, l.1))

pub returns : goal.returns
returns c =
    let xs = c.args.session.now in
    let h = c.marks.ensures.held in
    rw (c.links.ensures.is, c.nodes.ensures.is, c.marks.ensures.is) at c.reached_marked.ensures
    ∙ held-fires xs h (take max_nodes (drop marks_at xs)) (omega (arith, marks-long xs h, (layout_limits xs h).few_nodes))
    ∙ ap (fires (trigger_of xs) (graph_of xs)) (held-marks xs h)
