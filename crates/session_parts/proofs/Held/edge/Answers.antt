-- The session has the edge just where its list of edges has its number.
use native.Mathlib.Omega.{arith}
use mathlib.Core.Path.{sym, ◌∙◌}
use Rattle.simulation.proofs.Ordered.{rising_make}
use Rattle.session.specs.Layout.{graph_of}
use Rattle.session.proofs.Decoded.{layout-facts}
use Rattle.edges.proofs.Stored.{edge-elem}
use Rattle.session_parts.proofs.Held.edge.Goals as goal

pub overflow_mul-start : goal.overflow_mul-start
overflow_mul-start c = omega (arith, (layout-facts c.args.self.now c.edges.ensures.held).graph.few)

pub overflow_add-start : goal.overflow_add-start
overflow_add-start c = omega (arith, (layout-facts c.args.self.now c.edges.ensures.held).graph.few)

pub has_edge-requires : goal.has_edge-requires
has_edge-requires c =
    rw c.edges.ensures.is (rising_make (graph_of c.args.self.now).edges (layout-facts c.args.self.now c.edges.ensures.held).graph.rising)

pub returns : goal.returns
returns c =
    let a = c.args in
    let xs = a.self.now in
    rw c.edges.ensures.is at c.has_edge.ensures
    ∙ sym (edge-elem (graph_of xs) a.start a.end (omega (arith, (layout-facts xs c.edges.ensures.held).graph.few, c.requires.1)))
