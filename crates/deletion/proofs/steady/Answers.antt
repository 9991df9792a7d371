-- The node is looked at once, by the marks alone; where there are none, all keep their support.
use native.Mathlib.Omega.{arith}
use Prim.Native.Nat.{ℕ, ◌<◌}
use mathlib.Core.List.{List}
use mathlib.Core.Path.{◌≡◌, refl, sym, ap, ◌∙◌}
use lib.ListN.{length, get_or}
use Rattle.simulation.specs.Sets.{Set}
use Rattle.session.specs.Layout.{trigger_of, graph_of}
use Rattle.session.proofs.Decoded.{layout-facts}
use Rattle.refinement.specs.Refining.{unmet_of}
use Rattle.edge_indexes.specs.Indexes.{edges_from}
use Rattle.refinement.proofs.Systems.{held_sound}
use Rattle.session_parts.proofs.Parts.{marks-long}
use Rattle.deletion.proofs.SteadyNodes.{steady_is, unmet_none}
use Rattle.session.specs.Limits.{max_nodes}
use Rattle.deletion.proofs.steady.Goals as goal
use Rattle.deletion.proofs.steady.Goals.{After-marks-marks}

-- a word for each node, and the node is one of them
long : (c : After-marks-marks) → length c.marks-marks.result.now ≡ max_nodes
long c = ap length c.marks-marks.ensures.is ∙ marks-long c.args.session.now c.marks-marks.ensures.held

inside : (c : After-marks-marks) → c.args.node < max_nodes
inside c = omega (arith, c.requires, (layout-facts c.args.session.now c.marks-marks.ensures.held).graph.few)

pub bounds-marks-node : goal.bounds-marks-node
bounds-marks-node c =
    omega (arith, inside (goal.at.bounds-marks-node c).After-marks-marks, long (goal.at.bounds-marks-node c).After-marks-marks)

pub returns-then-word-eq0 : goal.returns-then-word-eq0
returns-then-word-eq0 c =
    let xs = c.args.session.now in
    let marks = c.marks-marks in
    let lacking : ℕ → Set = λ w. unmet_of w (trigger_of xs).links (edges_from (graph_of xs).edges c.args.node) marks.result.now marks.result.now in
    steady_is xs c.marks-marks.ensures.held marks.result.now marks.ensures.is c.args.node _ _ 0 refl refl
    (unmet_none (trigger_of xs).links (edges_from (graph_of xs).edges c.args.node) marks.result.now marks.result.now ∙ ap lacking (sym c.if-word-eq0.true))

pub edges_from-edges-requires : goal.edges_from-edges-requires
edges_from-edges-requires c =
    let sound = held_sound c.args.session.now c.marks-marks.ensures.held (trigger_of c.args.session.now).links _ refl c.edges.ensures.is in
    (sound.ascend, omega (arith, sound.few_edges), inside (goal.at.edges_from-edges-requires c).After-marks-marks)

pub unmet-requires : goal.unmet-requires
unmet-requires c =
    let f = (layout-facts c.args.session.now c.marks-marks.ensures.held).trigger in
    (rw c.links.ensures.is (omega (arith, f.links, f.few)), long (goal.at.unmet-requires c).After-marks-marks, long (goal.at.unmet-requires c).After-marks-marks)

pub returns : goal.returns
returns c =
    let xs = c.args.session.now in
    let marks = c.marks-marks in
    let sought : List ℕ → Set = λ es. unmet_of (get_or marks.result.now c.args.node 0) c.links.result.now es marks.result.now marks.result.now in
    steady_is xs c.marks-marks.ensures.held marks.result.now marks.ensures.is c.args.node _ _ c.unmet.result c.links.ensures.is c.edges.ensures.is
    (c.unmet.ensures ∙ ap sought c.edges_from-edges.ensures)
