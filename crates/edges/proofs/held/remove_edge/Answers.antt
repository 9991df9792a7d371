-- The edges without the old one are written over their section, and their number is lowered.
use native.Mathlib.Omega.{arith}
use mathlib.Core.Path.{◌≡◌, sym, ◌∙◌}
use mathlib.Core.Bool.{true}
use Prim.Native.Nat.{◌+◌, ◌-◌}
use lib.ListN.{get_or}
use Rattle.simulation.specs.Ordered.{elem}
use Rattle.simulation.proofs.Ordered.{rising_make}
use Rattle.session.specs.Limits.{edges_at}
use Rattle.session.specs.Trigger.{edge_number}
use Rattle.session.specs.Layout.{graph_of}
use Rattle.edges.proofs.Stored.{Held, held, joined, edges-part, edge-elem, remove_stored}
use Rattle.edges.proofs.held.remove_edge.Goals as goal
use Rattle.edges.proofs.held.remove_edge.Goals.{Start}

-- the counts and the edges at entry
holds : (c : Start) → Held c.args.session.now
holds c = held c.args.session.now c.requires.session_value

-- its number is among the edges
there : (c : Start) → elem (edge_number c.args.start c.args.end) (graph_of c.args.session.now).edges ≡ true
there c =
    let xs = c.args.session.now in
    sym (edge-elem (graph_of xs) c.args.start c.args.end (omega (arith, (holds c).few_nodes, joined xs c.args.start c.args.end c.requires.session_value c.requires.end_value))) ∙ c.requires.end_value

pub drop_edge-requires : goal.drop_edge-requires
drop_edge-requires c =
    let xs = c.args.session.now in
    rw (edges-part xs (edges_at + get_or xs 2 0 - edges_at) (omega arith)) (rising_make (graph_of xs).edges (holds (goal.at.drop_edge-requires c).Start).rising, there (goal.at.drop_edge-requires c).Start)

pub returns : goal.returns
returns c =
    let xs = c.args.session.now in
    let drop = c.drop_edge in
    remove_stored xs c.requires.session_value c.args.start c.args.end drop.new.edges (edges_at + get_or xs 2 0 - edges_at) _ (omega arith) (omega arith) (there (goal.at.returns c).Start)
    drop.ensures
