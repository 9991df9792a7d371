-- The edges with the new one are written over their section, and their number is raised.
use native.Mathlib.Omega.{arith}
use Prim.Native.Nat.{◌+◌, ◌-◌, ◌≤◌}
use lib.ListN.{length, get_or}
use Rattle.simulation.proofs.Ordered.{rising_make}
use Rattle.session.specs.Limits.{edges_at}
use Rattle.session.specs.Layout.{graph_of}
use Rattle.edges.proofs.Stored.{Held, held, part-size, edges-front, insert_stored}
use Rattle.edges.proofs.held.insert_edge.Goals as goal
use Rattle.edges.proofs.held.insert_edge.Goals.{Start}

-- the counts and the edges at entry
holds : (c : Start) → Held c.args.session.now
holds c = held c.args.session.now c.requires.session_value

pub put_edge-requires : goal.put_edge-requires
put_edge-requires c =
    let xs = c.args.session.now in
    let k = edges_at + 1 + get_or xs 2 0 - edges_at in
    let f = holds (goal.at.put_edge-requires c).Start in
    let room : edges_at + k ≤ length xs = omega (arith, f.long, f.few_edges) in
    (omega (arith, part-size xs k room), rw (edges-front xs k (omega arith) room) (rising_make (graph_of xs).edges f.rising))

pub returns : goal.returns
returns c =
    let xs = c.args.session.now in
    let put = c.put_edge in
    insert_stored xs c.requires.session_value c.args.start c.args.end put.new.edges (edges_at + 1 + get_or xs 2 0 - edges_at) _ (omega arith) (omega arith)
    (omega (arith, (holds (goal.at.returns c).Start).count)) put.ensures
