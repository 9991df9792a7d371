-- The list has the edge just where it stands at its place.
use mathlib.Core.Path.{sym, ◌∙◌}
use lib.ListN.{length}
use borrow.Author.Tests.{lt-ltb, le-ltb}
use Rattle.simulation.proofs.Ordered.{rising-take}
use Rattle.edges.proofs.Places.{elem-place}
use Rattle.edges.proofs.has_edge.Goals as goal

pub returns-then-at-edges : goal.returns-then-at-edges
returns-then-at-edges c =
    let xs = c.args.edges.now in
    sym (elem-place xs c.args.code c.place_of-at.result (rising-take xs c.requires) c.place_of-at.ensures ∙ rw (lt-ltb c.place_of-at.result (length xs) c.if-at-edges.true))

pub returns-else-at-edges : goal.returns-else-at-edges
returns-else-at-edges c =
    let xs = c.args.edges.now in
    le-ltb c.place_of-at.result (length xs) c.if-at-edges.false
    ∙ sym (elem-place xs c.args.code c.place_of-at.result (rising-take xs c.requires) c.place_of-at.ensures ∙ rw (le-ltb c.place_of-at.result (length xs) c.if-at-edges.false))
