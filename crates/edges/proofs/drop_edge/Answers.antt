-- The edges above the place of the edge move down by one, and the last place becomes zero.
use native.Mathlib.Omega.{arith}
use Prim.Native.Nat.{ℕ, ◌-◌, ◌<◌}
use mathlib.Core.Path.{refl, sym, ◌∙◌, ap}
use mathlib.Core.List.{List, [], ◌∷◌, ◌++◌}
use lib.ListN.{length, length-drop}
use Rattle.simulation.proofs.Ordered.{rising-take}
use Rattle.edges.proofs.Places.{place_of_member, remove-place}
use Rattle.edges.proofs.Moves.{to_end, dropped}
use Rattle.edges.proofs.drop_edge.Goals as goal
use Rattle.edges.proofs.drop_edge.Goals.{After-place_of-at}

-- the edge stands at its place
stands : (c : After-place_of-at) → c.place_of-at.result < length c.args.edges.now
stands c =
    let xs = c.args.edges.now in
    rw c.place_of-at.ensures (place_of_member xs c.args.code (rising-take xs c.requires.0) c.requires.1).0

pub offset_bounds-edges-at : goal.offset_bounds-edges-at
offset_bounds-edges-at c =
    omega (arith, stands c)

pub slice_bounds-move_down-count : goal.slice_bounds-move_down-count
slice_bounds-move_down-count c =
    omega (arith, stands c)

pub slice_bounds-move_down-start : goal.slice_bounds-move_down-start
slice_bounds-move_down-start c =
    omega (arith, stands c)

pub move_down-requires : goal.move_down-requires
move_down-requires c =
    let xs = c.args.edges.now in
    let at = c.place_of-at.result in
    rw (to_end xs at (length xs - at) (stands (goal.at.move_down-requires c).After-place_of-at) refl) (omega (arith, length-drop at xs, stands (goal.at.move_down-requires c).After-place_of-at))

pub returns : goal.returns
returns c =
    let xs = c.args.edges.now in
    let at = c.place_of-at.result in
    let down = c.move_down in
    dropped xs at (length xs - at) (stands (goal.at.returns c).After-place_of-at) refl down.new.part down.ensures
    ∙ ap (λ (r : List ℕ). r ++ (0 ∷ [])) (sym (remove-place c.args.code xs at (rising-take xs c.requires.0) c.requires.1 c.place_of-at.ensures))
