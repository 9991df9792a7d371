-- The edges above the place of the new one move up by one; then it is stored.
use native.Mathlib.Omega.{arith}
use Prim.Native.Nat.{◌-◌, ◌<◌}
use mathlib.Core.Path.{refl, sym, ◌∙◌}
use lib.ListN.{length, take, length-drop}
use lib.Seq.{length-take-le}
use borrow.Rule.Slice.PartMut.{same_len_mid}
use Rattle.simulation.proofs.Ordered.{rising-take, place-le}
use Rattle.edges.proofs.Places.{insert-place}
use Rattle.edges.proofs.Moves.{to_end, put_in}
use Rattle.edges.proofs.put_edge.Goals as goal
use Rattle.edges.proofs.put_edge.Goals.{After-place_of-at}

-- the place is among those before the last, or is the last
stands : (c : After-place_of-at) → c.place_of-at.result < length c.args.edges.now
stands c =
    let xs = c.args.edges.now in
    let front = take (length xs - 1) xs in
    omega (arith, c.place_of-at.ensures, place-le front c.args.code, length-take-le (length xs - 1) xs (omega arith))

pub slice_bounds-place_of-end-2 : goal.slice_bounds-place_of-end-2
slice_bounds-place_of-end-2 c =
    sym (length-take-le _ c.args.edges.now (omega arith))

pub offset_bounds-edges-at : goal.offset_bounds-edges-at
offset_bounds-edges-at c =
    omega (arith, stands c)

pub slice_bounds-move_up-count : goal.slice_bounds-move_up-count
slice_bounds-move_up-count c =
    omega (arith, stands c)

pub slice_bounds-move_up-start : goal.slice_bounds-move_up-start
slice_bounds-move_up-start c =
    omega (arith, stands c)

pub move_up-requires : goal.move_up-requires
move_up-requires c =
    let xs = c.args.edges.now in
    let at = c.place_of-at.result in
    rw (to_end xs at (length xs - at) (stands (goal.at.move_up-requires c).After-place_of-at) refl) (omega (arith, length-drop at xs, stands (goal.at.move_up-requires c).After-place_of-at))

pub offset_bounds-edges-at-2 : goal.offset_bounds-edges-at-2
offset_bounds-edges-at-2 c =
    omega (arith, stands (goal.at.offset_bounds-edges-at-2 c).After-place_of-at)

pub bounds-edges-at : goal.bounds-edges-at
bounds-edges-at c =
    let xs = c.args.edges.now in
    let at = c.place_of-at.result in
    let up = c.move_up in
    rw (same_len_mid at (length xs - at) xs up.new.part up.auto.part) (stands (goal.at.bounds-edges-at c).After-place_of-at)

pub returns : goal.returns
returns c =
    let xs = c.args.edges.now in
    let front = take (length xs - 1) xs in
    let at = c.place_of-at.result in
    let up = c.move_up in
    put_in xs at (length xs - at) (stands (goal.at.returns c).After-place_of-at) refl c.args.code up.new.part up.ensures
    ∙ sym (insert-place c.args.code front at (rising-take front c.requires.1) c.place_of-at.ensures)
