use Prim.Native.Nat.{◌<◌}
use native.Mathlib.Omega.{arith}
use mathlib.Core.Path.{◌∙◌, ap}
use mathlib.Core.Bool.{Bool}
use lib.ListN.{length}
use mir.Syntax.{w32}
use mir.ValLaws.{to_z-of_z}
use Rattle.listing.specs.Changes.{size_of, signed}
use Rattle.listing.proofs.Placing.{writing_start, writing_room, writing_less, writing_next, writing_end}
use Rattle.change_lists.proofs.node_changes.Goals as goal
use Rattle.change_lists.proofs.node_changes.Goals.{After-lowest-u}

-- the place of the next change
inside : (c : After-lowest-u) → c.loop-rest.next < length c.loop-rest.changes
inside c =
    let a = c.args in
    let w = c.loop-rest.invariant in
    let k = c.lowest-u in
    let room = writing_room a.changes.now a.at a.node a.states a.before a.after w k.result k.ensures.1 k.ensures.2 in
    omega (arith, w.long)

pub loop-rest-init : goal.loop-rest-init
loop-rest-init c =
    let a = c.args in
    writing_start a.changes.now a.at a.node a.states a.before a.after c.differing.result c.below.result
    c.differing.ensures c.below.ensures.1

pub bounds-changes-next : goal.bounds-changes-next
bounds-changes-next c =
    inside (goal.at.bounds-changes-next c).After-lowest-u

pub loop-rest-smaller : goal.loop-rest-smaller
loop-rest-smaller c =
    let a = c.args in
    writing_less a.changes.now a.at a.node a.states a.before a.after c.loop-rest.invariant
    c.lowest-u.result c.lowest-u.ensures.1 c.lowest-u.ensures.2 c.without_lowest-rest.result (c.without_lowest-rest.ensures c.lowest-u.result c.lowest-u.ensures.1 c.lowest-u.ensures.2)

pub loop-rest-preserved : goal.loop-rest-preserved
loop-rest-preserved c =
    let a = c.args in
    let z = c.change in
    writing_next a.changes.now a.at a.node a.states a.before a.after c.loop-rest.invariant
    c.lowest-u.result c.lowest-u.ensures.1 c.lowest-u.ensures.2 c.without_lowest-rest.result (c.without_lowest-rest.ensures c.lowest-u.result c.lowest-u.ensures.1 c.lowest-u.ensures.2) _ (omega arith)
    (to_z-of_z w32 z.result (record { sfits = z.type_inv })
    ∙ z.ensures
    ∙ ap (λ (b : Bool). signed b (size_of c.lowest-u.result a.node)) c.has-is.ensures)

pub returns : goal.returns
returns c =
    let a = c.args in
    writing_end a.changes.now a.at a.node a.states a.before a.after c.loop-rest.invariant c.loop-rest-test.false
