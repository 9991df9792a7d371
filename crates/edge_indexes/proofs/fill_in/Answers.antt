use Rattle.edge_indexes.proofs.Firsts.{filled-before, filled-noted, filling_next}
use mathlib.Core.Path.{◌∙◌}
use native.Mathlib.Omega.{arith}
use Prim.Native.Nat.{◌<◌}
use Rattle.edge_indexes.specs.Indexes.{starts_size}
use Rattle.edge_indexes.proofs.fill_in.Goals as goal
use Rattle.edge_indexes.proofs.fill_in.Goals.{then-first-ne0, else-first-ne0}

pub loop-first-preserved : goal.loop-first-preserved
loop-first-preserved c =
    let x = c.loop-first.invariant in
    let inside : c.loop-first.first-index < starts_size = omega (arith, x.long, c.loop-first-test.true) in
    filling_next x inside c.if-first-ne0.place
    (elim c.if-first-ne0.branch [
      | then-first-ne0 w ↦ w.place-is ∙ filled-noted x inside w.if-first-ne0.true
      | else-first-ne0 w ↦ w.place-is ∙ filled-before x inside w.if-first-ne0.false
    ])
