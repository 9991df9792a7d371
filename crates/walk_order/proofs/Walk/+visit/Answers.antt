use native.Mathlib.Omega.{arith}
use mathlib.Core.Path.{sym, ◌∙◌}
use Rattle.walk_order.proofs.Walks.{along-start, along-none, along-old, along-new, along_falls, along-end, written-counted, ready-room}
use Rattle.walk_order.proofs.Walk.+visit.Goals as goal
use Rattle.walk_order.proofs.Walk.+visit.Goals.{then-has+then-not-has, else-has, else-has-via-then-has+else-not-has, else-has-via-else-has}

pub write-requires : goal.write-requires
write-requires t c =
    let r = c.requires in
    (omega (arith, ready-room _ _ _ r), omega arith)

pub loop-i-init : goal.loop-i-init
loop-i-init t c = along-start _ _ _ (written-counted _ _ _ c.requires _ c.write.ensures)

pub visit-requires : goal.visit-requires
visit-requires t c =
    let r = c.requires in
    let g = c.loop-i.invariant in (
      rw (← c.decreases) (along_falls _ _ _ _ _ _ r c.write.ensures g),
      record {
        inside = c.loop-i-test.true;
        few = r.few;
        unseen = sym c.has-then-has.ensures ∙ c.if-not-has.true;
        counted = g.counted;
      },
    )

pub loop-i-preserved : goal.loop-i-preserved
loop-i-preserved t c =
    let g = c.loop-i.invariant in
    let m = c.loop-i-test.true in
    let link = sym c.has.ensures in
    elim c.if-has.branch [
      | then-has+then-not-has w ↦ rw w.self-is (along-new _ _ _ _ _ m g _ (link ∙ w.if-has.true) w.visit.ensures)
      | else-has w ↦
          rw w.self-is
          (elim w.else-has.branch [
            | else-has-via-then-has+else-not-has o ↦
                along-old _ _ _ _ _ m g (link ∙ o.if-has.true) (sym o.has-then-has.ensures ∙ o.if-not-has.false)
            | else-has-via-else-has o ↦ along-none _ _ _ _ _ m g (link ∙ o.if-has.false)
          ])
    ]

pub returns : goal.returns
returns t c = along-end _ _ _ _ _ _ c.requires c.write.ensures c.loop-i.invariant c.loop-i-test.false
