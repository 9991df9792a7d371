use native.Mathlib.Omega.{arith}
use borrow.Author.Rules.{rules}
use mathlib.Core.Path.{◌≡◌, sym, ◌∙◌}
use mathlib.Core.Bool.{false}
use Rattle.bits.specs.Word.{members}
use Rattle.walk_order.specs.Walks.{Ready}
use Rattle.walk_order.proofs.Walks.{following_start, following_old, following_new, ready-room}
use Rattle.walk_order.proofs.Walk.follow.Goals as goal
use Rattle.walk_order.proofs.Walk.follow.Goals.{In-loop-i, then-missed, else-missed}

ready : (c : In-loop-i) → members c.loop-i.self.visited c.loop-i.i ≡ false
    → Ready c.args.states c.loop-i.i c.loop-i.self
ready c e = record {
  inside = c.loop-i-test.true;
  few = c.requires.0;
  unseen = e;
  counted = c.loop-i.invariant.counted;
}

pub loop-i-init : goal.loop-i-init
loop-i-init c =
    following_start _ _ c.requires.1

pub write-requires : goal.write-requires
write-requires c =
    let r = ready (goal.at.write-requires c).In-loop-i (sym c.has-missed.ensures ∙ c.if-missed.true) in
    (omega (arith, ready-room _ _ _ r), search rules)

pub loop-i-preserved : goal.loop-i-preserved
loop-i-preserved c =
    let g = c.loop-i.invariant in
    let m = c.loop-i-test.true in
    let seen = sym c.has-missed.ensures in
    elim c.if-missed.branch [
      | then-missed w ↦
          rw w.self-is (following_new _ _ _ _ m g _ (ready (goal.at.loop-i-preserved c).In-loop-i (seen ∙ w.if-missed.true)) w.write.ensures)
      | else-missed w ↦ rw w.self-is (following_old _ _ _ _ m g (seen ∙ w.if-missed.false))
    ]
