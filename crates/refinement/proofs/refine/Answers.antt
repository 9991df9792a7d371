use mathlib.Core.Path.{refl}
use Rattle.refinement.proofs.Settling.{refining_turn, refining_less}
use Rattle.refinement.proofs.refine.Goals as goal

pub loop-v-smaller : goal.loop-v-smaller
loop-v-smaller c =
    refining_less _ _ _ c.args.net.now.sound _ _ _ _ _ _ c.in-Some.ensures.1 c.if-v-net.true c.turn.ensures

pub loop-v-preserved : goal.loop-v-preserved
loop-v-preserved c =
    refining_turn _ _ _ c.args.net.now.sound _ _ _ _ _ _ _ _ _ _ c.loop-v.invariant c.turn.ensures refl
