use native.Mathlib.Omega.{arith}
use mathlib.Core.Path.{sym}
use Rattle.worklist.proofs.Waits.{waits-lowest, waits-none}
use Rattle.worklist.proofs.lowest_in.Goals as goal

pub returns-then-word-ne0 : goal.returns-then-word-ne0
returns-then-word-ne0 c =
    (omega (arith, c.lowest.ensures.0), sym (waits-lowest c.args.waiting.now c.loop-i.i c.loop-i.invariant c.lowest.result (omega arith) c.lowest.ensures))

pub returns : goal.returns
returns c =
    waits-none c.args.waiting.now (λ k l. c.loop-i.invariant k (omega arith))
