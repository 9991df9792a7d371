-- `take_out` meets its contract.
use borrow.Author.Rules.{rules}
use native.Mathlib.Omega.{arith}
use Rattle.worklist.proofs.Waits.{waits-without}
use Rattle.worklist.proofs.take_out.Goals as goal

pub returns : goal.returns
returns c =
    let a = c.args in
    (search rules, waits-without a.waiting.now a.node c.removed.result (omega arith) c.removed.ensures)
