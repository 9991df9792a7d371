-- `put_in` meets its contract.
use borrow.Author.Rules.{rules}
use native.Mathlib.Omega.{arith}
use Rattle.worklist.proofs.Waits.{waits-also}
use Rattle.worklist.proofs.put_in.Goals as goal

pub returns : goal.returns
returns c =
    let a = c.args in
    (search rules, waits-also a.waiting.now a.node c.added.result (omega arith) c.added.ensures)
