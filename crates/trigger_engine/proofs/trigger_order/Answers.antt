-- Too few places, the order written, or the rule.
use native.Mathlib.Omega.{arith}
use Rattle.answer_numbers.proofs.Orders.{order-short, order-listed, order-refused}
use Rattle.trigger_engine.proofs.trigger_order.Goals as goal
use Rattle.trigger_engine.proofs.trigger_order.Goals.{in-Ok, in_default}

pub returns-then-short : goal.returns-then-short
returns-then-short c =
    let a = c.args in
    rw c.order_number.ensures (order-short a.session.now a.states.now (omega (arith, c.if-short.true)))

pub returns : goal.returns
returns c =
    let o = c.order-answer in
    let n = c.order_number-2.ensures in
    elim c.match-answer.branch [
      | in-Ok w ↦ rw w.states-is (order-listed _ _ c.if-short.false o.result o.ensures _ n w.in-Ok.order _ w.in-Ok.is w.fill_front.ensures)
      | in_default w ↦ rw w.states-is (order-refused _ _ c.if-short.false o.result o.ensures _ n w.in_default.field-0 w.in_default.is)
    ]
