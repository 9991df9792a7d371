use native.Mathlib.Omega.{arith}
use Rattle.frames.proofs.Fronts.{sofar_more, sofar_line, sofar_over}
use Rattle.line_gathering.proofs.gather.Goals as goal

pub returns-then-feed : goal.returns-then-feed
returns-then-feed c =
    let a = c.args in
    let l = c.loop-next in
    sofar_line a.front.now a.used a.block.now a.at l.front l.len l.next l.invariant (omega arith) (omega arith)

pub loop-next-preserved : goal.loop-next-preserved
loop-next-preserved c =
    let a = c.args in
    let l = c.loop-next in
    let p = c.push-len in
    sofar_more a.front.now a.used a.block.now a.at l.front l.len l.next l.invariant (omega arith) (λ e. omega arith)
    p.new.front p.result p.ensures

pub returns : goal.returns
returns c =
    let a = c.args in
    let l = c.loop-next in
    sofar_over a.front.now a.used a.block.now a.at l.front l.len l.next l.invariant (omega arith)
