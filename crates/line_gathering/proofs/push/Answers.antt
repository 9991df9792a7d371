-- There is room for the byte.
use native.Mathlib.Omega.{arith}
use Rattle.frames.proofs.Fronts.{keeps_byte}
use Rattle.line_gathering.proofs.push.Goals as goal

pub returns-then-used-front : goal.returns-then-used-front
returns-then-used-front c =
    let a = c.args in keeps_byte a.front.now a.used a.byte (omega arith)
