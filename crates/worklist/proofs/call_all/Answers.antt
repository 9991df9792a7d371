use Prim.Native.Nat.{ℕ, ◌+◌, ◌-◌, ◌*◌}
use native.Mathlib.Omega.{arith}
use mathlib.Core.Path.{◌≡◌, ap, ◌∙◌}
use lib.ListN.{length-set}
use Rattle.worklist.specs.Waiting.{waiting_words}
use Rattle.worklist.proofs.Occupied.{called, called-step, called-all}
use Rattle.bits.specs.Word.{set_bits}
use Rattle.worklist.proofs.call_all.Goals as goal

pub loop-i-preserved : goal.loop-i-preserved
loop-i-preserved c =
    let a = c.args in
    let l = c.loop-i in (
      length-set l.waiting l.i c.united.result ∙ l.invariant.0,
      called-step a.waiting.now a.table.now l.i l.waiting l.invariant.1 (l.i * set_bits + set_bits - l.i * set_bits) c.held_among.result c.united.result
          (omega arith) (omega (arith, l.invariant.0)) c.held_among.ensures c.united.ensures,
    )

pub returns : goal.returns
returns c =
    let a = c.args in
    let l = c.loop-i in
    let end : l.i ≡ waiting_words = omega arith in (
      l.invariant.0,
      λ v. l.invariant.1 v ∙ ap (λ (i : ℕ). called a.waiting.now a.table.now i v) end ∙ called-all a.waiting.now a.table.now c.requires.0 v,
    )
