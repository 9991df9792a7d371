use Prim.Native.Nat.{ℕ, ◌-◌, ◌/◌, ◌^◌}
use native.Mathlib.Omega.{arith}
use mathlib.Core.Path.{◌∙◌, ap, sym}
use lib.Bits.{bit_and, and_mask}
use lib.ListN.{get_or}
use Rattle.session.specs.Layout.{table}
use Rattle.sections.proofs.Fills.{fill_start, fill_step, fill_end}
use Rattle.bits.specs.Word.{half_bits}
use Rattle.sections.proofs.narrow.Invariants.{half}
use Rattle.sections.proofs.narrow.Goals as goal

pub loop-i-init : goal.loop-i-init
loop-i-init c =
    fill_start (half c.args.source.now c.args.from) c.args.place.now

pub overflow_cast-place : goal.overflow_cast-place
overflow_cast-place c =
    let a = c.args in
    let masked = and_mask (get_or a.source.now c.loop-i.i 0 / 2 ^ a.from) half_bits in
    omega (arith, masked)

pub loop-i-preserved : goal.loop-i-preserved
loop-i-preserved c =
    let a = c.args in
    let l = c.loop-i in
    fill_step (half a.source.now a.from) a.place.now l.place l.i (bit_and (get_or a.source.now l.i 0 / 2 ^ a.from) (2 ^ half_bits - 1)) l.invariant (omega arith)
    (and_mask (get_or a.source.now l.i 0 / 2 ^ a.from) half_bits)

pub returns : goal.returns
returns c =
    let f : ℕ → ℕ = half c.args.source.now c.args.from in
    fill_end f c.args.place.now c.loop-i.place c.loop-i.i c.loop-i.invariant (omega arith)
    ∙ ap (λ (n : ℕ). table n f) (sym c.requires.0)
