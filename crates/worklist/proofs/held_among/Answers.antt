use native.Mathlib.Omega.{arith}
use mathlib.Core.Path.{◌≡◌, refl, ap, ◌∙◌}
use Rattle.simulation.specs.Sets.{none, Set}
use Rattle.bits.specs.Word.{set_bits}
use Rattle.simulation.proofs.Gains.{gained, gained-all}
use Rattle.worklist.proofs.Occupied.{occupied, none-past, held-step}
use Rattle.worklist.proofs.held_among.Goals as goal

pub loop-k-preserved : goal.loop-k-preserved
loop-k-preserved c =
    let a = c.args in
    let l = c.loop-k in
    let bit = c.only in
    held-step a.part.now l.k l.all l.invariant bit.result c.picked-all.result (occupied a.part.now l.k) refl bit.ensures c.picked-all.ensures

pub returns : goal.returns
returns c =
    let l = c.loop-k in
    let P : Set = occupied c.args.part.now in
    let end : l.k ≡ set_bits = omega (arith, c.requires) in
    λ k.
    ap (λ (X : Set). X k) (l.invariant ∙ ap (gained none P) end)
    ∙ gained-all none P set_bits (λ w h. none-past c.args.part.now w (omega (arith, c.requires))) k
