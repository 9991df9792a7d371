use Prim.Native.Nat.{◌≤◌}
use native.Mathlib.Omega.{arith}
use borrow.Author.Rules.{rules}
use mathlib.Core.Path.{◌≡◌, ap, ◌∙◌}
use mathlib.Core.Bool.{Bool, not, beq}
use lib.Dec.{eqb}
use lib.ListN.{length, get_or}
use Rattle.session.specs.Limits.{word_bits}
use Rattle.session.proofs.Admission.{agrees_masked, matches_differs}
use Rattle.pair_tables.proofs.Admitting.{seen_start, seen_step, seen_end, picked_le}
use Rattle.pair_tables.proofs.put_turned.Goals as goal
use Rattle.pair_tables.proofs.put_turned.Goals.{After-picked-count}
use Rattle.pair_tables.proofs.put_turned.Given.{Over}

-- one more, where the test holds
few : (g : Over) (c : After-picked-count g) → c.picked-count.result ≤ 1
few g c = picked_le _ c.picked-count.result 1 c.picked-count.ensures

pub loop-v-init : goal.loop-v-init
loop-v-init g c =
    let a = c.args in
    (search rules, seen_start a.samples.now (not (eqb g.row.TURNED 0)) a.mask a.value a.u a.table.now)

pub overflow_add-count : goal.overflow_add-count
overflow_add-count g c =
    omega (arith, few g c)

pub loop-v-preserved : goal.loop-v-preserved
loop-v-preserved g c =
    let a = c.args in
    let turned = not (eqb g.row.TURNED 0) in
    let sample = get_or a.samples.now c.loop-v.v 0 in (
      omega (arith, few g c),
      seen_step a.samples.now turned a.mask a.value a.u a.table.now c.loop-v.invariant.1 c.only-bit.result c.picked.result c.picked-count.result
          _ (search rules)
          (ap (λ (b : Bool). not (beq b turned)) (agrees_masked word_bits a.mask a.value sample c.requires.0) ∙ matches_differs word_bits turned a.mask a.value sample)
          c.only-bit.ensures c.picked.ensures c.picked-count.ensures,
    )

pub returns : goal.returns
returns g c =
    let a = c.args in
    let end : c.loop-v.v ≡ length a.samples.now = omega arith in
    seen_end a.samples.now (not (eqb g.row.TURNED 0)) a.mask a.value a.u a.table.now (rw end at c.loop-v.invariant.1)
