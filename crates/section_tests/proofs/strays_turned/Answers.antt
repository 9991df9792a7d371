use Prim.Native.Nat.{ℕ}
use native.Mathlib.Omega.{arith}
use mathlib.Core.Path.{◌≡◌, sym, ap, fun_ext, ◌∙◌}
use mathlib.Core.Bool.{Bool, true, false, not, ◌&&◌, not-not, and-true, and-false, beq, cond}
use lib.Bits.{bit_and}
use lib.Dec.{eqb}
use lib.ListN.{length, get_or}
use Rattle.bits.specs.Word.{members}
use Rattle.bits.proofs.Words.{zero-members}
use Rattle.bits.proofs.Gathers.{gather_none, gather_more}
use Rattle.session.specs.Limits.{word_bits}
use Rattle.session.specs.Trigger.{matches}
use Rattle.session.proofs.Admission.{agrees-inside, matches_differs}
use Rattle.section_tests.proofs.Unadmitted.{stray}
use Rattle.section_tests.proofs.strays_turned.Goals as goal

-- the members of a word that is picked by a test
picked_members : (word : ℕ) (test : Bool) (u : ℕ) → members (cond test word 0) u ≡ (members word u && test)
picked_members word true u = sym (and-true (members word u))
picked_members word false u = zero-members u ∙ sym (and-false (members word u))

pub loop-v-init : goal.loop-v-init
loop-v-init g c =
    let a = c.args in
    gather_none (stray a.samples.now a.marks.now (matches word_bits (not (eqb g.row.TURNED 0)) a.mask a.value))

pub loop-v-preserved : goal.loop-v-preserved
loop-v-preserved g c =
    let a = c.args in
    let l = c.loop-v in
    let turned = not (eqb g.row.TURNED 0) in
    let sample = get_or a.samples.now l.v 0 in
    let word = get_or a.marks.now l.v 0 in
    let agrees = eqb (bit_and sample a.mask) a.value in
    gather_more (stray a.samples.now a.marks.now (matches word_bits turned a.mask a.value)) l.all c.picked-all.result l.v l.invariant
    (fun_ext
    (λ u.
    ap (λ (w : ℕ). members w u) c.picked-all.ensures
    ∙ picked_members word (beq agrees turned) u
    ∙ ap (λ (x : Bool). members word u && x)
    (sym (not-not (beq agrees turned))
    ∙ ap not
    (ap (λ (b : Bool). not (beq b turned)) (agrees-inside word_bits a.mask a.value sample c.requires.samples_len.1 c.requires.mask_value)
    ∙ matches_differs word_bits turned a.mask a.value sample))))

pub returns : goal.returns
returns g c =
    let end : c.loop-v.v ≡ length c.args.marks.now = omega arith in
    rw (← end) c.loop-v.invariant
