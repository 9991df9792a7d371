use Prim.Native.Nat.{ℕ, ◌^◌, ◌<◌}
use native.Mathlib.Omega.{arith}
use mathlib.Core.Path.{◌≡◌, sym, ap, ◌∙◌}
use mathlib.Core.Bool.{Bool, true, not, and-true}
use mathlib.Core.List.{List}
use lib.Bits.{bit_and, and_le_r}
use lib.ListN.{length, get_or}
use Rattle.simulation.specs.Sets.{Set}
use Rattle.bits.specs.Word.{members}
use Rattle.bits.proofs.Words.{and_again}
use Rattle.bits.proofs.Gathers.{gathers}
use Rattle.session.specs.Limits.{word_bits}
use Rattle.session.specs.Trigger.{matches}
use Rattle.session.specs.Tests.{sparse}
use Rattle.session.proofs.Admission.{matches-part}
use Rattle.session.proofs.Tables.{below-take}
use Rattle.section_tests.proofs.Unadmitted.{stray, sparse-stray, sparse-same, sparse-none}
use Rattle.section_tests.proofs.Folds.{test_none, test_more, test_all}
use Rattle.section_tests.proofs.all_sparse.Invariants.{admitted}
use Rattle.section_tests.proofs.all_sparse.Goals as goal
use Rattle.section_tests.proofs.all_sparse.Goals.{In-loop-u, then-has, else-has}

-- what the marks that are found say, with the part of the value inside the mask
tested : (samples marks : List ℕ) (turned : ℕ) (over : Bool) (mask value all u : ℕ) → mask < 2 ^ word_bits → over ≡ members turned u
    → members all ≡ gathers (length marks) (stray samples marks (matches word_bits over mask (bit_and value mask)))
    → sparse samples marks (matches word_bits (members turned u) mask value) u ≡ not (members all u)
tested samples marks turned over mask value all u h t e =
    let inside : Set = matches word_bits over mask (bit_and value mask) in
    rw (← t)
    (sym
    (sparse-stray samples marks inside all u e
    ∙ sparse-same samples marks inside (matches word_bits over mask value) (λ x. matches-part word_bits over mask value x h) u))

-- a mask is a word
small : (c : In-loop-u) → get_or c.args.patterns.now.masks.now c.loop-u.u 0 < 2 ^ word_bits
small c = below-take (2 ^ word_bits) c.args.patterns.now.masks.now c.args.patterns.now.masks_fit c.loop-u.u (omega arith)

pub loop-u-init : goal.loop-u-init
loop-u-init c =
    let a = c.args in
    test_none (admitted a.patterns.now.masks.now a.patterns.now.values.now a.turned a.samples.now a.marks.now)

pub overflow_cast-mask : goal.overflow_cast-mask
overflow_cast-mask c =
    omega (arith, small (goal.at.overflow_cast-mask c).In-loop-u)

pub overflow_cast-wanted : goal.overflow_cast-wanted
overflow_cast-wanted c =
    let a = c.args in
    omega (arith, small (goal.at.overflow_cast-wanted c).In-loop-u, and_le_r (get_or a.patterns.now.values.now c.loop-u.u 0) (get_or a.patterns.now.masks.now c.loop-u.u 0))

pub strays-stray-requires : goal.strays-stray-requires
strays-stray-requires c =
    let a = c.args in record {
      samples_len = (c.requires.samples_len.0, small (goal.at.strays-stray-requires c).In-loop-u);
      mask_value = and_again (get_or a.patterns.now.values.now c.loop-u.u 0) (get_or a.patterns.now.masks.now c.loop-u.u 0);
    }

pub loop-u-preserved : goal.loop-u-preserved
loop-u-preserved c =
    let l = c.loop-u in
    let a = c.args in
    let P = admitted a.patterns.now.masks.now a.patterns.now.values.now a.turned a.samples.now a.marks.now in
    let mask = get_or a.patterns.now.masks.now l.u 0 in
    let value = get_or a.patterns.now.values.now l.u 0 in
    let word = small (goal.at.loop-u-preserved c).In-loop-u in
    elim c.if-has.branch [
      | then-has w ↦
          rw w.all-is
          (test_more P l.u l.all _ l.invariant
          (sym
          (tested a.samples.now a.marks.now a.turned w.has-over.result mask value w.strays-stray.result l.u word w.has-over.ensures w.strays-stray.ensures
          ∙ ap not (sym (w.has-then-has.ensures ∙ ap (λ (x : ℕ). members x l.u) w.from.ensures)))))
      | else-has w ↦
          rw w.all-is
          (sym (and-true l.all)
          ∙ test_more P l.u l.all true l.invariant
          (sym (sparse-none a.samples.now a.marks.now (matches word_bits (members a.turned l.u) mask value) l.u (sym (c.requires.by_index l.u (omega arith)) ∙ sym c.has.ensures ∙ w.if-has.false))))
    ]

pub returns : goal.returns
returns c =
    let a = c.args in
    let l = c.loop-u in
    test_all (admitted a.patterns.now.masks.now a.patterns.now.values.now a.turned a.samples.now a.marks.now) (length a.patterns.now.masks.now) l.u l.all l.invariant (omega arith)
