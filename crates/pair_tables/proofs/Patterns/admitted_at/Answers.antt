use Prim.Native.Nat.{◌^◌, ◌<◌}
use borrow.Author.Rules.{rules}
use native.Mathlib.Omega.{arith}
use mathlib.Core.Path.{◌≡◌, ap, fun_ext, ◌∙◌}
use lib.ListN.{length, get_or}
use Rattle.simulation.specs.Sets.{none, Set}
use Rattle.bits.specs.Word.{members}
use Rattle.bits.proofs.Words.{zero-members}
use Rattle.session.specs.Limits.{word_bits}
use Rattle.session.proofs.Tables.{below-take}
use Rattle.simulation.proofs.Gains.{gained, gained-none, gained-more, gained_pass}
use Rattle.pair_tables.proofs.Tabling.{agreeing, agreeing_yes, agreeing_no, agreeing-turned}
use Rattle.pair_tables.proofs.Patterns.admitted_at.Goals as goal
use Rattle.pair_tables.proofs.Patterns.admitted_at.Goals.{then-agrees, else-agrees}

pub loop-u-init : goal.loop-u-init
loop-u-init c =
    let a = c.args in fun_ext zero-members ∙ gained-none none (agreeing a.self.now.masks.now a.self.now.values.now a.sample)

pub loop-u-preserved : goal.loop-u-preserved
loop-u-preserved c =
    let a = c.args in
    let l = c.loop-u in
    let P : Set = agreeing a.self.now.masks.now a.self.now.values.now a.sample in
    let small : get_or a.self.now.masks.now l.u 0 < 2 ^ word_bits = below-take (2 ^ word_bits) a.self.now.masks.now c.args.self.now.masks_fit l.u (search rules) in
    elim c.if-agrees.branch [
      | then-agrees w ↦
          ap members w.all-is
          ∙ gained-more none P l.u l.invariant (agreeing_yes a.self.now.masks.now a.self.now.values.now a.sample l.u small w.if-agrees.true) w.added-all.ensures
      | else-agrees w ↦
          ap members w.all-is
          ∙ gained_pass none P l.u l.invariant (agreeing_no a.self.now.masks.now a.self.now.values.now a.sample l.u small w.if-agrees.false)
    ]

pub returns : goal.returns
returns c =
    let a = c.args in
    let l = c.loop-u in
    let end : l.u ≡ length a.self.now.masks.now = omega arith in
    let all = l.invariant ∙ ap (gained none (agreeing a.self.now.masks.now a.self.now.values.now a.sample)) end in
    agreeing-turned a.self.now.masks.now a.self.now.values.now a.sample (length a.self.now.masks.now) a.turned (members l.all) (members c.differing.result)
    c.requires all c.differing.ensures
