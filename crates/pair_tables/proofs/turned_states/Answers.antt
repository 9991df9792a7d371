use borrow.Author.Tests.{eq-eqb, ne_eqb}
use native.Mathlib.Omega.{arith}
use mathlib.Core.Path.{ap, fun_ext, ◌∙◌}
use mathlib.Core.Bool.{not}
use lib.ListN.{get_or}
use Rattle.simulation.specs.Sets.{none}
use Rattle.bits.specs.Word.{members}
use Rattle.bits.proofs.Words.{zero-members}
use Rattle.simulation.proofs.Gains.{gained-none, gained-more, gained_pass}
use Rattle.pair_tables.proofs.Tabling.{wanting, turned_are, turned_none}
use Rattle.pair_tables.proofs.turned_states.Goals as goal
use Rattle.pair_tables.proofs.turned_states.Goals.{then-heeded, else-heeded}

pub returns-then-inverted-eq0 : goal.returns-then-inverted-eq0
returns-then-inverted-eq0 c =
    let a = c.args in turned_none a.masks.now a.inverted c.if-inverted-eq0.true

pub loop-u-init : goal.loop-u-init
loop-u-init c =
    fun_ext zero-members ∙ gained-none none (wanting c.args.masks.now)

pub loop-u-preserved : goal.loop-u-preserved
loop-u-preserved c =
    let masks = c.args.masks.now in
    let l = c.loop-u in
    let mask = get_or masks l.u 0 in
    elim c.if-heeded.branch [
      | then-heeded w ↦
          ap members w.wanting-is
          ∙ gained-more none (wanting masks) l.u l.invariant (ap not (ne_eqb mask 0 w.if-heeded.true)) w.added-wanting.ensures
      | else-heeded w ↦
          ap members w.wanting-is
          ∙ gained_pass none (wanting masks) l.u l.invariant (ap not (eq-eqb mask 0 w.if-heeded.false))
    ]

pub returns : goal.returns
returns c =
    let a = c.args in
    let l = c.loop-u in
    turned_are a.masks.now l.u a.inverted l.wanting (omega arith) l.invariant
