use Rattle.bits.specs.Word.{members, set_bits}
use Rattle.links.proofs.LinkSets.{linked_to, linked-more, linked_pass}
use mathlib.Core.Path.{sym, ap, ◌∙◌}
use native.Mathlib.Omega.{arith}
use Rattle.links.proofs.linking.Goals as goal
use Rattle.links.proofs.linking.Goals.{then-meet, else-meet}

pub loop-u-preserved : goal.loop-u-preserved
loop-u-preserved c =
    let a = c.args in
    let meet = c.meet in
    elim c.if-meet.branch [
      | then-meet w ↦
          ap members w.all-is
          ∙ linked-more set_bits a.links.now a.word c.loop-u.u c.loop-u.all c.loop-u.invariant w.added-all.result (sym meet.ensures ∙ w.if-meet.true) w.added-all.ensures
      | else-meet w ↦
          ap members w.all-is ∙ linked_pass set_bits a.links.now a.word c.loop-u.u c.loop-u.all c.loop-u.invariant (sym meet.ensures ∙ w.if-meet.false)
    ]

pub returns : goal.returns
returns c =
    let a = c.args in
    c.loop-u.invariant ∙ ap (linked_to set_bits a.links.now a.word) (omega arith)
