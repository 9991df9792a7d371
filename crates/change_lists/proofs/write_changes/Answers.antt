use native.Mathlib.Omega.{arith}
use borrow.Author.Rules.{rules}
use borrow.Author.Tests.{eqb-true}
use mathlib.Core.Path.{refl, sym, ◌∙◌}
use lib.Dec.{eqb}
use lib.ListN.{get_or}
use Rattle.simulation.proofs.Sets.{all_take}
use Rattle.listing.proofs.Placing.{placed-start, node-short, table_none, table_same, table_wrote, table-passed}
use Rattle.change_lists.proofs.write_changes.Goals.{then-was-is, else-was-is}
use Rattle.change_lists.proofs.write_changes.Goals as goal

pub returns-then-same_words : goal.returns-then-same_words
returns-then-same_words c =
    let a = c.args in
    let bs = a.before.now in
    let cs = a.after.now in
    let agree = sym c.same_words.ensures ∙ c.if-same_words.true in
    rw
    (table_same a.states bs cs a.nodes
    (λ k l. eqb-true (get_or bs k 0) (get_or cs k 0) (all_take a.nodes (λ v. eqb (get_or bs v 0) (get_or cs v 0)) agree k l)))
    (placed-start a.changes.now 0)

pub loop-v-init : goal.loop-v-init
loop-v-init c =
    let a = c.args in
    (search rules, refl, rw table_none (placed-start a.changes.now 0))

pub loop-v-preserved : goal.loop-v-preserved
loop-v-preserved c =
    let a = c.args in
    let l = c.loop-v in
    let bs = a.before.now in
    let cs = a.after.now in
    elim c.if-was-is.branch [
      | then-was-is w ↦
          let n = w.node_changes-next in
          rw (w.changes-is, w.next-is) (
            omega (arith, n.ensures.past, node-short l.v a.states (get_or bs l.v 0) (get_or cs l.v 0)),
            n.auto.changes ∙ l.invariant.1,
            table_wrote a.states bs cs l.v l.invariant.2 n.ensures,
          )
      | else-was-is w ↦
          rw (w.changes-is, w.next-is) (search rules, l.invariant.1, table-passed a.states bs cs l.v l.invariant.2 w.if-was-is.false)
    ]
