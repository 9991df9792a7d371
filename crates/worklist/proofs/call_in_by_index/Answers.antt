use Prim.Native.Nat.{◌-◌}
use Rattle.bits.specs.Word.{overlaps}
use Rattle.worklist.proofs.CalledIn.{calling_none, calling_more, calling_pass, calling_done}
use Rattle.edge_indexes.proofs.Incoming.{chained_less}
use Rattle.session.proofs.Tables.{below-take}
use Rattle.simulation.specs.Sets.{Set}
use borrow.Author.Rules.{rules}
use lib.ListN.{get_or}
use mathlib.Core.Path.{sym, ◌∙◌}
use native.Mathlib.Omega.{arith}
use Rattle.session.specs.Limits.{edge_numbers}
use Rattle.worklist.proofs.call_in_by_index.Goals as goal
use Rattle.worklist.proofs.call_in_by_index.Goals.{then-meet, else-meet}

pub loop-next-init : goal.loop-next-init
loop-next-init c =
    (search rules, calling_none c.requires.edges_value.1 (λ w. overlaps (get_or c.args.table.now w 0) c.args.word) c.args.node c.args.waiting.now (omega arith))

pub bounds-table-start : goal.bounds-table-start
bounds-table-start c =
    omega (arith, c.requires.waiting_len.3, below-take edge_numbers c.args.edges.now c.requires.edges_value.0 (c.loop-next.next - 1) (omega arith))

pub put_in-requires : goal.put_in-requires
put_in-requires c =
    (search rules, omega (arith, below-take edge_numbers c.args.edges.now c.requires.edges_value.0 (c.loop-next.next - 1) (omega arith)))

pub loop-next-smaller : goal.loop-next-smaller
loop-next-smaller c =
    chained_less c.requires.edges_value.1 c.loop-next.invariant.1.chain c.loop-next-test.true

pub loop-next-preserved : goal.loop-next-preserved
loop-next-preserved c =
    let meet = c.meet in
    let P : Set = λ w. overlaps (get_or c.args.table.now w 0) c.args.word in
    elim c.if-meet.branch [
      | then-meet w ↦
          rw w.waiting-is
          (w.put_in.ensures.0, calling_more c.requires.edges_value.1 P c.loop-next.invariant.1 c.loop-next-test.true (sym meet.ensures ∙ w.if-meet.true) w.put_in.ensures.1)
      | else-meet w ↦
          rw w.waiting-is
          (c.loop-next.invariant.0, calling_pass c.requires.edges_value.1 P c.loop-next.invariant.1 c.loop-next-test.true (sym meet.ensures ∙ w.if-meet.false))
    ]

pub returns : goal.returns
returns c =
    (search rules, calling_done (rw c.loop-next-test.false at c.loop-next.invariant.1))
