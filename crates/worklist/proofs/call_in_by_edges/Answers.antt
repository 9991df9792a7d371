use Prim.Native.Nat.{ℕ}
use Rattle.bits.specs.Word.{overlaps}
use Rattle.worklist.proofs.CalledIn.{leads_to, leads-none, leads-more, leads-all}
use Rattle.worklist.specs.Waiting.{waits}
use Rattle.session.proofs.Tables.{below-take}
use Rattle.simulation.specs.Sets.{Set}
use borrow.Author.Rules.{rules}
use lib.ListN.{get_or}
use mathlib.Core.Bool.{Bool, ◌&&◌, ◌||◌}
use mathlib.Core.Path.{ap, fun_ext, ◌∙◌}
use native.Mathlib.Omega.{arith}
use Rattle.session.specs.Limits.{edge_numbers}
use Rattle.worklist.proofs.call_in_by_edges.Goals as goal

pub loop-edge-init : goal.loop-edge-init
loop-edge-init c =
    let a = c.args in (search rules, leads-none a.edges.now (λ x. overlaps (get_or a.table.now x 0) a.word) a.node a.waiting.now)

pub call_one-requires : goal.call_one-requires
call_one-requires c =
    (c.loop-edge.invariant.0, below-take edge_numbers c.args.edges.now c.requires.edges_value c.loop-edge.edge-index c.loop-edge-test.true, c.requires.waiting_len.3)

pub loop-edge-preserved : goal.loop-edge-preserved
loop-edge-preserved c =
    let a = c.args in
    let one = c.call_one in (
      one.ensures.0,
      leads-more a.edges.now (λ x. overlaps (get_or a.table.now x 0) a.word) a.node a.waiting.now c.loop-edge.waiting one.new.waiting c.loop-edge.edge-index c.loop-edge.invariant.1 one.ensures.1,
    )

pub returns : goal.returns
returns c =
    let a = c.args in
    let P : Set = λ x. overlaps (get_or a.table.now x 0) a.word in (
      c.loop-edge.invariant.0,
      c.loop-edge.invariant.1
          ∙ fun_ext
          (λ w.
          ap (λ (b : Bool). waits a.waiting.now w || (b && P w))
          (ap (λ (n : ℕ). leads_to a.edges.now P a.node n w) (omega (arith, c.loop-edge-test.false)) ∙ leads-all a.edges.now P a.node w)),
    )
