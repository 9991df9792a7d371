use Prim.Native.Nat.{◌-◌}
use native.Mathlib.Omega.{arith}
use mathlib.Core.Path.{◌≡◌, refl, sym, ◌∙◌}
use lib.ListN.{length}
use Rattle.std.specs.Prelude.{Some}
use Rattle.std.specs.List.{slice_get}
use Rattle.section_tests.proofs.Folds.{test_none, test_more, test_all}
use Rattle.section_tests.proofs.Named.{ending, none_named, start_fails, ends_decide, no_last, last_here}
use Rattle.section_tests.proofs.all_named.Goals as goal
use Rattle.section_tests.proofs.all_named.Goals.{In-Some}

-- the last edge
read : (c : In-Some) → slice_get c.args.edges.now (length c.args.edges.now - 1) ≡ Some c.in-Some.last.now
read c = sym (rw c.in-Some.is at c.last.ensures.value)

pub returns-in_default : goal.returns-in_default
returns-in_default c =
    let a = c.args in none_named a.nodes a.edges.now (no_last a.edges.now (sym (rw c.in_default.is at c.last.ensures.value)))

pub returns-then-nodes-last : goal.returns-then-nodes-last
returns-then-nodes-last c =
    let a = c.args in
    let r = last_here a.edges.now c.in-Some.last.now (read (goal.at.returns-then-nodes-last c).In-Some) in
    start_fails a.nodes a.edges.now (length a.edges.now - 1) r.0 (rw r.1 c.if-nodes-last.true)

pub loop-edge-init : goal.loop-edge-init
loop-edge-init c =
    test_none (ending c.args.nodes c.args.edges.now)

pub loop-edge-preserved : goal.loop-edge-preserved
loop-edge-preserved c =
    let l = c.loop-edge in
    test_more (ending c.args.nodes c.args.edges.now) l.edge-index l.all _ l.invariant refl

pub returns : goal.returns
returns c =
    let a = c.args in
    let l = c.loop-edge in
    test_all (ending a.nodes a.edges.now) (length a.edges.now) l.edge-index l.all l.invariant (omega arith)
    ∙ ends_decide a.nodes a.edges.now c.requires (rw (last_here a.edges.now c.in-Some.last.now (read (goal.at.returns c).In-Some)).1 (omega arith))
