use Prim.Native.Nat.{ℕ, ◌+◌, ◌-◌}
use native.Mathlib.Omega.{arith}
use mathlib.Core.Path.{◌≡◌, ap}
use lib.Dec.{ltb}
use lib.ListN.{length, get_or}
use Rattle.simulation.specs.Ordered.{ascends}
use Rattle.section_tests.proofs.Folds.{test_none, test_more, test_all}
use Rattle.section_tests.proofs.all_ascend.Invariants.{rises}
use Rattle.section_tests.proofs.all_ascend.Goals as goal

pub loop-k-init : goal.loop-k-init
loop-k-init c =
    (omega arith, test_none (rises c.args.edges.now))

pub loop-k-preserved : goal.loop-k-preserved
loop-k-preserved c =
    let es = c.args.edges.now in
    let l = c.loop-k in
    let here : l.k ≡ l.k - 1 + 1 = omega arith in
    let next : l.k + 1 - 1 ≡ l.k - 1 + 1 = omega arith in
    (omega arith, rw next (test_more (rises es) (l.k - 1) l.all _ l.invariant.1 (ap (λ (j : ℕ). ltb (get_or es (l.k - 1) 0) (get_or es j 0)) here)))

pub returns : goal.returns
unfolding ascends
returns c =
    let es = c.args.edges.now in
    let l = c.loop-k in
    test_all (rises es) (length es - 1) (l.k - 1) l.all l.invariant.1 (omega arith)
