use Prim.Native.Nat.{ℕ, suc, ◌-◌}
use native.Mathlib.Omega.{arith}
use mathlib.Core.Path.{◌≡◌, refl, ap}
use mathlib.Core.Bool.{Bool, not, ◌&&◌, and_comm}
use lib.ListN.{length}
use Rattle.simulation.specs.Sets.{Set, all_below}
use Rattle.load_rules.proofs.order_wrong.Invariants.{rises}
use Rattle.load_rules.proofs.order_wrong.Goals as goal

-- one edge more
all-more : (j m : ℕ) (X : Set) (a b : Bool) → m ≡ suc j → a ≡ all_below j X → b ≡ X j → (a && b) ≡ all_below m X
unfolding all_below
all-more j m X a b next before here = rw (next, before, here) (and_comm (all_below j X) (X j))

pub loop-k-init : goal.loop-k-init
unfolding all_below
loop-k-init c =
    (omega arith, refl)

pub loop-k-preserved : goal.loop-k-preserved
loop-k-preserved c =
    let a = c.args in
    let l = c.loop-k in
    let j = l.k - 1 in
    let here : suc j ≡ l.k = omega arith in
    let test = c.comes_before-ascend in
    (omega arith, all-more j _ (rises a.starts.now a.ends.now) l.ascend test.result (omega arith) l.invariant.1 (rw here test.ensures))

pub returns : goal.returns
returns c =
    let a = c.args in
    let l = c.loop-k in
    let over : l.k - 1 ≡ length a.starts.now - 1 = omega arith in
    ap not (rw over at l.invariant.1)
