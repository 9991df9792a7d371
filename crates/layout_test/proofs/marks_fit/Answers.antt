-- `marks_fit` meets its contract: the marks are compared with the states where their section fits.
use borrow.Author.Rules.{rules}
use native.Mathlib.Nat.{add-sub_cancel_left}
use native.Mathlib.Omega.{arith}
use mathlib.Core.Path.{◌≡◌, sym, ◌∙◌}
use Rattle.session.specs.Limits.{max_nodes, marks_at, masks_at, values_at, samples_at}
use Rattle.session.specs.Layout.{part}
use Rattle.session.specs.Tests.{fits, marks_test}
use Rattle.layout_test.proofs.Tested.{part_length, fits_unions}
use Rattle.layout_test.proofs.marks_fit.Goals as goal
use Rattle.layout_test.proofs.marks_fit.Goals.{After-unions_fit}

-- the two unions say whether the section fits
whole : (c : After-unions_fit)
    → let a = c.args in
    c.unions_fit.result ≡ fits a.states a.nodes (part a.session.now marks_at max_nodes)
whole c =
    let used = c.gathered-used in
    let unused = c.gathered-unused in
    c.unions_fit.ensures
    ∙ fits_unions c.args.session.now marks_at max_nodes c.args.nodes (omega arith) (omega arith) c.args.states used.result unused.result
    (search rules) used.ensures unused.ensures

pub invariant_of-patterns : goal.invariant_of-patterns
invariant_of-patterns c =
    let n = c.args.states in
    let xs = c.args.session.now in record {
      paired = simp add-sub_cancel_left (part_length xs values_at n (omega arith) ∙ sym (part_length xs masks_at n (omega arith)));
      few = simp add-sub_cancel_left (omega (arith, part_length xs masks_at n (omega arith)));
      masks_fit = simp add-sub_cancel_left c.requires.states_value;
    }

pub invariant_of-marked : goal.invariant_of-marked
invariant_of-marked c =
    let m = c.args.nodes in
    let xs = c.args.session.now in record {
      paired = simp add-sub_cancel_left (part_length xs samples_at m (omega arith) ∙ sym (part_length xs marks_at m (omega arith)));
      few = simp add-sub_cancel_left (omega (arith, part_length xs marks_at m (omega arith)));
      gathered = simp add-sub_cancel_left (simp add-sub_cancel_left at c.gathered-used.ensures);
    }

pub all_admitted-requires : goal.all_admitted-requires
all_admitted-requires c = simp add-sub_cancel_left c.requires.nodes_value

pub returns-then-unions_fit : goal.returns-then-unions_fit
unfolding marks_test
returns-then-unions_fit c =
    rw (← whole (goal.at.returns-then-unions_fit c).After-unions_fit, c.if-unions_fit.true)
    (simp (add-sub_cancel_left, part_length c.args.session.now masks_at c.args.states (omega arith)) at c.all_admitted.ensures)

pub returns-else-unions_fit : goal.returns-else-unions_fit
unfolding marks_test
returns-else-unions_fit c =
    rw (← whole (goal.at.returns-else-unions_fit c).After-unions_fit, c.if-unions_fit.false)
