-- `matches` meets its contract: where no rule is broken, the mark is the bit that was read.
use Prim.Native.Nat.{◌-◌}
use native.Mathlib.Omega.{arith}
use mathlib.Core.Path.{◌≡◌, refl, sym, ◌∙◌}
use mathlib.Core.Bool.{true}
use Rattle.std.proofs.lemmas.Result.{err_from_is_err_and}
use Rattle.promises.proofs.Refusals.{number-some}
use Rattle.session.specs.Layout.{marks_of, in_layout}
use Rattle.session.proofs.Decoded.{Bounded, layout_limits}
use Rattle.questions.proofs.Asked.{Named, pair-passed, answer-refused, answer-accepted, mark_held}
use Rattle.questions.proofs.matches.Goals as goal
use Rattle.questions.proofs.matches.Goals.{After-has, In_ok-pair_rule}

-- what the rules leave
passed : (c : In_ok-pair_rule)
    → let a = c.args in
    (in_layout a.session.now ≡ true) × Named a.session.now a.state a.node
passed c = pair-passed _ _ _ (sym (c.in_ok-pair_rule.ensures {u = tt}))

bounded : (c : In_ok-pair_rule) → Bounded c.args.session.now
bounded c = layout_limits _ (passed c).0

-- the mark, as it was read
read : (c : After-has)
    → let a = c.args in
    Named a.session.now a.state a.node → c.has.result ≡ marks_of a.session.now (a.state - 1) a.node
read c n =
    c.has.ensures ∙ mark_held _ _ _ (omega (arith, n.some, n.state_held)) n.node_held

pub returns-in_err-pair_rule : goal.returns-in_err-pair_rule
returns-in_err-pair_rule c =
    let rule = c.in_err-pair_rule.field-0.0 in
    let p = err_from_is_err_and c.from_residual.result c.from_residual.ensures.1 in
    rw (p.1, p.2) (answer-refused _ _ (c.in_err-pair_rule.ensures {u = tt}) _ (number-some rule))

pub bounds-session-at : goal.bounds-session-at
bounds-session-at c =
    omega (arith, (passed (goal.at.bounds-session-at c).In_ok-pair_rule).1.node_held, bounded (goal.at.bounds-session-at c).In_ok-pair_rule)

pub overflow_sub-state : goal.overflow_sub-state
overflow_sub-state c =
    omega (arith, (passed (goal.at.overflow_sub-state c).In_ok-pair_rule).1.some)

pub has-requires : goal.has-requires
has-requires c =
    let n = (passed (goal.at.has-requires c).In_ok-pair_rule).1 in omega (arith, n.some, n.state_held, bounded (goal.at.has-requires c).In_ok-pair_rule)

pub returns-then-has : goal.returns-then-has
returns-then-has c =
    answer-accepted _ _ (c.in_ok-pair_rule.ensures {u = tt}) _ _ refl (sym c.if-has.true ∙ read (goal.at.returns-then-has c).After-has (passed (goal.at.returns-then-has c).In_ok-pair_rule).1)

pub returns-else-has : goal.returns-else-has
returns-else-has c =
    answer-accepted _ _ (c.in_ok-pair_rule.ensures {u = tt}) _ _ refl (sym c.if-has.false ∙ read (goal.at.returns-else-has c).After-has (passed (goal.at.returns-else-has c).In_ok-pair_rule).1)
