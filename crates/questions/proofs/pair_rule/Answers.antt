-- `pair_rule` meets its contract: what breaks no rule of all questions is tested by the last, in three steps.
use native.Mathlib.Omega.{arith}
use mathlib.Core.Path.{◌≡◌, sym}
use mathlib.Core.Bool.{true}
use Rattle.std.proofs.lemmas.Result.{err_from_is_err_and}
use Rattle.promises.specs.Answers.{number}
use Rattle.promises.proofs.Refusals.{number-some}
use Rattle.session.specs.Layout.{in_layout}
use Rattle.session.proofs.Decoded.{layout_limits}
use Rattle.questions.proofs.Asked.{pair-broken, pair_wrong, pair-none}
use Rattle.promises.proofs.Passed.{question-passed}
use Rattle.questions.proofs.pair_rule.Goals as goal
use Rattle.questions.proofs.pair_rule.Goals.{In_ok-question_rule}

-- what the rules of all questions leave
passed : (c : In_ok-question_rule) → in_layout c.args.session.now ≡ true
passed c = (question-passed _ _ (sym (c.in_ok-question_rule.ensures {u = tt}))).0

pub returns-in_err-question_rule : goal.returns-in_err-question_rule
returns-in_err-question_rule c =
    let a = c.args in
    let rule = c.in_err-question_rule.field-0.0 in
    let p = err_from_is_err_and c.from_residual.result c.from_residual.ensures.1 in
    rw (p.1, p.2) (pair-broken a.session.now a.state a.node (number rule) (c.in_err-question_rule.ensures {u = tt}) (number-some rule))

pub returns-then-state-eq0 : goal.returns-then-state-eq0
returns-then-state-eq0 c =
    let a = c.args in
    pair_wrong a.session.now a.state a.node (passed (goal.at.returns-then-state-eq0 c).In_ok-question_rule)
    (λ n. omega (arith, n.some, c.if-state-eq0.true))

pub bounds-session-0 : goal.bounds-session-0
bounds-session-0 c =
    omega (arith, layout_limits _ (passed (goal.at.bounds-session-0 c).In_ok-question_rule))

pub returns-then-session-state : goal.returns-then-session-state
returns-then-session-state c =
    let a = c.args in
    pair_wrong a.session.now a.state a.node (passed (goal.at.returns-then-session-state c).In_ok-question_rule)
    (λ n. omega (arith, n.state_held, c.if-session-state.true))

pub bounds-session-1 : goal.bounds-session-1
bounds-session-1 c =
    omega (arith, layout_limits _ (passed (goal.at.bounds-session-1 c).In_ok-question_rule))

pub returns-then-session-node : goal.returns-then-session-node
returns-then-session-node c =
    let a = c.args in
    pair_wrong a.session.now a.state a.node (passed (goal.at.returns-then-session-node c).In_ok-question_rule)
    (λ n. omega (arith, n.node_held, c.if-session-node.true))

pub returns : goal.returns
returns c =
    let a = c.args in
    pair-none a.session.now a.state a.node (passed (goal.at.returns c).In_ok-question_rule)
    record { some = omega arith; state_held = omega arith; node_held = omega arith }
