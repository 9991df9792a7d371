-- `order` meets its contract: where no rule is broken, the walk over the links held is the order.
use native.Mathlib.Omega.{arith}
use mathlib.Core.Path.{◌≡◌, refl, sym, ◌∙◌, ap}
use mathlib.Core.Bool.{true}
use mathlib.Core.List.{List}
use Prim.Native.Nat.{ℕ}
use Rattle.std.proofs.lemmas.Result.{err_from_is_err_and}
use Rattle.promises.proofs.Refusals.{number-some}
use Rattle.session.specs.Reached.{linked_by}
use Rattle.session.specs.Layout.{table, section, in_layout}
use Rattle.session.proofs.Decoded.{layout_limits, layout-facts}
use Rattle.listing.specs.Order.{order}
use Rattle.questions.proofs.Asked.{answer-refused, answer-accepted, none-listed, all_listed, asked-order}
use Rattle.session_parts.proofs.Parts.{held-links}
use Rattle.promises.proofs.Passed.{question-passed}
use Rattle.session.specs.Limits.{max_states}
use Rattle.questions.proofs.order.Goals as goal
use Rattle.questions.proofs.order.Goals.{In_ok-question_rule}

-- what the rules leave
passed : (c : In_ok-question_rule) → in_layout c.args.session.now ≡ true
passed c = (question-passed _ _ (sym (c.in_ok-question_rule.ensures {u = tt}))).0

pub returns-in_err-question_rule : goal.returns-in_err-question_rule
unfolding section table
returns-in_err-question_rule c =
    let rule = c.in_err-question_rule.field-0.0 in
    let q = c.in_err-question_rule.ensures {u = tt} in
    let p = err_from_is_err_and c.from_residual.result c.from_residual.ensures.1 in
    rw (p.1, p.2)
    record {
      answer = answer-refused _ _ q _ (number-some rule);
      states = ap (λ (ys : List ℕ). section max_states ys) (none-listed _ _ q _ (number-some rule));
    }

pub of-held-requires : goal.of-held-requires
of-held-requires c = passed (goal.at.of-held-requires c).In_ok-question_rule

pub overflow_cast-result : goal.overflow_cast-result
overflow_cast-result c =
    omega (arith, c.states.ensures.is, (layout_limits _ c.states.ensures.held).few_states)

pub ordered-requires : goal.ordered-requires
ordered-requires c =
    rw c.links.ensures.is (held-links _ c.links.ensures.held)

pub returns : goal.returns
returns c =
    let h = passed (goal.at.returns c).In_ok-question_rule in
    let q = c.in_ok-question_rule.ensures {u = tt} in
    let is = rw c.of-held.ensures at c.links.ensures.is in
    record {
      answer = answer-accepted _ _ q _ _ refl (rw c.of-held.ensures at c.states.ensures.is ∙ (layout-facts _ h).counts.0);
      states = c.ordered.ensures ∙ ap (λ (ys : List ℕ). section max_states ys) (ap (λ (ls : List ℕ). order (linked_by ls)) is ∙ asked-order _ h ∙ all_listed _ _ q _ refl);
    }
