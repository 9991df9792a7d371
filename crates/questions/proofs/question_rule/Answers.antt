-- `question_rule` meets its contract: the rules are tested in their sequence.
use mathlib.Core.Path.{ap, sym, ◌∙◌}
use mathlib.Core.Bool.{not}
use mathlib.Core.List.{[]}
use Rattle.questions.proofs.Asked.{question-short, question_loose, question-none}
use Rattle.questions.proofs.question_rule.Goals as goal

pub returns-then-session-lt-FIXED_SIZE : goal.returns-then-session-lt-FIXED_SIZE
returns-then-session-lt-FIXED_SIZE c =
    question-short c.args.session.now [] c.if-session-lt-FIXED_SIZE.true

pub returns-then-not-in_layout : goal.returns-then-not-in_layout
returns-then-not-in_layout c =
    question_loose _ _ c.if-session-lt-FIXED_SIZE.false (ap not (sym c.in_layout.ensures ∙ c.if-not-in_layout.true))

pub returns : goal.returns
returns c =
    question-none _ (sym c.in_layout.ensures ∙ c.if-not-in_layout.false)
