-- The rules are tested in their sequence.
use native.Mathlib.Omega.{arith}
use mathlib.Core.Path.{◌≡◌, ap, sym, ◌∙◌}
use mathlib.Core.Bool.{true, not}
use Rattle.session.specs.Layout.{in_layout}
use Rattle.session.proofs.Decoded.{layout_limits}
use Rattle.edit_rules.proofs.Ruled.{shared_short, shared_loose, shared_start, shared_end, shared_none}
use Rattle.edit_rules.proofs.shared_rule.Goals as goal
use Rattle.edit_rules.proofs.shared_rule.Goals.{Else-not-in_layout}

held : (c : Else-not-in_layout) → in_layout c.args.session.now ≡ true
held c = sym c.in_layout.ensures ∙ c.if-not-in_layout.false

pub returns-then-too_short : goal.returns-then-too_short
returns-then-too_short c =
    let a = c.args in shared_short a.session.now a.room a.start a.end _ c.too_short.ensures c.if-too_short.true

pub returns-then-not-in_layout : goal.returns-then-not-in_layout
returns-then-not-in_layout c =
    let a = c.args in
    shared_loose a.session.now a.room a.start a.end _ c.too_short.ensures c.if-too_short.false
    (ap not (sym c.in_layout.ensures ∙ c.if-not-in_layout.true))

pub bounds-session-1 : goal.bounds-session-1
bounds-session-1 c =
    omega (arith, layout_limits _ (held (goal.at.bounds-session-1 c).Else-not-in_layout))

pub returns-then-session-start : goal.returns-then-session-start
returns-then-session-start c =
    let a = c.args in
    shared_start a.session.now a.room a.start a.end _ c.too_short.ensures c.if-too_short.false (held (goal.at.returns-then-session-start c).Else-not-in_layout) c.if-session-start.true

pub bounds-session-1-2 : goal.bounds-session-1-2
bounds-session-1-2 c =
    omega (arith, layout_limits _ (held (goal.at.bounds-session-1-2 c).Else-not-in_layout))

pub returns-then-session-end : goal.returns-then-session-end
returns-then-session-end c =
    let a = c.args in
    shared_end a.session.now a.room a.start a.end _ c.too_short.ensures c.if-too_short.false (held (goal.at.returns-then-session-end c).Else-not-in_layout) c.if-session-end.true

pub returns : goal.returns
returns c =
    let a = c.args in
    shared_none a.session.now a.room a.start a.end _ c.too_short.ensures c.if-too_short.false (held (goal.at.returns c).Else-not-in_layout) c.if-session-start.false c.if-session-end.false
