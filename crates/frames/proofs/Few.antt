-- Answers are short: a change list has a place for each pair at most, an order has each state once.
use Prim.Native.Nat.{ℕ, ◌≤◌}
use native.Mathlib.Omega.{arith}
use mathlib.Core.Path.{◌≡◌, ◌∙◌, ap}
use mathlib.Core.Logic.{⊎_elim}
use mathlib.Core.List.{List, []}
use lib.IntN.{ℤ}
use lib.ListN.{length, drop}
use Rattle.std.specs.Prelude.{Ok}
use Rattle.session.specs.Limits.{max_states, max_nodes, max_changes}
use Rattle.session.specs.Trigger.{Trigger, Graph, Marks, states, nodes}
use Rattle.session.specs.Layout.{trigger_of, graph_of, marks_of}
use Rattle.session.proofs.Decoded.{layout-facts}
use Rattle.listing.specs.Changes.{changes}
use Rattle.promises.specs.declared.StateOrder.{StateOrder}
use Rattle.promises.specs.Answers.{Answer, accepted, outcome, told, changes_told, handed_back}
use Rattle.promises.specs.Rules.{Kind, Given, given_trigger, given_graph, edited, verdict, load_rules, edit_rules, question_rules}
use Rattle.promises.specs.Promises.{Reported, Loaded, Edited, Ordered}
use Rattle.promises.proofs.Counted.{list-few}
use Rattle.promises.proofs.Handed.{handed_back_lem, handed_none}
use Rattle.promises.proofs.Verdicts.{accepts-or}
use Rattle.promises.proofs.Loads.{load-trigger, load-graph}
use Rattle.promises.proofs.Edits.{edited-facts}
use Rattle.promises.proofs.Demands.{outcome-refused}
use Rattle.promises.proofs.Passed.{edit-passed}
use Rattle.promises.proofs.Passed.{question-passed}

reported-few : (t : Trigger) (g : Graph) (m before after : Marks) (trials : ℕ) (c c' : List ℤ) (r : Answer) → states t ≤ max_states → nodes g ≤ max_nodes
    → Reported t g m trials (changes t g before after) c r c' → length (handed_back c' r) ≤ max_changes
reported-few t g m before after trials c c' r few_states few_nodes p =
    let list = changes t g before after in
    let e : handed_back c' r ≡ list = ap (λ (room : List ℤ). handed_back room r) p.room ∙ handed_back_lem list (drop (length list) c) r (ap changes_told p.answer) in
    omega (arith, ap length e, list-few t g before after few_states few_nodes)

refused-few : (c : List ℤ) (r : Answer) → changes_told (told r) ≡ 0 → length (handed_back c r) ≤ max_changes
refused-few c r e = omega (arith, ap length (handed_none c r e))

pub loaded-few : (x : Given) (s : List ℕ) (c : List ℤ) (r : Answer) (s' : List ℕ) (c' : List ℤ) → Loaded x s c r s' c' → length (handed_back c' r) ≤ max_changes
loaded-few x s c r s' c' p =
    ⊎_elim
    (λ ok.
    reported-few (given_trigger x) (given_graph x) _ _ _ _ c c' r
    (load-trigger (length s) (length c) x ok p.words.0 p.words.1).few
    (load-graph (length s) (length c) x ok p.words.2).few
    (p.accepts ok).1)
    (λ bad. refused-few c' r (ap changes_told (p.refuses bad).answer))
    (accepts-or (verdict (load_rules (length s) (length c) x)))

pub edited-few : (k : Kind) (s : List ℕ) (a b : ℕ) (c : List ℤ) (r : Answer) (s' : List ℕ) (c' : List ℤ) → Edited k s a b c r s' c'
    → length (handed_back c' r) ≤ max_changes
edited-few k s a b c r s' c' p =
    ⊎_elim
    (λ ok.
    let w = edit-passed k s (length c) a b ok in
    let f = layout-facts s w.0 in
    reported-few (trigger_of s) (edited k (graph_of s) a b) (marks_of s') (marks_of s) (marks_of s') _ c c' r f.trigger.few
    (edited-facts k (graph_of s) a b f.graph w.2).few (p.accepts ok).report)
    (λ bad. refused-few c' r (ap changes_told (p.refuses bad).answer))
    (accepts-or (verdict (edit_rules k s (length c) a b)))

pub order_few : (s : List ℕ) (o : StateOrder) → Ordered s (Ok o) → o.count ≤ max_states
order_few s o p =
    let v = verdict (question_rules s []) in
    let st = states (trigger_of s) in
    ⊎_elim
    (λ ok.
    let z : accepted o.count ≡ accepted st = p.answer ∙ ap (λ (k : ℕ). outcome k st) ok in
    let e : o.count ≡ st = cc z in
    omega (arith, e, (layout-facts s (question-passed s [] ok).0).trigger.few))
    (λ bad.
    let z : ◌≡◌ {A = ℕ} 0 1 = cc (p.answer ∙ outcome-refused v st bad) in
    absurd (omega arith))
    (accepts-or v)
