-- What the calls answer fits its bits, so that the number of an answer tells all of it.
use Prim.Native.Nat.{ℕ, ◌-◌, ◌<◌, ◌≤◌}
use native.Mathlib.Omega.{arith}
use mathlib.Core.Path.{◌≡◌, sym, ◌∙◌, ap}
use mathlib.Core.Logic.{⊎_elim}
use mathlib.Core.List.{List, []}
use lib.Dec.{ltb}
use lib.IntN.{ℤ}
use lib.ListN.{length}
use Rattle.session.specs.Limits.{max_states, max_nodes}
use Rattle.session.specs.Trigger.{states, nodes}
use Rattle.session.specs.Layout.{trigger_of, graph_of, marks_of}
use Rattle.session.proofs.Decoded.{layout-facts}
use Rattle.promises.specs.Answers.{Answer, outcome, told}
use Rattle.promises.specs.Standing.{fires}
use Rattle.promises.specs.Rules.{Rule, Kind, insertion, deletion, Given, edited, verdict, load_rules, edit_rules, question_rules, pair_rules}
use Rattle.promises.specs.Promises.{Loaded, Edited, Matches, Fires}
use Rattle.promises.proofs.Counted.{list-few, free-few, load-counts}
use Rattle.promises.proofs.Verdicts.{accepts-or, verdict_pass, Below, verdict-below}
use Rattle.promises.proofs.Loads.{load-trigger, load-graph}
use Rattle.promises.proofs.Edits.{edited-facts}
use Rattle.promises.proofs.Demands.{outcome-refused}
use Rattle.promises.proofs.Passed.{edit-passed}
use Rattle.promises.proofs.Passed.{question-passed}
use Rattle.answer_numbers.specs.Packed.{rule_span, Fitting, Fits, unpacked, unpacked_yes, unpacked_count, answer_number, standing_number, firing_number, packed_yes, Packs, order_rules, OrderWritten}
use Rattle.answer_numbers.proofs.Unpacked.{unpacked-packed, unpacked_yes_lem, unpacked-count}

-- ---- the rules of every call are below 256

load_below : (memory room : ℕ) (x : Given) → Below rule_span (load_rules memory room x)
load_below memory room x = omega arith

edit-below : (k : Kind) (s : List ℕ) (room a b : ℕ) → Below rule_span (edit_rules k s room a b)
edit-below insertion s room a b = omega arith
edit-below deletion s room a b = omega arith

refused-fits : (rs : List Rule) → Below rule_span rs → (verdict rs ≡ 0 → ⊥) → (0 < verdict rs) × (verdict rs < rule_span)
refused-fits rs below bad = (omega (arith, bad), verdict-below rule_span rs (omega arith) below)

outcome_fits : {A : Type 0} (F : A → Type 0) (rs : List Rule) (a : A) → Below rule_span rs → (verdict rs ≡ 0 → F a) → Fitting F (outcome (verdict rs) a)
outcome_fits F rs a below good =
    ⊎_elim
    (λ ok. rw ok (good ok))
    (λ bad. rw (outcome-refused (verdict rs) a bad) (refused-fits rs below bad))
    (accepts-or (verdict rs))

-- ---- reports

pub loaded-fits : (x : Given) (s : List ℕ) (c : List ℤ) (r : Answer) (s' : List ℕ) (c' : List ℤ) → Loaded x s c r s' c' → Fits (told r)
loaded-fits x s c r s' c' p =
    ⊎_elim
    (λ ok.
    let n = load-counts x (load-trigger (length s) (length c) x ok p.words.0 p.words.1) (load-graph (length s) (length c) x ok p.words.2) in
    rw (p.accepts ok).1.answer (omega (arith, n.0), omega (arith, n.1)))
    (λ bad. rw (p.refuses bad).answer (refused-fits (load_rules (length s) (length c) x) (load_below (length s) (length c) x) bad))
    (accepts-or (verdict (load_rules (length s) (length c) x)))

pub edited-fits : (k : Kind) (s : List ℕ) (a b : ℕ) (c : List ℤ) (r : Answer) (s' : List ℕ) (c' : List ℤ) → Edited k s a b c r s' c' → Fits (told r)
edited-fits k s a b c r s' c' p =
    ⊎_elim
    (λ ok.
    let w = edit-passed k s (length c) a b ok in
    let f = layout-facts s w.0 in
    let t = trigger_of s in
    let g = edited k (graph_of s) a b in
    let few_nodes : nodes g ≤ max_nodes = (edited-facts k (graph_of s) a b f.graph w.2).few in
    let q = p.accepts ok in
    rw q.report.answer (
      omega (arith, free-few k t g (marks_of s) (marks_of s') q.trials f.trigger.few few_nodes q.edit.free),
      omega (arith, list-few t g (marks_of s) (marks_of s') f.trigger.few few_nodes),
    ))
    (λ bad. rw (p.refuses bad).answer (refused-fits (edit_rules k s (length c) a b) (edit-below k s (length c) a b) bad))
    (accepts-or (verdict (edit_rules k s (length c) a b)))

-- ---- the number of an answer tells all of it

module _ {P : Answer → Type 0} {r : ℕ} where
  read_back : ((a : Answer) → P a → Fits (told a)) → (p : Packs answer_number P r) → told p.answer ≡ unpacked r
  read_back fits p = sym (ap unpacked p.packs ∙ unpacked-packed (told p.answer) (fits p.answer p.holds))

pub load-tells : (x : Given) (s : List ℕ) (c : List ℤ) (s' : List ℕ) (c' : List ℤ) (r : ℕ)
    → (p : Packs answer_number (λ a. Loaded x s c a s' c') r) → told p.answer ≡ unpacked r
load-tells x s c s' c' r = read_back (λ a. loaded-fits x s c a s' c')

pub edit-tells : (k : Kind) (s : List ℕ) (a b : ℕ) (c : List ℤ) (s' : List ℕ) (c' : List ℤ) (r : ℕ)
    → (p : Packs answer_number (λ o. Edited k s a b c o s' c') r) → told p.answer ≡ unpacked r
edit-tells k s a b c s' c' r = read_back (λ o. edited-fits k s a b c o s' c')

-- the answers to questions, straight from the number
pub match_tells : (s : List ℕ) (state v r : ℕ) → Packs standing_number (Matches s state v) r
    → unpacked_yes r ≡ outcome (verdict (pair_rules s state v)) (marks_of s (state - 1) v)
match_tells s state v r p =
    ap unpacked_yes (p.packs ∙ ap packed_yes p.holds)
    ∙ unpacked_yes_lem (outcome (verdict (pair_rules s state v)) (marks_of s (state - 1) v))
    (outcome_fits _ (pair_rules s state v) _ (omega arith) (λ ok. tt))

pub fires-tells : (s : List ℕ) (r : ℕ) → Packs firing_number (Fires s) r
    → unpacked_yes r ≡ outcome (verdict (question_rules s [])) (fires (trigger_of s) (graph_of s) (marks_of s))
fires-tells s r p =
    ap unpacked_yes (p.packs ∙ ap packed_yes p.holds)
    ∙ unpacked_yes_lem (outcome (verdict (question_rules s [])) (fires (trigger_of s) (graph_of s) (marks_of s)))
    (outcome_fits _ (question_rules s []) _ (omega arith) (λ ok. tt))

pub order-tells : (s places : List ℕ) (r : ℕ) (places' : List ℕ) → OrderWritten s places r places'
    → unpacked_count r ≡ outcome (verdict (order_rules s places)) (states (trigger_of s))
order-tells s places r places' p =
    ap unpacked_count p.answer
    ∙ unpacked-count (outcome (verdict (order_rules s places)) (states (trigger_of s)))
    (outcome_fits _ (order_rules s places) _ (omega arith)
    (λ ok.
    let rest = (verdict_pass 3 (ltb (length places) max_states) (question_rules s []) (omega arith) ok).1 in
    omega (arith, (layout-facts s (question-passed s [] rest).0).trigger.few)))
