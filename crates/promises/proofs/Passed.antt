-- What a verdict of 0 tells of an edit, and of a question.
use Prim.Native.Nat.{ℕ, ◌≤◌}
use native.Mathlib.Omega.{arith}
use mathlib.Core.Path.{◌≡◌}
use mathlib.Core.Bool.{true, false, not, ◌||◌}
use mathlib.Core.List.{List, ◌∷◌}
use lib.Dec.{ltb}
use lib.ListN.{length}
use borrow.Author.Tests.{ltb-false, not-false}
use Rattle.simulation.proofs.Sets.{clash, refuted, or_r}
use Rattle.session.specs.Limits.{max_changes, fixed_size}
use Rattle.session.specs.Layout.{graph_of, in_layout}
use Rattle.promises.specs.Rules.{Rule, rule, verdict, Kind, graph_rules, edit_rules, question_rules}
use Rattle.promises.proofs.Verdicts.{verdict_pass}

pub edit-passed : (k : Kind) (xs : List ℕ) (room a b : ℕ) → verdict (edit_rules k xs room a b) ≡ 0
    → (in_layout xs ≡ true) × (max_changes ≤ room) × (verdict (graph_rules k (graph_of xs) a b) ≡ 0)
edit-passed k xs room a b z =
    let first = verdict_pass 3 (ltb (length xs) fixed_size || ltb room max_changes) (rule 10 (not (in_layout xs)) ∷ graph_rules k (graph_of xs) a b) (omega arith) z in
    let second = verdict_pass 10 (not (in_layout xs)) (graph_rules k (graph_of xs) a b) (omega arith) first.1 in
    let wide : ltb room max_changes ≡ false = refuted (ltb room max_changes) (λ e. clash (or_r (ltb (length xs) fixed_size) e) first.0) in
    (not-false (in_layout xs) second.0, ltb-false room max_changes wide, second.1)

pub question-passed : (xs : List ℕ) (more : List Rule) → verdict (question_rules xs more) ≡ 0 → (in_layout xs ≡ true) × (verdict more ≡ 0)
question-passed xs more z =
    let first = verdict_pass 3 (ltb (length xs) fixed_size) (rule 10 (not (in_layout xs)) ∷ more) (omega arith) z in
    let second = verdict_pass 10 (not (in_layout xs)) more (omega arith) first.1 in
    (not-false (in_layout xs) second.0, second.1)
