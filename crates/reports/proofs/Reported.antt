-- The report of a call, from the list that was written and the firing that was read.
use Prim.Native.Nat.{ℕ}
use native.Mathlib.Nat.{zero-add}
use mathlib.Core.Path.{◌≡◌, refl, ◌∙◌, ap}
use mathlib.Core.Bool.{true}
use mathlib.Core.List.{List, ◌++◌}
use lib.IntN.{ℤ}
use lib.ListN.{length, get_or, take, drop}
use Rattle.session.specs.Limits.{marks_at, max_nodes}
use Rattle.session.specs.Trigger.{Marks}
use Rattle.session.specs.Layout.{trigger_of, graph_of, marks_of, in_layout}
use Rattle.pair_tables.specs.Tables.{marked}
use Rattle.listing.specs.Changes.{changes}
use Rattle.listing.specs.Placed.{table_changes, Placed}
use Rattle.listing.proofs.Lists.{changes-none}
use Rattle.promises.specs.Standing.{fires}
use Rattle.promises.specs.Answers.{Answer, accepted}
use Rattle.promises.specs.Promises.{Reported}
use Rattle.reports.specs.Marks.{Tells}
use Rattle.session_parts.proofs.Parts.{held-marks}
use Rattle.reports.proofs.Held.{held-changes}

pub reported : (xs : List ℕ) → in_layout xs ≡ true → (bs : List ℕ) (trials n : ℕ) (room room' : List ℤ) (r : Answer)
    → Placed room 0 (table_changes (get_or xs 0 0) (get_or xs 1 0) bs (take max_nodes (drop marks_at xs))) room' n
    → Tells xs trials n r
    → Reported (trigger_of xs) (graph_of xs) (marks_of xs) trials (changes (trigger_of xs) (graph_of xs) (marked bs) (marks_of xs)) room r room'
reported xs h bs trials n room room' r placed is-told =
    let list : List ℤ = changes (trigger_of xs) (graph_of xs) (marked bs) (marks_of xs) in
    let is : table_changes (get_or xs 0 0) (get_or xs 1 0) bs (take max_nodes (drop marks_at xs)) ≡ list =
    held-changes xs h bs (take max_nodes (drop marks_at xs)) ∙ ap (λ (m : Marks). changes (trigger_of xs) (graph_of xs) (marked bs) m) (held-marks xs h) in
    let here : Placed room 0 list room' n = rw is at placed in
    record {
      answer = is-told ∙ ap (λ (k : ℕ). accepted record { fires = fires (trigger_of xs) (graph_of xs) (marks_of xs); trials = trials; changes = k }) (here.past ∙ zero-add (length list));
      room = here.written ∙ ap (λ (k : ℕ). list ++ drop k room) (zero-add (length list));
    }

-- where no mark differs nothing is written
pub reported-same : (xs : List ℕ) (trials : ℕ) (room : List ℤ) (r : Answer) → Tells xs trials 0 r
    → Reported (trigger_of xs) (graph_of xs) (marks_of xs) trials (changes (trigger_of xs) (graph_of xs) (marks_of xs) (marks_of xs)) room r room
reported-same xs trials room r is-told = rw (changes-none (trigger_of xs) (graph_of xs) (marks_of xs)) record { answer = is-told; room = refl }
