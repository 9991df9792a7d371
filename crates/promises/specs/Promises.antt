-- What each call promises of its answer, of every word of the session and of every place of the change room, from entry (s, c) to exit (s', c').
use Rattle.std.specs.Prelude.{ℕ, ◌-◌, ◌≤◌, ◌^◌, ◌≡◌, true, false, cond, List, [], ◌++◌, eqb, ℤ, length, drop}
use Rattle.simulation.specs.Sets.{minus}
use Rattle.session.specs.Limits.{max_states, fixed_size, word_bits}
use Rattle.session.specs.Trigger.{Trigger, Graph, Marks, states, admits}
use Rattle.session.specs.Layout.{section, below, image, trigger_of, graph_of, marks_of, valid_marks}
use Rattle.listing.specs.Changes.{changes}
use Rattle.listing.specs.Order.{order}
use Rattle.promises.specs.Standing.{stands, fires, size, pairs_of, trial_set}
use Rattle.promises.specs.Answers.{Answer, FiringAnswer, OrderAnswer, StandingAnswer, accepted, refused, outcome, told, told_standing, told_firing, told_order, places_told}
use Rattle.promises.specs.Rules.{
  Given,
  given_trigger,
  given_graph,
  Kind,
  insertion,
  deletion,
  edited,
  verdict,
  load_rules,
  edit_rules,
  question_rules,
  pair_rules,
}

-- "A refusal leaves every lent byte as before"
pub record Untouched (n : ℕ) (s : List ℕ) (c : List ℤ) (r : Answer) (s' : List ℕ) (c' : List ℤ) : Type 0 where
  pub answer : told r ≡ refused n
  pub session : s' ≡ s
  pub room : c' ≡ c

-- The session is left with this trigger, this graph and these marks: "lent memory beyond that size is not written".
abbrev pub Left : Trigger → Graph → Marks → List ℕ → List ℕ → Type 0
Left t g m s s' = s' ≡ image t g m ++ drop fixed_size s

-- The report of a call that leaves these marks: the list "is written to the front of the caller's change room", "the rest of the change room is
-- not written".
pub record Reported (t : Trigger) (g : Graph) (m : Marks) (trials : ℕ) (list c : List ℤ) (r : Answer) (c' : List ℤ) : Type 0 where
  pub answer : told r ≡ accepted record { fires = fires t g m; trials = trials; changes = length list }
  pub room : c' ≡ list ++ drop (length list) c

-- "At load the change list is all standing pairs, and the trial count is the number of admitted pairs."
abbrev pub load_list : Trigger → Graph → List ℤ
load_list t g = changes t g (λ u v. false) (stands t g)

abbrev pub load_trials : Trigger → Graph → ℕ
load_trials t g = size t g (pairs_of t g (admits t g))

-- A load. The words are 16 bits wide.
pub record Loaded (x : Given) (s : List ℕ) (c : List ℤ) (r : Answer) (s' : List ℕ) (c' : List ℤ) : Type 0 where
  pub words : ((below (2 ^ word_bits) x.masks ≡ true) × (below (2 ^ word_bits) x.values ≡ true) × (below (2 ^ word_bits) x.samples ≡ true))
  pub refuses : (verdict (load_rules (length s) (length c) x) ≡ 0 → ⊥) → Untouched (verdict (load_rules (length s) (length c) x)) s c r s' c'
  pub accepts : verdict (load_rules (length s) (length c) x) ≡ 0
      → let t = given_trigger x in let g = given_graph x in
      Left t g (stands t g) s s'
      × Reported t g (stands t g) (load_trials t g) (load_list t g) c r c'

-- "the number of pairs that ceased to stand"
abbrev pub ceased : Trigger → Graph → Marks → Marks → ℕ
ceased t g before after = size t g (minus (pairs_of t g before) (pairs_of t g after))

-- What holds of the marks and of the trial count that an edit leaves, whatever marks it met: this is the freedom of 01, item 1 of
-- "How little freedom the contracts leave".
abbrev pub Free : Kind → Trigger → Graph → Marks → Marks → ℕ → Type 0
Free insertion t g before after trials =
    ((u v : ℕ) → before u v ≡ true → after u v ≡ true) × (trials ≤ size t g (pairs_of t g (admits t g)))
Free deletion t g before after trials = ((u v : ℕ) → after u v ≡ true → before u v ≡ true) × (trials ≡ ceased t g before after)

-- the trial count of an edit of (a, b) that leaves the graph g, where the marks were those of their graph
abbrev pub trial_count : Kind → Trigger → Graph → Marks → Marks → ℕ → ℕ → ℕ
trial_count insertion t g before after a b = size t g (trial_set t g before a b)
trial_count deletion t g before after a b = ceased t g before after

-- The edit proper of (a, b), on a session that holds t, g and the marks `before`, and that it leaves with the marks `after`: the edge, the marks
-- and the trial count, without rules and without a room.
pub record Done (k : Kind) (t : Trigger) (g : Graph) (before after : Marks) (a b trials : ℕ) (s s' : List ℕ) : Type 0 where
  pub session : Left t (edited k g a b) after s s'
  pub admitted : valid_marks t (edited k g a b) after ≡ true
  pub free : Free k t (edited k g a b) before after trials
  pub right : before ≡ stands t g
      → (after ≡ stands t (edited k g a b)) × (trials ≡ trial_count k t (edited k g a b) before after a b)

-- An accepted edit: the edit proper, and its report.
pub record Carried (k : Kind) (t : Trigger) (g : Graph) (before after : Marks) (a b : ℕ)
    (s : List ℕ) (c : List ℤ) (r : Answer) (s' : List ℕ) (c' : List ℤ) : Type 0 where
  pub trials : ℕ
  pub edit : Done k t g before after a b trials s s'
  pub report : Reported t (edited k g a b) after trials (changes t (edited k g a b) before after) c r c'

-- An edit, and the two calls by their names.
pub record Edited (k : Kind) (s : List ℕ) (a b : ℕ) (c : List ℤ) (r : Answer) (s' : List ℕ) (c' : List ℤ) : Type 0 where
  pub refuses : (verdict (edit_rules k s (length c) a b) ≡ 0 → ⊥) → Untouched (verdict (edit_rules k s (length c) a b)) s c r s' c'
  pub accepts : verdict (edit_rules k s (length c) a b) ≡ 0
      → Carried k (trigger_of s) (graph_of s) (marks_of s) (marks_of s') a b s c r s' c'

abbrev pub Inserted : List ℕ → ℕ → ℕ → List ℤ → Answer → List ℕ → List ℤ → Type 0
Inserted = Edited insertion

abbrev pub Deleted : List ℕ → ℕ → ℕ → List ℤ → Answer → List ℕ → List ℤ → Type 0
Deleted = Edited deletion

-- "does u stand at v": the mark held, of the state with this number
abbrev pub Matches : List ℕ → ℕ → ℕ → StandingAnswer → Type 0
Matches s state v r = told_standing r ≡ outcome (verdict (pair_rules s state v)) (marks_of s (state - 1) v)

-- "does the trigger fire": of the marks held
abbrev pub Fires : List ℕ → FiringAnswer → Type 0
Fires s r = told_firing r ≡ outcome (verdict (question_rules s [])) (fires (trigger_of s) (graph_of s) (marks_of s))

-- "what is the walk order": how many states, and their numbers, zeros after them; all zeros where it is refused
pub record Ordered (s : List ℕ) (r : OrderAnswer) : Type 0 where
  pub answer : told_order r ≡ outcome (verdict (question_rules s [])) (states (trigger_of s))
  pub states : places_told r ≡ section max_states (cond (eqb (verdict (question_rules s [])) 0) (order (trigger_of s)) [])
