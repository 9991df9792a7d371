-- An answer as one number of 64 bits: bits 0 to 7 the rule broken (0: accepted), bit 8 firing (or the answer yes), bits 16 to 39 the trial count,
-- bits 40 to 63 the number of changes (or of states written).
use Rattle.std.specs.Prelude.{ℕ, ◌+◌, ◌*◌, ◌/◌, ◌%◌, ◌<◌, ◌≡◌, Bool, false, cond, List, [], ◌∷◌, ◌++◌, ltb, eqb, length, drop}
use Rattle.session.specs.Limits.{max_states}
use Rattle.session.specs.Trigger.{states}
use Rattle.session.specs.Layout.{section, trigger_of}
use Rattle.listing.specs.Order.{order}
use Rattle.promises.specs.Answers.{Answer, StandingAnswer, FiringAnswer, OrderAnswer, Outcome, accepted, refused, outcome, Summary, told, told_standing, told_firing, told_order}
use Rattle.promises.specs.Rules.{Rule, rule, verdict, question_rules}

-- a rule has 8 bits
abbrev pub rule_span : ℕ
rule_span = 256

-- a count has 24
abbrev pub count_span : ℕ
count_span = 16777216

-- what bit 8 is worth
abbrev pub yes_at : ℕ
yes_at = 256

-- bit 16
abbrev pub trials_at : ℕ
trials_at = 65536

-- bit 40
abbrev pub changes_at : ℕ
changes_at = 1099511627776

-- the number of an accepted answer: no rule, a yes or no, and two counts cut to their bits
unfoldable pub fields : Bool → ℕ → ℕ → ℕ
fields flag trials changes = cond flag yes_at 0 + ((trials % count_span) * trials_at + (changes % count_span) * changes_at)

-- the number of an outcome, by the number of what is accepted: a refusal is the number of its rule
abbrev pub packing : {A : Type 0} → (A → ℕ) → Outcome A → ℕ
packing f (accepted a) = f a
packing f (refused n) = n

-- the number of a report
abbrev pub packed : Outcome Summary → ℕ
packed = packing (λ s. fields s.fires s.trials s.changes)

-- of a yes or no: whether a state stands, whether the trigger fires
abbrev pub packed_yes : Outcome Bool → ℕ
packed_yes = packing (λ flag. fields flag 0 0)

-- of a number of states
abbrev pub packed_count : Outcome ℕ → ℕ
packed_count = packing (fields false 0)

-- bits 0 to 7
abbrev pub rule_part : ℕ → ℕ
rule_part w = w % rule_span

-- bit 8
abbrev pub yes_part : ℕ → Bool
yes_part w = eqb ((w / yes_at) % 2) 1

-- bits 16 to 39
abbrev pub trials_part : ℕ → ℕ
trials_part w = (w / trials_at) % count_span

-- bits 40 and up
abbrev pub changes_part : ℕ → ℕ
changes_part w = w / changes_at

-- the outcome of a number: accepted where no rule is broken
unfoldable pub unpacking : {A : Type 0} → (ℕ → A) → ℕ → Outcome A
unpacking f w = cond (eqb (rule_part w) 0) (accepted (f w)) (refused (rule_part w))

-- with a report
abbrev pub unpacked : ℕ → Outcome Summary
unpacked = unpacking (λ w. record { fires = yes_part w; trials = trials_part w; changes = changes_part w })

-- with a yes or no
abbrev pub unpacked_yes : ℕ → Outcome Bool
unpacked_yes = unpacking yes_part

-- with a number of states
abbrev pub unpacked_count : ℕ → Outcome ℕ
unpacked_count = unpacking changes_part

-- what an outcome tells fits its bits: a rule is 1 to 255, and what is accepted has the property F
abbrev pub Fitting : {A : Type 0} → (A → Type 0) → Outcome A → Type 0
Fitting F (accepted a) = F a
Fitting F (refused n) = (0 < n) × (n < rule_span)

-- a report fits: both counts have 24 bits
abbrev pub Fits : Outcome Summary → Type 0
Fits = Fitting (λ s. (s.trials < count_span) × (s.changes < count_span))

-- a yes or no fits
abbrev pub FitsYes : Outcome Bool → Type 0
FitsYes = Fitting (λ flag. Unit {0})

-- a number of states fits
abbrev pub FitsCount : Outcome ℕ → Type 0
FitsCount = Fitting (λ n. n < count_span)

-- the number of the answer to a load or an edit
abbrev pub answer_number : Answer → ℕ
answer_number a = packed (told a)

-- to the question whether a state stands at a node
abbrev pub standing_number : StandingAnswer → ℕ
standing_number a = packed_yes (told_standing a)

-- to the question whether the trigger fires
abbrev pub firing_number : FiringAnswer → ℕ
firing_number a = packed_yes (told_firing a)

-- to the question for the order
abbrev pub order_number : OrderAnswer → ℕ
order_number a = packed_count (told_order a)

-- The promise of a call whose answer comes as a number: an answer has the promise P of the call, and r is its number.
pub record Packs {A : Type 0} (number : A → ℕ) (P : A → Type 0) (r : ℕ) : Type 0 where
  pub answer : A
  pub holds : P answer
  pub packs : r ≡ number answer

-- An order into lent places. Rule 3 is broken too where these are fewer than states may be: this is an extension of 01.
abbrev pub order_rules : List ℕ → List ℕ → List Rule
order_rules s places = rule 3 (ltb (length places) max_states) ∷ question_rules s []

-- the order in the first 32 places, zeros after the states; the places past them stay, and a refusal writes nothing
pub record OrderWritten (s places : List ℕ) (r : ℕ) (places' : List ℕ) : Type 0 where
  pub answer : r ≡ packed_count (outcome (verdict (order_rules s places)) (states (trigger_of s)))
  pub written : places' ≡ cond (eqb (verdict (order_rules s places)) 0) (section max_states (order (trigger_of s)) ++ drop max_states places) places
