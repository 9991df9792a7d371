-- 01, "An answer is either accepted with its report or refused with one number": each answer type in 01's terms.
use Rattle.std.specs.Prelude.{ℕ, zero, suc, Bool, true, false, cond, List, [], leb, ℤ, length, take, Result, Ok, Err}
use Rattle.session.specs.Limits.{max_states}
use Rattle.session.specs.Layout.{section}
use Rattle.promises.specs.declared.Refusal.{Refusal}
use Rattle.promises.specs.declared.Refusal.TheVariants as R
use Rattle.promises.specs.declared.Firing.{Firing}
use Rattle.promises.specs.declared.Firing.TheVariants.{Fires, Silent}
use Rattle.promises.specs.declared.Report.{Report}
use Rattle.promises.specs.declared.Standing.{Standing}
use Rattle.promises.specs.declared.Standing.TheVariants as S
use Rattle.promises.specs.declared.StateOrder.{StateOrder}

-- "the number of the first rule broken": of each rule, its number in 01 and 02
abbrev pub number : Refusal → ℕ
number R.NoFrame = 1
number R.NotNow = 2
number R.MemoryShort = 3
number R.StatesWrong = 4
number R.LinkWrong = 5
number R.NodesWrong = 6
number R.EdgesWrong = 7
number R.EdgeNodeWrong = 8
number R.EdgesUnordered = 9
number R.NotInLayout = 10
number R.NameWrong = 11
number R.EdgePresent = 12
number R.EdgesFull = 13
number R.EdgeAbsent = 14

-- the answers: to a load or an edit, whether a state stands at a node, whether the trigger fires, and to the walk order
abbrev pub Answer : Type 0
Answer = Result Report Refusal

abbrev pub StandingAnswer : Type 0
StandingAnswer = Result Standing Refusal

abbrev pub FiringAnswer : Type 0
FiringAnswer = Result Firing Refusal

abbrev pub OrderAnswer : Type 0
OrderAnswer = Result StateOrder Refusal

-- the rule that an answer names: 0 where none is broken
abbrev pub first_broken : {A : Type 0} → Result A Refusal → ℕ
first_broken (Ok a) = 0
first_broken (Err rule) = number rule

pub data Outcome (A : Type 0) : Type 0 where
  accepted : A → Outcome A
  refused : ℕ → Outcome A

-- accepted where no rule is broken, and else refused with the number of the first
abbrev pub outcome : {A : Type 0} → ℕ → A → Outcome A
outcome zero a = accepted a
outcome (suc n) a = refused (suc n)

-- "An accepted call reports whether the trigger fires, a trial count, and the change list": of the list, its length
pub record Summary : Type 0 where
  pub fires : Bool
  pub trials : ℕ
  pub changes : ℕ

abbrev pub firing : Firing → Bool
firing Fires = true
firing Silent = false

abbrev pub told : Answer → Outcome Summary
told (Ok r) = accepted record { fires = firing r.firing; trials = r.trials; changes = r.changes }
told (Err rule) = refused (number rule)

abbrev pub told_standing : StandingAnswer → Outcome Bool
told_standing (Ok S.Stands) = accepted true
told_standing (Ok S.Absent) = accepted false
told_standing (Err rule) = refused (number rule)

abbrev pub told_firing : FiringAnswer → Outcome Bool
told_firing (Ok f) = accepted (firing f)
told_firing (Err rule) = refused (number rule)

abbrev pub told_order : OrderAnswer → Outcome ℕ
told_order (Ok o) = accepted o.count
told_order (Err rule) = refused (number rule)

-- the places of an order, of which a refused one has none: zeros
abbrev pub places_told : OrderAnswer → List ℕ
places_told (Ok o) = o.states
places_told (Err rule) = section max_states []

abbrev pub fires_told : Outcome Summary → Bool
fires_told (accepted s) = s.fires
fires_told (refused n) = false

-- "handed back as that filled part of it": nothing for a refused answer, or for a room that is too short
abbrev pub changes_told : Outcome Summary → ℕ
changes_told (accepted s) = s.changes
changes_told (refused n) = 0

unfoldable pub handed_back : List ℤ → Answer → List ℤ
handed_back room r = let n = changes_told (told r) in cond (leb n (length room)) (take n room) []
