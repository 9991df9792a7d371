-- What the promises leave to be told, from the model alone: every run tells just this.
use Prim.Native.Nat.{ℕ, zero, suc, ◌-◌, ◌≤◌}
use mathlib.Core.Path.{◌≡◌, refl, ◌∙◌, ap, ap₂}
use mathlib.Core.Bool.{not, ◌&&◌}
use mathlib.Core.List.{List, [], ◌∷◌}
use lib.Dec.{ltb, leb}
use lib.IntN.{ℤ}
use lib.ListN.{length}
use borrow.Author.Tests.{le-ltb}
use Rattle.session.specs.Limits.{max_changes, fixed_size}
use Rattle.session.specs.Trigger.{Trigger, Graph, states, nodes}
use Rattle.listing.specs.Order as walk
use Rattle.promises.specs.Standing.{stands, fires}
use Rattle.promises.specs.Answers.{Answer, StandingAnswer, FiringAnswer, OrderAnswer, places_told, Outcome, Summary, outcome, accepted, told, told_standing, told_firing, told_order, handed_back}
use Rattle.promises.specs.Rules.{Kind, Given, given_trigger, given_graph, Rule, rule, verdict, load_rules}
use Rattle.promises.specs.Promises.{load_list, Loaded, Edited, Matches, Fires, Ordered}
use Rattle.promises.specs.Model.{Model, begun, model_rules, step, editing, load_summary, edit_list, edit_summary}
use Rattle.promises.specs.Demands.{Faithful}
use Rattle.promises.proofs.Steps.{holds-trigger, holds-graph, holds-marks, in_layout_lem, faithful-load}
use Rattle.promises.proofs.Told.{same_load, load_told, load-list, question, order-told, order-list, edit-told, edit-list, edit-after}
use Rattle.cases.specs.Cases.{
  Asked,
  edit,
  standing,
  firing,
  order,
  Told,
  says,
  lists,
  heard,
  heard_said,
  heard_order,
  Played,
  done,
  stood,
  fired,
  ordered,
  Case,
  Fact,
  Every,
  none,
  ◌and◌,
}
use Rattle.cases.specs.Cases as cases

-- ---- what is predicted

-- rule 11 of a question that names a state and a node
abbrev pub pair_row : Trigger → Graph → ℕ → ℕ → List Rule
pair_row t g u v = rule 11 (not ((leb 1 u && leb u (states t)) && ltb v (nodes g))) ∷ []

unfoldable pub predicted : Model → List Asked → List Told
predicted m [] = []
predicted m (edit k a b ∷ qs) =
    heard (outcome (verdict (model_rules m (editing k a b))) (edit_summary m k a b)) (edit_list m k a b)
    ∷ predicted (step m (editing k a b)) qs
predicted m (standing u v ∷ qs) =
    heard_said (outcome (verdict (pair_row m.trigger m.graph u v)) (stands m.trigger m.graph (u - 1) v))
    ∷ predicted m qs
predicted m (firing ∷ qs) = says (fires m.trigger m.graph (stands m.trigger m.graph)) ∷ predicted m qs
predicted m (order ∷ qs) = lists (walk.order m.trigger) ∷ predicted m qs

-- the report of a load that is accepted
unfoldable pub loaded : Given → Told
loaded x = heard (accepted (load_summary x)) (load_list (given_trigger x) (given_graph x))

-- ---- each answer is the one predicted

-- of an answer that is accepted or refused, with the list that is handed back where it is accepted
heard-outcome : (n : ℕ) (o : Outcome Summary) (a : Summary) (list list' : List ℤ) → o ≡ outcome n a → (n ≡ 0 → list ≡ list')
    → heard o list ≡ heard (outcome n a) list'
heard-outcome zero o a list list' e h = ap₂ heard e (h refl)
heard-outcome (suc n) o a list list' e h = ap (λ (x : Outcome Summary). heard x list) e

module _ (m : Model) (s : List ℕ) (f : Faithful m s) where
  abbrev t : Trigger
  t = m.trigger

  abbrev g : Graph
  g = m.graph

  heard-standing : (u v : ℕ) (r : StandingAnswer) → Matches s u v r
      → heard_said (told_standing r) ≡ heard_said (outcome (verdict (pair_row m.trigger m.graph u v)) (stands m.trigger m.graph (u - 1) v))
  unfolding verdict
  heard-standing u v r p =
      ap heard_said p
      ∙ rw (le-ltb (length s) fixed_size f.long, in_layout_lem m s f, holds-trigger m s f, holds-graph m s f, holds-marks m s f)

  heard-firing : (r : FiringAnswer) → Fires s r → heard_said (told_firing r) ≡ says (fires m.trigger m.graph (stands m.trigger m.graph))
  heard-firing r p = ap heard_said p ∙ rw (question m s f, holds-trigger m s f, holds-graph m s f, holds-marks m s f)

  heard-order : (r : OrderAnswer) → Ordered s r → heard_order (told_order r) (places_told r) ≡ lists (walk.order m.trigger)
  heard-order r p =
      ap (λ (o : Outcome ℕ). heard_order o (places_told r)) (order-told m s f r p) ∙ ap lists (order-list m s f r p)

  heard-edit : (k : Kind) (a b : ℕ) (room : List ℤ) (r : Answer) (s' : List ℕ) (room' : List ℤ) → max_changes ≤ length room
      → Edited k s a b room r s' room'
      → heard (told r) (handed_back room' r) ≡ heard (outcome (verdict (model_rules m (editing k a b))) (edit_summary m k a b)) (edit_list m k a b)
  heard-edit k a b room r s' room' wide p =
      heard-outcome (verdict (model_rules m (editing k a b))) (told r) (edit_summary m k a b) (handed_back room' r) (edit_list m k a b)
      (edit-told m s f k a b room r s' room' wide p) (edit-list m s f k a b room r s' room' wide p)

heard-load : (x : Given) (s : List ℕ) (room : List ℤ) (r : Answer) (s' : List ℕ) (room' : List ℤ) → fixed_size ≤ length s → max_changes ≤ length room
    → Loaded x s room r s' room' → verdict (load_rules fixed_size max_changes x) ≡ 0 → heard (told r) (handed_back room' r) ≡ loaded x
unfolding loaded
heard-load x s room r s' room' long wide p ok =
    heard-outcome 0 (told r) (load_summary x) (handed_back room' r) (load_list (given_trigger x) (given_graph x))
    (load_told x s room long wide r s' room' p ∙ ap (λ (n : ℕ). outcome n (load_summary x)) ok)
    (λ z. load-list x s room long wide r s' room' p ok)

-- ---- every run tells what is predicted

pub both : {x y : Told} {xs ys : List Told} → x ≡ y → xs ≡ ys → x ∷ xs ≡ y ∷ ys
both e h = cc

run : (m : Model) {s : List ℕ} {qs : List Asked} {ts : List Told} → Faithful m s → Played s qs ts → ts ≡ predicted m qs
unfolding predicted
run m f done = refl
run m {s} f (cases.edited {k = k} {a = a} {b = b} room r s' room' wide p more) =
    both
    (heard-edit m s f k a b room r s' room' wide p)
    (run (step m (editing k a b)) (edit-after m s f k a b room r s' room' wide p) more)
run m {s} f (stood {u = u} {v = v} r p more) = both (heard-standing m s f u v r p) (run m f more)
run m {s} f (fired r p more) = both (heard-firing m s f r p) (run m f more)
run m {s} f (ordered r p more) = both (heard-order m s f r p) (run m f more)

-- a row that is right: its load breaks no rule, and what it says is told is what is predicted
pub record Right (c : Case) : Type 0 where
  pub loads : verdict (load_rules fixed_size max_changes c.given) ≡ 0
  pub tells : loaded c.given ∷ predicted (begun c.given) c.asked ≡ c.told

pub is_right : (c : Case) → verdict (load_rules fixed_size max_changes c.given) ≡ 0
    → loaded c.given ∷ predicted (begun c.given) c.asked ≡ c.told → Right c
is_right c ok told = record { loads = ok; tells = told }

pub fact : (c : Case) → Right c → Fact c
fact c h s room r s' room' ts long wide p q =
    both
    (heard-load c.given s room r s' room' long wide p h.loads)
    (run (begun c.given) (faithful-load c.given s room r s' room' p (same_load c.given s room long wide ∙ h.loads)) q)
    ∙ h.tells

pub every : {cs : List Case} → Every Right cs → Every Fact cs
every none = none
every (◌and◌ {c = c} h hs) = fact c h and every hs
