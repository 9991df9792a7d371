-- 01, "Standing", with the firing of 02, Job 5; and the trial set of "Edits and what they report".
use Rattle.std.specs.Prelude.{ℕ, ◌*◌, ◌<◌, ◌≡◌, ◌↔◌, Bool, true, not, ◌&&◌, ◌||◌, List, eqb, length, get_or}
use Rattle.simulation.specs.Sets.{Set, all_below, any_below, count}
use Rattle.simulation.specs.Ordered.{list_of}
use Rattle.simulation.specs.System.{closure}
use Rattle.simulation.specs.Pattern.{paired, system, best}
use Rattle.bits.specs.Word.{members, word}
use Rattle.session.specs.Trigger.{Trigger, Graph, Marks, states, nodes, linked, edge, admits, pattern}
use Rattle.session.specs.Reached.{Reached, reached}
use Rattle.session.specs.Layout.{table, valid_trigger}

-- "A simulation is a set of pairs (state u, node v) such that u admits v, and for each link from u to u' there is an edge from v to some v'
-- with (u', v') in the set."
pub record Simulation (t : Trigger) (g : Graph) (R : ℕ → ℕ → Type 0) : Type 0 where
  pub inside : (u v : ℕ) → R u v → (u < states t) × (v < nodes g)
  pub admitted : (u v : ℕ) → R u v → admits t g u v ≡ true
  pub carried : (u u' v : ℕ) → u' < states t → linked t u u' ≡ true → R u v → (v' : ℕ) × (edge g v v' ≡ true) × R u' v'

-- "It is the greatest, and its pairs stand." That it is a simulation and holds every one is proved in proofs/Stands.
unfoldable pub stands : Trigger → Graph → Marks
stands t g = best (pattern t g)

-- "The trigger fires when every state stands at some node", of any marks; 02, Job 5, "demands a node only of states reached from State One"
unfoldable pub fires : Trigger → Graph → Marks → Bool
fires t g m = all_below (states t) (λ u. not (reached t u) || any_below (nodes g) (m u))

-- 02, Job 5, "the trigger cut down to its reached states": these in ascending order, by index, and what the state at j there is in t
unfoldable pub kept : Trigger → List ℕ
kept t = list_of (states t) (reached t)

abbrev pub state_at : Trigger → ℕ → ℕ
state_at t j = get_or (kept t) j 0

-- a trigger of these states alone, numbered anew
unfoldable pub cut : Trigger → Trigger
cut t =
    let n = length (kept t) in
    record {
      masks = table n (λ j. get_or t.masks (state_at t j) 0);
      values = table n (λ j. get_or t.values (state_at t j) 0);
      links = table n (λ j. word n (λ i. linked t (state_at t j) (state_at t i)));
      inverted = word n (λ j. members t.inverted (state_at t j));
    }

-- Document 000's match relation: a simulation in which every state has a node; and the pairs of its largest one, none where there is none.
pub record Match (t : Trigger) (g : Graph) (R : ℕ → ℕ → Type 0) : Type 0 where
  pub simulates : Simulation t g R
  pub total : (u : ℕ) → u < states t → (v : ℕ) × R u v

abbrev pub Matched : Trigger → Graph → ℕ → ℕ → Type 0
Matched t g u v = (X : Marks) × Match t g (λ u v. X u v ≡ true) × (X u v ≡ true)

-- 02, Job 5, "The outside comparison is document 000's rule on the trigger cut down to its reached states": it is proved in proofs/Cut of every trigger
-- and graph.
pub record Compared (t : Trigger) (g : Graph) : Type 0 where
  -- it is a trigger that may be loaded
  pub valid : valid_trigger t ≡ true → valid_trigger (cut t) ≡ true
  -- its states are those reached, each once, and there too each is reached
  pub all : (u : ℕ) → Reached t u ↔ ((j : ℕ) × (j < states (cut t)) × (state_at t j ≡ u))
  pub once : (i j : ℕ) → i < j → j < states (cut t) → state_at t i < state_at t j
  pub again : (j : ℕ) → j < states (cut t) → Reached (cut t) j
  -- "cutting alters no mark of a reached state"
  pub marks : (j v : ℕ) → j < states (cut t) → stands (cut t) g j v ≡ stands t g (state_at t j) v
  -- the trigger fires exactly when 000's relation is not empty, and then that relation is the marks of the reached states
  pub firing : 0 < states t → (fires t g (stands t g) ≡ true) ↔ ((j : ℕ) × (v : ℕ) × Matched (cut t) g j v)
  pub relation : fires t g (stands t g) ≡ true → (j v : ℕ) → j < states (cut t) → Matched (cut t) g j v ↔ (stands t g (state_at t j) v ≡ true)

-- how many pairs of the trigger and the graph are in the set
abbrev pub size : Trigger → Graph → Set → ℕ
size t g X = count (nodes g * states t) X

abbrev pub pairs_of : Trigger → Graph → Marks → Set
pairs_of t g m = paired (pattern t g) m

-- "admitted but not standing before"
abbrev pub fresh : Trigger → Graph → Marks → Marks
fresh t g m u v = admits t g u v && not (m u v)

-- The trial set of an insertion of (a, b), by its two clauses: R has them where g is the graph after the insertion and m the marks before it.
pub record Tried (t : Trigger) (g : Graph) (m : Marks) (a b : ℕ) (R : ℕ → ℕ → Type 0) : Type 0 where
  -- "(1) each such pair (u, a) where u has a link to a state admitting b"
  pub starts : (u u' : ℕ) → u < states t → u' < states t → fresh t g m u a ≡ true → linked t u u' ≡ true → admits t g u' b ≡ true → R u a
  -- "(2) each such pair (u, w) with a link from u to u' and an edge, after the insertion, from w to w', where (u', w') is in the set"
  pub spreads : (u w u' w' : ℕ) → u < states t → w < nodes g → fresh t g m u w ≡ true → linked t u u' ≡ true → edge g w w' ≡ true
      → R u' w' → R u w

-- "the least set of pairs": a set of pairs of the trigger and the graph. That it has both clauses and lies in every such R is proved in proofs/Trials.
unfoldable pub trial_set : Trigger → Graph → Marks → ℕ → ℕ → Set
trial_set t g m a b =
    closure (system (pattern t g)) (pairs_of t g (fresh t g m))
    (pairs_of t g (λ u v. eqb v a && any_below (states t) (λ u'. linked t u u' && admits t g u' b)))
