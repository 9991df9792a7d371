-- 01, "Turned back, in this sequence": the rules of each call as rows, and the first one broken.
use Rattle.std.specs.Prelude.{ℕ, suc, ◌-◌, ◌^◌, Bool, not, ◌&&◌, ◌||◌, cond, List, [], ◌∷◌, ltb, leb, eqb, length, get_or}
use Rattle.simulation.specs.Sets.{all_below}
use Rattle.session.specs.Limits.{max_states, max_nodes, max_edges, max_changes, fixed_size}
use Rattle.session.specs.Trigger.{Trigger, Graph, states, nodes, edge, with_edge, without_edge}
use Rattle.session.specs.Layout.{numbered, below, trigger_of, graph_of, in_layout}
use Rattle.promises.specs.declared.Lists.{Lists}

pub record Rule : Type 0 where
  pub number : ℕ
  pub broken : Bool

abbrev pub rule : ℕ → Bool → Rule
rule n b = record { number = n; broken = b }

-- "refused with the number of the first rule broken": 0 where none is
unfoldable pub verdict : List Rule → ℕ
verdict [] = 0
verdict (r ∷ rs) = cond r.broken r.number (verdict rs)

-- what a load is given: a list for each field, and the set of inverted states
pub record Given : Type 0 where
  pub masks : List ℕ
  pub values : List ℕ
  pub links : List ℕ
  pub inverted : ℕ
  pub samples : List ℕ
  pub starts : List ℕ
  pub ends : List ℕ

abbrev pub given : List ℕ → List ℕ → List ℕ → ℕ → List ℕ → List ℕ → List ℕ → Given
given masks values links inverted samples starts ends =
    record { masks = masks; values = values; links = links; inverted = inverted; samples = samples; starts = starts; ends = ends }

abbrev pub given_by : Lists → Given
given_by x = given x.masks.now x.values.now x.links.now x.inverted x.samples.now x.starts.now x.ends.now

abbrev pub given_trigger : Given → Trigger
given_trigger x = record { masks = x.masks; values = x.values; links = x.links; inverted = x.inverted }

abbrev pub given_graph : Given → Graph
given_graph x = record { samples = x.samples; edges = numbered x.starts x.ends }

-- "in ascending order (start, then end)"
abbrev pub precedes : ℕ → ℕ → ℕ → ℕ → Bool
precedes a b c d = ltb a c || (eqb a c && ltb b d)

-- rules 3 to 9, of a load into `memory` words and `room` places; an inverted state that is not among the states
-- is one given in part
abbrev pub load_rules : ℕ → ℕ → Given → List Rule
load_rules memory room x =
    let n = length x.masks in
    let e = length x.starts in
    rule 3 (ltb memory fixed_size || ltb room max_changes)
    ∷ rule 4 ((eqb n 0 || ltb max_states n) || ((not (eqb (length x.values) n) || not (eqb (length x.links) n)) || not (ltb x.inverted (2 ^ n))))
    ∷ rule 5 (not (below (2 ^ n) x.links))
    ∷ rule 6 (ltb max_nodes (length x.samples))
    ∷ rule 7 (ltb max_edges e || not (eqb (length x.ends) e))
    ∷ rule 8 (not (below (length x.samples) x.starts && below (length x.samples) x.ends))
    ∷ rule 9 (not (all_below (e - 1) (λ k. precedes (get_or x.starts k 0) (get_or x.ends k 0) (get_or x.starts (suc k) 0) (get_or x.ends (suc k) 0))))
    ∷ []

pub data Kind : Type 0 where
  insertion deletion : Kind

-- "An accepted insertion adds its edge to the edges held and an accepted deletion takes its edge out"
abbrev pub edited : Kind → Graph → ℕ → ℕ → Graph
edited insertion g a b = with_edge g a b
edited deletion g a b = without_edge g a b

-- rules 11 to 14, of an edit of this graph
abbrev pub graph_rules : Kind → Graph → ℕ → ℕ → List Rule
graph_rules insertion g a b =
    rule 11 (not (ltb a (nodes g) && ltb b (nodes g))) ∷ rule 12 (edge g a b) ∷ rule 13 (leb max_edges (length g.edges)) ∷ []
graph_rules deletion g a b = rule 11 (not (ltb a (nodes g) && ltb b (nodes g))) ∷ rule 14 (not (edge g a b)) ∷ []

-- an edit of this session, with `room` places
abbrev pub edit_rules : Kind → List ℕ → ℕ → ℕ → ℕ → List Rule
edit_rules k s room a b =
    rule 3 (ltb (length s) fixed_size || ltb room max_changes) ∷ rule 10 (not (in_layout s)) ∷ graph_rules k (graph_of s) a b

-- a question ("calls that take no change room skip that half"), and one that names a state by its number and a node
abbrev pub question_rules : List ℕ → List Rule → List Rule
question_rules s more = rule 3 (ltb (length s) fixed_size) ∷ rule 10 (not (in_layout s)) ∷ more

abbrev pub pair_rules : List ℕ → ℕ → ℕ → List Rule
pair_rules s state v =
    question_rules s (rule 11 (not ((leb 1 state && leb state (states (trigger_of s))) && ltb v (nodes (graph_of s)))) ∷ [])
