-- 01, "The book of demand 3": the model. It knows what the calls are given, and nothing of a session or an answer.
use Rattle.std.specs.Prelude.{ℕ, ◌/◌, ◌%◌, cond, List, ◌∷◌, map, ltb, eqb, ℤ, length}
use Rattle.session.specs.Limits.{max_nodes, max_changes}
use Rattle.session.specs.Trigger.{Trigger, Graph}
use Rattle.listing.specs.Changes.{changes}
use Rattle.promises.specs.Standing.{stands, fires}
use Rattle.promises.specs.Answers.{Summary}
use Rattle.promises.specs.Rules.{Rule, rule, verdict, Given, given_trigger, given_graph, Kind, edited, graph_rules}
use Rattle.promises.specs.Promises.{load_list, load_trials, trial_count}

-- "It holds a trigger, samples and a set of edges."
pub record Model : Type 0 where
  pub trigger : Trigger
  pub graph : Graph

-- "A load that meets no rule starts it with exactly what it gives."
abbrev pub begun : Given → Model
begun x = record { trigger = given_trigger x; graph = given_graph x }

-- one step: its kind, the two nodes, and the length of its change room
pub record Edit : Type 0 where
  pub kind : Kind
  pub start : ℕ
  pub end : ℕ
  pub room : ℕ

-- "refused with the first that applies: 3 if its change room is too short for that rule; 11 ..; 12 ..; 13 .. Deletion .. likewise with 3, 11, or 14"
abbrev pub model_rules : Model → Edit → List Rule
model_rules b e = rule 3 (ltb e.room max_changes) ∷ graph_rules e.kind b.graph e.start e.end

-- "Otherwise (a, b) goes in", or out. "A refused step changes nothing."
unfoldable pub step : Model → Edit → Model
step b e =
    cond (eqb (verdict (model_rules b e)) 0)
    record { trigger = b.trigger; graph = edited e.kind b.graph e.start e.end } b

-- "A fresh load is one of the book's trigger, samples and ascending edges"
abbrev pub freshly : Model → Given
freshly b = record {
  masks = b.trigger.masks;
  values = b.trigger.values;
  links = b.trigger.links;
  inverted = b.trigger.inverted;
  samples = b.graph.samples;
  starts = map (λ e. e / max_nodes) b.graph.edges;
  ends = map (λ e. e % max_nodes) b.graph.edges;
}

-- an edit with a room of just the length that rule 3 asks for
abbrev pub editing : Kind → ℕ → ℕ → Edit
editing k a b = record { kind = k; start = a; end = b; room = max_changes }

-- what a load and an edit that break no rule report of the model: "whether the trigger fires, a trial count, and the change list"
abbrev pub load_summary : Given → Summary
load_summary x =
    let t = given_trigger x in
    let g = given_graph x in
    record { fires = fires t g (stands t g); trials = load_trials t g; changes = length (load_list t g) }

abbrev pub edit_list : Model → Kind → ℕ → ℕ → List ℤ
edit_list m k a b = let g' = edited k m.graph a b in changes m.trigger g' (stands m.trigger m.graph) (stands m.trigger g')

abbrev pub edit_summary : Model → Kind → ℕ → ℕ → Summary
edit_summary m k a b =
    let t = m.trigger in
    let g' = edited k m.graph a b in
    record {
      fires = fires t g' (stands t g');
      trials = trial_count k t g' (stands t m.graph) (stands t g') a b;
      changes = length (edit_list m k a b);
    }
