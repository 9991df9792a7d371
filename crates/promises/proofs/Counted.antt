-- Counts are small: a change list has a place for each pair at most, and so has a set of pairs.
use Prim.Native.Nat.{ℕ, ◌*◌, ◌≤◌}
use native.Mathlib.Nat.{mul-le-mul_left}
use native.Mathlib.Omega.{arith}
use lib.ListN.{length}
use Rattle.simulation.specs.Sets.{Set, minus}
use Rattle.simulation.proofs.Sets.{count-le}
use Rattle.session.specs.Limits.{max_states, max_nodes, max_changes}
use Rattle.session.specs.Trigger.{Trigger, Graph, Marks, states, nodes, admits}
use Rattle.session.proofs.Valid.{TriggerFacts, GraphFacts}
use Rattle.listing.specs.Changes.{changes}
use Rattle.listing.proofs.Lists.{changes-short}
use Rattle.promises.specs.Standing.{size, pairs_of}
use Rattle.promises.specs.Rules.{Kind, insertion, deletion, Given, given_trigger, given_graph, edited}
use Rattle.promises.specs.Promises.{Free}
use Rattle.promises.specs.Model.{Model, load_summary, edit_summary}

pub list-few : (t : Trigger) (g : Graph) (before after : Marks) → states t ≤ max_states → nodes g ≤ max_nodes → length (changes t g before after) ≤ max_changes
list-few t g before after few_states few_nodes =
    omega (arith, changes-short t g before after, mul-le-mul_left (nodes g) few_states, few_nodes)

pub size_few : (t : Trigger) (g : Graph) (X : Set) → states t ≤ max_states → nodes g ≤ max_nodes → size t g X ≤ max_changes
size_few t g X few_states few_nodes =
    omega (arith, count-le (nodes g * states t) X, mul-le-mul_left (nodes g) few_states, few_nodes)

-- the trials of an edit, whatever marks it met
pub free-few : (k : Kind) (t : Trigger) (g : Graph) (before after : Marks) (trials : ℕ) → states t ≤ max_states → nodes g ≤ max_nodes
    → Free k t g before after trials → trials ≤ max_changes
free-few insertion t g before after trials few_states few_nodes p =
    omega (arith, p.1, size_few t g (pairs_of t g (admits t g)) few_states few_nodes)
free-few deletion t g before after trials few_states few_nodes p =
    omega (arith, p.1, size_few t g (minus (pairs_of t g before) (pairs_of t g after)) few_states few_nodes)

-- ---- the counts of a report, by the model

pub load-counts : (x : Given) → TriggerFacts (given_trigger x) → GraphFacts (given_graph x)
    → ((load_summary x).trials ≤ max_changes) × ((load_summary x).changes ≤ max_changes)
load-counts x tf gf = (size_few (given_trigger x) (given_graph x) _ tf.few gf.few, list-few (given_trigger x) (given_graph x) _ _ tf.few gf.few)

pub edit-counts : (m : Model) (k : Kind) (a b : ℕ) → TriggerFacts m.trigger → GraphFacts (edited k m.graph a b)
    → ((edit_summary m k a b).trials ≤ max_changes) × ((edit_summary m k a b).changes ≤ max_changes)
edit-counts m insertion a b tf gf =
    (size_few m.trigger (edited insertion m.graph a b) _ tf.few gf.few, list-few m.trigger (edited insertion m.graph a b) _ _ tf.few gf.few)
edit-counts m deletion a b tf gf =
    (size_few m.trigger (edited deletion m.graph a b) _ tf.few gf.few, list-few m.trigger (edited deletion m.graph a b) _ _ tf.few gf.few)
