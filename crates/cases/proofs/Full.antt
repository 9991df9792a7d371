-- The row of 2,048 edges, by laws and not by computing them.
use Prim.Native.Nat.{ℕ, zero, suc, ◌+◌, ◌-◌, ◌/◌, ◌%◌, ◌<◌, ◌≤◌}
use native.Mathlib.Omega.{arith}
use mathlib.Core.Path.{◌≡◌, refl, sym, ◌∙◌, ap, fun_ext}
use mathlib.Core.Bool.{false, ◌&&◌}
use mathlib.Core.List.{List, [], ◌∷◌, map}
use lib.Dec.{ltb}
use lib.ListN.{length, get_or}
use borrow.Author.Tests.{ltb-true, lt-ltb}
use Rattle.simulation.specs.Sets.{all_below}
use Rattle.simulation.specs.Ordered.{elem, ascends, joins}
use Rattle.simulation.proofs.Sets.{clash, refuted, same, all_make}
use Rattle.simulation.proofs.Ordered.{Rising, elem_at, elem_index, rising-take}
use Rattle.simulation.proofs.Pattern.{state-inside, node-inside}
use Rattle.simulation.proofs.Loops.{count_none}
use Rattle.session.specs.Limits.{max_nodes, max_edges, max_changes, fixed_size}
use Rattle.session.specs.Trigger.{Trigger, Graph, states, nodes, edge, edge_number, agrees, matches, accepts, admits, pattern}
use Rattle.session.specs.Layout.{table, below, valid_trigger}
use Rattle.session.proofs.Tables.{length-table, get_or-table, below_make}
use Rattle.session.proofs.Valid.{TriggerFacts, GraphFacts, trigger-facts}
use Rattle.session.proofs.Reached.{reached-one}
use Rattle.listing.proofs.Lists.{changes-none}
use Rattle.promises.specs.Standing.{stands, fires, pairs_of}
use Rattle.promises.specs.Rules.{Kind, insertion, Given, given_trigger, given_graph, graph_rules, verdict, load_rules}
use Rattle.promises.specs.Promises.{load_list, load_trials}
use Rattle.promises.specs.Model.{Model, begun, freshly, model_rules, editing}
use Rattle.promises.proofs.Stands.{stands-inside, stands-admitted, fires-take}
use Rattle.promises.proofs.Verdicts.{verdict_skip}
use Rattle.promises.proofs.Loads.{fresh-graph, fresh-accepted}
use Rattle.promises.proofs.Steps.{step-refused}
use Rattle.promises.proofs.Worked.{edge_present, edge_absent}
use Rattle.cases.specs.Cases.{Asked, edit, report, refusal, full}
use Rattle.cases.proofs.Predicted.{predicted, loaded, both, Right, is_right}

-- ---- where no pair is admitted, nothing stands: nothing is listed, nothing is tried, and no trigger fires

module _ (t : Trigger) (g : Graph) (h : (u v : ℕ) → u < states t → v < nodes g → admits t g u v ≡ false) where
  none_stand : (u v : ℕ) → stands t g u v ≡ false
  none_stand u v =
      refuted (stands t g u v) (λ e. let i = stands-inside t g u v e in clash (stands-admitted t g u v e) (h u v i.0 i.1))

  none-listed : load_list t g ≡ []
  none-listed = rw (fun_ext (λ u. fun_ext (none_stand u))) (changes-none t g (λ u v. false))

  none_tried : load_trials t g ≡ 0
  none_tried =
      count_none _ (pairs_of t g (admits t g))
      (λ p l. h (p % states t) (p / states t) (state-inside (pattern t g) p l) (node-inside (pattern t g) p l))

  none_fire : 0 < states t → fires t g (stands t g) ≡ false
  none_fire some =
      refuted (fires t g (stands t g)) (λ e. let w = fires-take t g (stands t g) e 0 (reached-one t some) in clash w.2 (none_stand 0 w.0))

pub loaded-none : (x : Given) → 0 < states (given_trigger x)
    → ((u v : ℕ) → u < states (given_trigger x) → v < nodes (given_graph x) → admits (given_trigger x) (given_graph x) u v ≡ false)
    → loaded x ≡ report false 0 []
unfolding loaded
loaded-none x some h =
    let t = given_trigger x in
    let g = given_graph x in
    rw (none_fire t g h some, none_tried t g h, none-listed t g h)

-- ---- an edit that breaks a rule is told its number, and changes nothing

pub predicted-refused : (m : Model) (k : Kind) (a b n : ℕ) (qs : List Asked) → verdict (graph_rules k m.graph a b) ≡ suc n
    → predicted m (edit k a b ∷ qs) ≡ refusal (suc n) ∷ predicted m qs
unfolding predicted
predicted-refused m k a b n qs h =
    let v : verdict (model_rules m (editing k a b)) ≡ suc n = verdict_skip 3 false (graph_rules k m.graph a b) refl ∙ h in
    rw (step-refused m (editing k a b) (λ z. absurd (omega arith)), v)

-- ---- the numbers below n

abbrev upto : ℕ → List ℕ
upto n = table n (λ k. k)

elem-upto : (n x : ℕ) → elem x (upto n) ≡ ltb x n
elem-upto n x =
    same (elem x (upto n)) (ltb x n)
    (λ h.
    let i = elem_index x (upto n) h in
    let l : i.0 < n = rw (length-table n (λ k. k)) at i.1 in
    lt-ltb x n (omega (arith, get_or-table n (λ k. k) i.0 l, i.2)))
    (λ h.
    let l = ltb-true x n h in
    rw (get_or-table n (λ k. k) x l) at (elem_at (upto n) x (rw (length-table n (λ k. k)) l)))

rising-upto : (n : ℕ) → Rising (upto n)
unfolding ascends
rising-upto n =
    rising-take (upto n)
    (all_make (length (upto n) - 1) (λ k. ltb (get_or (upto n) k 0) (get_or (upto n) (k + 1) 0))
    (λ k l.
    let long = length-table n (λ k. k) in
    rw (get_or-table n (λ k. k) k (omega arith), get_or-table n (λ k. k) (k + 1) (omega arith)) (lt-ltb k (k + 1) (omega arith))))

map-table : (f : ℕ → ℕ) (n : ℕ) (h : ℕ → ℕ) → map f (table n h) ≡ table n (λ k. f (h k))
unfolding table
map-table f zero h = refl
map-table f (suc n) h = ap (λ (l : List ℕ). f (h 0) ∷ l) (map-table f n (λ i. h (suc i)))

-- ---- every node has the sample 0, and the edges are those with a number below n

abbrev dense : ℕ → Graph
dense n = record { samples = table max_nodes (λ v. 0); edges = upto n }

dense-nodes : (n : ℕ) → nodes (dense n) ≡ max_nodes
dense-nodes n = length-table max_nodes (λ v. 0)

dense_sample : (n v : ℕ) → v < nodes (dense n) → get_or (dense n).samples v 0 ≡ 0
dense_sample n v l = get_or-table max_nodes (λ v. 0) v (rw (dense-nodes n) at l)

dense-edge : (n a b : ℕ) → edge (dense n) a b ≡ (ltb b max_nodes && ltb (edge_number a b) n)
unfolding edge joins
dense-edge n a b = rw (elem-upto n (edge_number a b))

dense-facts : (n : ℕ) → n ≤ max_edges → GraphFacts (dense n)
dense-facts n few =
    let many = dense-nodes n in
    record {
      few = omega arith;
      samples_fit = below_make _ (dense n).samples (λ v l. rw (dense_sample n v l) (omega arith));
      few_edges = rw (length-table n (λ k. k)) few;
      starts = λ y h. let l = ltb-true y n (sym (elem-upto n y) ∙ h) in omega arith;
      ends = λ y h. omega arith;
      rising = rising-upto n;
    }

-- ---- the row

model : Model
model = record { trigger = given_trigger full.given; graph = dense max_edges }

trigger-full : TriggerFacts model.trigger
unfolding full model valid_trigger below all_below
trigger-full = trigger-facts model.trigger refl

graph-full : GraphFacts model.graph
unfolding model
graph-full = dense-facts max_edges (omega arith)

-- it is a fresh load of the model
given-full : full.given ≡ freshly model
unfolding full model
given-full = rw (map-table (λ e. e / max_nodes) max_edges (λ k. k), map-table (λ e. e % max_nodes) max_edges (λ k. k))

begun-full : begun full.given ≡ model
begun-full = rw (given-full, fresh-graph model trigger-full graph-full)

nothing-admitted : (u v : ℕ) → u < states (given_trigger full.given) → v < nodes (given_graph full.given)
    → admits (given_trigger full.given) (given_graph full.given) u v ≡ false
unfolding full admits accepts matches agrees all_below
nothing-admitted (suc u) v l k = absurd (omega arith)
nothing-admitted zero v l k = rw (dense_sample max_edges v k)

absent : verdict (graph_rules insertion model.graph 4 0) ≡ 13
unfolding model
absent =
    let inside = dense-nodes max_edges in
    edge_absent (dense max_edges) 4 0 (rw inside) (rw inside) (dense-edge max_edges 4 0) (rw (length-table max_edges (λ k. k)))

present : verdict (graph_rules insertion model.graph 0 0) ≡ 12
unfolding model
present =
    let inside = dense-nodes max_edges in
    edge_present (dense max_edges) 0 0 (rw inside) (rw inside) (dense-edge max_edges 0 0)

pub right-full : Right full
unfolding full predicted
right-full =
    is_right full
    (ap (λ (x : Given). verdict (load_rules fixed_size max_changes x)) given-full
    ∙ fresh-accepted model trigger-full graph-full fixed_size max_changes (omega arith) (omega arith))
    (both
    (loaded-none full.given (omega arith) nothing-admitted)
    (ap (λ (m : Model). predicted m full.asked) begun-full
    ∙ predicted-refused model insertion 4 0 12 (edit insertion 0 0 ∷ []) absent
    ∙ both refl (predicted-refused model insertion 0 0 11 [] present)))
