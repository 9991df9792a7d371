-- Cases computed from the definitions alone, beside those of the crate cases: a ring of three closed by one edge, a pair tried and dropped, and
-- rules that are broken together.
use Prim.Native.Nat.{ℕ, zero, suc, ◌+◌, ◌-◌, ◌^◌}
use mathlib.Core.Path.{◌≡◌, refl}
use mathlib.Core.Bool.{Bool, true, false, ◌&&◌, ◌||◌}
use mathlib.Core.List.{List, [], ◌∷◌, map}
use lib.Dec.{ltb, leb}
use lib.IntN.{ℤ, pos}
use lib.ListN.{length}
use Rattle.simulation.specs.Sets.{any_below, all_below, count, shrunk, down, grown, up}
use Rattle.simulation.specs.System.{greatest, supported, closure, reaches}
use Rattle.simulation.specs.Pattern.{best}
use Rattle.simulation.specs.Ordered.{elem, insert, remove, joins}
use Rattle.bits.specs.Word.{word}
use Rattle.session.specs.Limits.{max_states, max_nodes, max_edges, max_changes, fixed_size}
use Rattle.session.specs.Trigger.{Trigger, Graph, nodes, linked, edge, edge_number, agrees, matches, accepts, admits}
use Rattle.session.specs.Reached.{reached}
use Rattle.session.specs.Layout.{table, mark_word, below, in_layout}
use Rattle.listing.specs.Changes.{join_to, changes}
use Rattle.listing.specs.Order.{fold, visit, order}
use Rattle.promises.specs.Standing.{stands, fires, trial_set}
use Rattle.promises.specs.Rules.{Rule, Kind, insertion, deletion, edited, graph_rules, verdict, Given, load_rules, edit_rules, question_rules}
use Rattle.promises.specs.Promises.{load_list, load_trials, trial_count}

-- a load, or an edit of (start, end), of this trigger and this graph
data Asked : Type 0 where
  load : Trigger → Graph → Asked
  edit : Kind → Trigger → Graph → ℕ → ℕ → Asked

-- what is answered where the marks are right: the rule broken, or firing, the trial count and the change list
data Told : Type 0 where
  refuse : ℕ → Told
  report : Bool → ℕ → List ℤ → Told

judge : ℕ → Told → Told
judge zero r = r
judge (suc n) r = refuse (suc n)

answer : Asked → Told
answer (load t g) = report (fires t g (stands t g)) (load_trials t g) (load_list t g)
answer (edit k t g a b) =
    let g' = edited k g a b in
    judge (verdict (graph_rules k g a b))
    (report (fires t g' (stands t g')) (trial_count k t g' (stands t g) (stands t g') a b) (changes t g (stands t g) (stands t g')))

-- 01's session: two states linked to each other, each admitting its own node
two : Trigger
two = record { masks = 0xFFFF ∷ 0xFFFF ∷ []; values = 1 ∷ 2 ∷ []; links = 2 ∷ 1 ∷ []; inverted = 0 }

-- one state linked to itself that admits every node
self : Trigger
self = record { masks = 0 ∷ []; values = 0xFF ∷ []; links = 1 ∷ []; inverted = 0 }

-- State One linked to itself and to state 3, which links back to it; state 2 is not reached
three : Trigger
three = record { masks = 0 ∷ 0 ∷ 0 ∷ []; values = 0 ∷ 0 ∷ 0 ∷ []; links = 5 ∷ 1 ∷ 1 ∷ []; inverted = 0 }

graph : List ℕ → List ℕ → Graph
graph samples edges = record { samples = samples; edges = edges }

two_nodes : List ℕ → Graph
two_nodes = graph (1 ∷ 2 ∷ [])

rows : List Asked
rows =
    load self (graph (0 ∷ 0 ∷ []) [])
    ∷ edit insertion self (graph (0 ∷ 0 ∷ 0 ∷ []) (edge_number 0 1 ∷ edge_number 1 2 ∷ [])) 2 0
    ∷ edit insertion self (graph (0 ∷ 0 ∷ []) []) 0 1
    ∷ edit deletion self (graph (0 ∷ 0 ∷ []) (edge_number 0 1 ∷ edge_number 1 0 ∷ [])) 1 1
    ∷ edit insertion self (graph (0 ∷ 0 ∷ []) []) 0 2
    ∷ []

told : List Told
told =
    report false 2 []
    ∷ report true 3 (pos 1 ∷ pos 65 ∷ pos 129 ∷ [])
    ∷ report false 1 []
    ∷ refuse 14
    ∷ refuse 11
    ∷ []

worked : map answer rows ≡ told
unfolding answer judge rows told self graph verdict insert remove joins elem edge linked admits accepts matches agrees reached fires stands best
    greatest supported shrunk down any_below all_below count changes join_to trial_set closure grown up reaches
worked = refl

worked_orders : map order (self ∷ three ∷ []) ≡ ((1 ∷ []) ∷ (1 ∷ 3 ∷ 2 ∷ []) ∷ [])
unfolding self three order visit fold elem linked
worked_orders = refl

-- ---- the sequence of the rules: loads that break two neighbours each, one that breaks the last, one that breaks none

many : ℕ → List ℕ
many n = table n (λ i. i)

given : List ℕ → List ℕ → ℕ → List ℕ → List ℕ → List ℕ → Given
given masks links inverted samples starts ends =
    record { masks = masks; values = masks; links = links; inverted = inverted; samples = samples; starts = starts; ends = ends }

load_verdicts : List ℕ
load_verdicts =
    verdict (load_rules (fixed_size - 1) max_changes (given [] [] 0 [] [] []))
    ∷ verdict (load_rules fixed_size (max_changes - 1) (given [] [] 0 [] [] []))
    ∷ verdict (load_rules fixed_size max_changes (given [] (2 ∷ []) 0 [] [] []))
    ∷ verdict (load_rules fixed_size max_changes (given (many (max_states + 1)) (2 ^ (max_states + 1) ∷ many max_states) 0 [] [] []))
    ∷ verdict (load_rules fixed_size max_changes (given (0 ∷ []) (2 ∷ []) 2 [] [] []))
    ∷ verdict (load_rules fixed_size max_changes (given (0 ∷ []) (2 ∷ []) 1 (many (max_nodes + 1)) [] []))
    ∷ verdict (load_rules fixed_size max_changes (given (0 ∷ []) (1 ∷ []) 0 (many (max_nodes + 1)) (0 ∷ []) []))
    ∷ verdict (load_rules fixed_size max_changes (given (0 ∷ []) (1 ∷ []) 0 (0 ∷ []) (1 ∷ 0 ∷ []) (0 ∷ [])))
    ∷ verdict (load_rules fixed_size max_changes (given (0 ∷ []) (1 ∷ []) 0 (0 ∷ []) (0 ∷ 0 ∷ []) (1 ∷ 0 ∷ [])))
    ∷ verdict (load_rules fixed_size max_changes (given (0 ∷ []) (1 ∷ []) 0 (0 ∷ 0 ∷ []) (0 ∷ 0 ∷ []) (1 ∷ 0 ∷ [])))
    ∷ verdict (load_rules fixed_size max_changes (given (0 ∷ []) (1 ∷ []) 1 (0 ∷ 0 ∷ []) (0 ∷ 0 ∷ []) (0 ∷ 1 ∷ [])))
    ∷ []

worked_loads : load_verdicts ≡ 3 ∷ 3 ∷ 4 ∷ 4 ∷ 4 ∷ 5 ∷ 6 ∷ 7 ∷ 8 ∷ 9 ∷ 0 ∷ []
unfolding load_verdicts given many table verdict below all_below
worked_loads = refl

-- "Edges 2,048 and one more, absent: 13; one more, present: 12", whatever the edges are
pub edge_present : (g : Graph) (a b : ℕ) → ltb a (nodes g) ≡ true → ltb b (nodes g) ≡ true → edge g a b ≡ true → verdict (graph_rules insertion g a b) ≡ 12
unfolding verdict
edge_present g a b ha hb h = rw (ha, hb, h)

pub edge_absent : (g : Graph) (a b : ℕ) → ltb a (nodes g) ≡ true → ltb b (nodes g) ≡ true → edge g a b ≡ false → leb max_edges (length g.edges) ≡ true
    → verdict (graph_rules insertion g a b) ≡ 13
unfolding verdict
edge_absent g a b ha hb h full = rw (ha, hb, h, full)

-- an end that is no node comes before all else that an edge may break
pub edge_outside : (k : Kind) (g : Graph) (a b : ℕ) → (ltb a (nodes g) && ltb b (nodes g)) ≡ false → verdict (graph_rules k g a b) ≡ 11
unfolding verdict
edge_outside insertion g a b h = rw h
edge_outside deletion g a b h = rw h

-- memory or room too short comes before the layout, and the layout before the edge; of a question likewise
pub edit-short : (k : Kind) (s : List ℕ) (room a b : ℕ) → (ltb (length s) fixed_size || ltb room max_changes) ≡ true → verdict (edit_rules k s room a b) ≡ 3
unfolding verdict
edit-short k s room a b h = rw h

pub edit_unlaid : (k : Kind) (s : List ℕ) (room a b : ℕ) → (ltb (length s) fixed_size || ltb room max_changes) ≡ false → in_layout s ≡ false
    → verdict (edit_rules k s room a b) ≡ 10
unfolding verdict
edit_unlaid k s room a b h l = rw (h, l)

pub question-short : (s : List ℕ) (more : List Rule) → ltb (length s) fixed_size ≡ true → verdict (question_rules s more) ≡ 3
unfolding verdict
question-short s more h = rw h

pub question_unlaid : (s : List ℕ) (more : List Rule) → ltb (length s) fixed_size ≡ false → in_layout s ≡ false → verdict (question_rules s more) ≡ 10
unfolding verdict
question_unlaid s more h l = rw (h, l)

-- ---- the memory of docs/LAYOUT.md: the edges and the mark words of 01's session once both edges are in

both : Graph
both = two_nodes (edge_number 0 1 ∷ edge_number 1 0 ∷ [])

worked_edges : both.edges ≡ 1 ∷ 512 ∷ []
unfolding both two_nodes graph
worked_edges = refl

worked_marks : map (mark_word two both (stands two both)) (0 ∷ 1 ∷ 2 ∷ []) ≡ 1 ∷ 2 ∷ 0 ∷ []
unfolding both two two_nodes graph mark_word word stands best greatest supported shrunk down any_below all_below linked edge joins elem admits accepts matches agrees
worked_marks = refl
