-- 02, Job 8, "One graph, one memory", over the promises of the calls. It is proved in proofs/OneMemory.
use Rattle.std.specs.Prelude.{ℕ, ◌<◌, ◌≡◌, ◌↔◌, true, List, [], ◌++◌, ℤ, pos, ◌-ℤ◌, length, take}
use Rattle.session.specs.Limits.{fixed_size}
use Rattle.session.specs.Trigger.{Graph, Marks, states, nodes, edge}
use Rattle.session.specs.Layout.{trigger_of, graph_of}
use Rattle.listing.specs.Changes.{size_of}
use Rattle.listing.specs.Ledger.{ledger, standing, entries, Alternate}
use Rattle.promises.specs.Standing.{stands}
use Rattle.promises.specs.Answers.{Answer, handed_back}
use Rattle.promises.specs.Rules.{Kind, Given, verdict, load_rules}
use Rattle.promises.specs.Promises.{Loaded, Edited}

-- ---- "reached from its load by the engine's calls alone"

-- One call of the engine after a load, with a change room of its own: the session that it meets, the list that it hands back and the session that it
-- leaves. A load that is accepted is none of these: it begins anew. A further call of the library is one constructor more here, and one clause more
-- of `called_moves`.
pub data Called : List ℕ → List ℤ → List ℕ → Type 0 where
  -- an insertion or a deletion, accepted or refused
  edit : {k : Kind} {s : List ℕ} {a b : ℕ} {c : List ℤ} {r : Answer} {s' : List ℕ} {c' : List ℤ} → Edited k s a b c r s' c' → Called s (handed_back c' r) s'
  -- a load that is refused
  refused_load : {x : Given} {s : List ℕ} {c : List ℤ} {r : Answer} {s' : List ℕ} {c' : List ℤ} → (verdict (load_rules (length s) (length c) x) ≡ 0 → ⊥)
      → Loaded x s c r s' c' → Called s (handed_back c' r) s'
  -- a question: it is lent the session to read alone, and has no list
  question : {s : List ℕ} → Called s [] s

-- A session so reached: left by an accepted load, of anything and into any memory, or by one more call.
pub data ByCalls : List ℕ → Type 0 where
  load : {x : Given} {s : List ℕ} {c : List ℤ} {r : Answer} {s' : List ℕ} {c' : List ℤ} → verdict (load_rules (length s) (length c) x) ≡ 0
      → Loaded x s c r s' c' → ByCalls s'
  call : {s : List ℕ} {list : List ℤ} {s' : List ℕ} → ByCalls s → Called s list s' → ByCalls s'

-- ---- one memory

-- "the same edge set": of the set, not of the list that holds it
abbrev pub SameEdges : Graph → Graph → Type 0
SameEdges g g' = (v w : ℕ) → (edge g v w ≡ true) ↔ (edge g' v w ≡ true)

-- "two sessions with equal trigger and nodes and the same edge set are equal over the fixed size, however each was reached from its load by the
-- engine's calls alone": in memories of any length, from whatever each held before. Trigger, nodes and edges are those that the sessions hold; that
-- these are the ones given is demand 3.
abbrev pub OneMemory : Type 0
OneMemory = (s s' : List ℕ) → ByCalls s → ByCalls s'
    → trigger_of s ≡ trigger_of s' → (graph_of s).samples ≡ (graph_of s').samples → SameEdges (graph_of s) (graph_of s')
    → take fixed_size s ≡ take fixed_size s'

-- ---- the ledger

-- "any such sequence": calls one after the other, with their lists one after the other
pub data Since : List ℕ → List ℤ → List ℕ → Type 0 where
  none : {s : List ℕ} → Since s [] s
  more : {s : List ℕ} {list : List ℤ} {s' : List ℕ} {lists : List ℤ} {s'' : List ℕ} → Called s list s' → Since s' lists s'' → Since s (list ++ lists) s''

-- what stands in the graph that a session holds
abbrev pub stands_in : List ℕ → Marks
stands_in s = stands (trigger_of s) (graph_of s)

pub record Ledger (s : List ℕ) (lists : List ℤ) (s' : List ℕ) : Type 0 where
  -- "for every pair the additions less the removals listed along any such sequence of edits after a load equal its standing at the end (1 or 0)
  -- less its standing at the beginning"
  pub sums : (u v : ℕ) → u < states (trigger_of s) → v < nodes (graph_of s)
      → ledger u v lists ≡ pos (standing (stands_in s' u v)) -ℤ pos (standing (stands_in s u v))
  -- and of one pair the signs alternate, from its standing at the beginning on
  pub alternate : (u v : ℕ) → u < states (trigger_of s) → v < nodes (graph_of s)
      → Alternate (stands_in s u v) (size_of u v) (entries (size_of u v) lists)

-- from a load on, or from any call after it
abbrev pub Ledgers : Type 0
Ledgers = (s : List ℕ) (lists : List ℤ) (s' : List ℕ) → ByCalls s → Since s lists s' → Ledger s lists s'
