-- What the program's machine promises when it takes one line, whatever the line and the lent memory are.
use Rattle.std.specs.Prelude.{ℕ, ◌+◌, ◌*◌, ◌^◌, ◌%◌, ◌≤◌, ◌≡◌, Bool, ◌||◌, cond, List, [], ◌∷◌, ◌++◌, ltb, leb, ℤ, length, get_or, set, drop, Result, Ok, Err}
use Rattle.session.specs.Limits.{max_states, max_nodes, max_changes, fixed_size}
use Rattle.session.specs.Layout.{part}
use Rattle.promises.specs.declared.Refusal.{Refusal}
use Rattle.promises.specs.Answers.{Answer, OrderAnswer, number, Outcome, Summary, accepted, refused, told, told_order, places_told, handed_back}
use Rattle.promises.specs.Rules.{Rule, rule, verdict, Given, given, Kind}
use Rattle.promises.specs.Promises.{Loaded, Edited, Ordered}
use Rattle.frames.specs.Frames.{Frame, state, node, run, edit, walk, nothing, frame_of}
use Rattle.frames.specs.Outputs.{refusal, report_size, change_size, answered, ordered}

-- The lent memory. Counts: 0 before an accepted run and 1 after it, the number of states read, the number of nodes read, the inverted states, the
-- states' links.
-- Words: masks, values, samples.
pub record Memory : Type 0 where
  pub counts : List ℕ
  pub words : List ℕ
  pub session : List ℕ
  pub room : List ℤ
  pub out : List ℕ

abbrev pub memory : List ℕ → List ℕ → List ℕ → List ℤ → List ℕ → Memory
memory counts words session room out = record { counts = counts; words = words; session = session; room = room; out = out }

abbrev pub inverted_in : ℕ
inverted_in = 3

abbrev pub links_in : ℕ
links_in = inverted_in + 1

abbrev pub counts_size : ℕ
counts_size = links_in + max_states

abbrev pub values_in : ℕ
values_in = max_states

abbrev pub samples_in : ℕ
samples_in = values_in + max_states

abbrev pub words_size : ℕ
words_size = samples_in + max_nodes

-- the longest answer: a report, and a change for each place of the change room
abbrev pub output_size : ℕ
output_size = report_size + change_size * max_changes

abbrev pub states_read : Memory → ℕ
states_read m = get_or m.counts 1 0

abbrev pub nodes_read : Memory → ℕ
nodes_read m = get_or m.counts 2 0

-- long enough for all that a line can need but its room and its output, and not more read than there may be
pub record Ready (m : Memory) : Type 0 where
  pub counts : counts_size ≤ length m.counts
  pub words : words_size ≤ length m.words
  pub session : fixed_size ≤ length m.session
  pub few_states : states_read m ≤ max_states
  pub few_nodes : nodes_read m ≤ max_nodes

-- the inverted ones among the states read
abbrev pub inverted_read : Memory → ℕ
inverted_read m = get_or m.counts inverted_in 0 % 2 ^ states_read m

-- "the states and nodes read so far", as a load without edges
unfoldable pub read_so_far : Memory → Given
read_so_far m =
    let n = states_read m in
    given (part m.words 0 n) (part m.words values_in n) (part m.counts links_in n) (inverted_read m) (part m.words samples_in (nodes_read m)) [] []

-- what the memory itself may break: too short, or counts out of range
abbrev pub too_small : Memory → Bool
too_small m =
    (ltb (length m.counts) counts_size || ltb (length m.words) words_size)
    || (ltb (length m.session) fixed_size || (ltb (length m.room) max_changes || ltb (length m.out) output_size))

abbrev pub miscounted : Memory → Bool
miscounted m = ltb 1 (get_or m.counts 0 0) || (ltb max_states (states_read m) || ltb max_nodes (nodes_read m))

abbrev pub memory_rules : Memory → List Rule
memory_rules m = rule 3 (too_small m) ∷ rule 10 (miscounted m) ∷ []

-- how many bytes of output a line gave, or the rule that the memory breaks
abbrev pub Taken : Type 0
Taken = Result ℕ Refusal

abbrev pub told_taken : Taken → Outcome ℕ
told_taken (Ok n) = accepted n
told_taken (Err rule) = refused (number rule)

-- these bytes at the front of the output, and nothing else written
abbrev pub printing : List ℕ → Memory → Memory
printing bytes m = memory m.counts m.words m.session m.room (bytes ++ drop (length bytes) m.out)

-- n bytes are printed, and the memory is left as m with these bytes at the front of its output
pub record Prints (bytes : List ℕ) (m : Memory) (n : ℕ) (m' : Memory) : Type 0 where
  pub many : n ≡ length bytes
  pub left : m' ≡ printing bytes m

-- one state more, or one node more
abbrev pub state_kept : Memory → Bool → ℕ → ℕ → ℕ → Memory
state_kept m inverted mask value links =
    let n = states_read m in
    memory (set (set (set m.counts (links_in + n) links) inverted_in (inverted_read m + cond inverted (2 ^ n) 0)) 1 (n + 1))
    (set (set m.words n mask) (values_in + n) value) m.session m.room m.out

abbrev pub node_kept : Memory → ℕ → Memory
node_kept m sample =
    let n = nodes_read m in
    memory (set m.counts 2 (n + 1)) (set m.words (samples_in + n) sample) m.session m.room m.out

-- the moment after a run
abbrev pub moved : Outcome Summary → List ℕ → List ℕ
moved (accepted s) counts = set counts 0 1
moved (refused n) counts = counts

-- A state or a node is kept, or refused where there are as many as there may be.
abbrev pub KeptOrFull : Bool → ℕ → Memory → Memory → ℕ → Memory → Type 0
KeptOrFull full rule m m⁺ n m' = Prints (cond full (refusal rule) []) (cond full m m⁺) n m'

-- The run: the load of what was read so far, and its answer.
pub record Ran (m : Memory) (n : ℕ) (m' : Memory) : Type 0 where
  pub answer : Answer
  pub loads : Loaded (read_so_far m) m.session m.room answer m'.session m'.room
  pub prints : Prints (answered (told answer) (handed_back m'.room answer))
      (memory (moved (told answer) m.counts) m.words m'.session m'.room m.out) n m'

-- An edit by the library's call.
pub record Changed (k : Kind) (a b : ℕ) (m : Memory) (n : ℕ) (m' : Memory) : Type 0 where
  pub answer : Answer
  pub edits : Edited k m.session a b m.room answer m'.session m'.room
  pub prints : Prints (answered (told answer) (handed_back m'.room answer))
      (memory m.counts m.words m'.session m'.room m.out) n m'

-- The depth-first order by the library's call.
pub record Walked (m : Memory) (n : ℕ) (m' : Memory) : Type 0 where
  pub order : OrderAnswer
  pub orders : Ordered m.session order
  pub prints : Prints (ordered (told_order order) (places_told order)) m n m'

-- What a frame comes to, before an accepted run and after it: rule 1 comes before 2, and 2 before those of the states, the nodes and the calls.
abbrev pub Before : Frame → Memory → ℕ → Memory → Type 0
Before (state inverted mask value links) m n m' = KeptOrFull (leb max_states (states_read m)) 4 m (state_kept m inverted mask value links) n m'
Before (node sample) m n m' = KeptOrFull (leb max_nodes (nodes_read m)) 6 m (node_kept m sample) n m'
Before run m n m' = Ran m n m'
Before (edit k a b) m n m' = Prints (refusal 2) m n m'
Before walk m n m' = Prints (refusal 2) m n m'
Before nothing m n m' = Prints (refusal 1) m n m'

abbrev pub After : Frame → Memory → ℕ → Memory → Type 0
After (edit k a b) m n m' = Changed k a b m n m'
After walk m n m' = Walked m n m'
After (state inverted mask value links) m n m' = Prints (refusal 2) m n m'
After (node sample) m n m' = Prints (refusal 2) m n m'
After run m n m' = Prints (refusal 2) m n m'
After nothing m n m' = Prints (refusal 1) m n m'

-- The line by its frame at its moment.
pub record Answers (m : Memory) (line : List ℕ) (n : ℕ) (m' : Memory) : Type 0 where
  pub before : get_or m.counts 0 0 ≡ 0 → Before (frame_of line) m n m'
  pub after : get_or m.counts 0 0 ≡ 1 → After (frame_of line) m n m'

-- The whole promise. The memory's own rules come first, whatever the line is: where they are broken there is no place to print in, and nothing
-- is written.
pub record Stepped (m : Memory) (line : List ℕ) (r : Taken) (m' : Memory) : Type 0 where
  pub refuses : (verdict (memory_rules m) ≡ 0 → ⊥) → (told_taken r ≡ refused (verdict (memory_rules m))) × (m' ≡ m)
  pub answers : verdict (memory_rules m) ≡ 0 → (n : ℕ) × (told_taken r ≡ accepted n) × Answers m line n m'
