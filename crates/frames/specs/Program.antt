-- The whole program over the promises of its machine: from counts of zero, one line after the other. It is proved in proofs/Programs.
use Rattle.std.specs.Prelude.{ℕ, ◌≤◌, ◌≡◌, List, [], ◌∷◌, map, ℤ, length, get_or, take}
use Rattle.session.specs.Limits.{max_changes, fixed_size}
use Rattle.promises.specs.Answers.{Answer, Outcome, accepted, refused, outcome, told, handed_back}
use Rattle.promises.specs.Rules.{Given, given_trigger, given_graph, Kind}
use Rattle.promises.specs.Promises.{load_list}
use Rattle.promises.specs.Model.{Model, step, editing, load_summary, edit_summary}
use Rattle.promises.specs.Demands.{Call, Demand2, Demand3, Kept, Faithful}
use Rattle.promises.specs.OneMemory.{ByCalls}
use Rattle.frames.specs.Frames.{Frame, state, node, run, edit, walk, nothing, frame_of}
use Rattle.frames.specs.Outputs.{each, refusal, answered}
use Rattle.frames.specs.Machine.{
  Memory,
  memory,
  counts_size,
  words_size,
  output_size,
  states_read,
  nodes_read,
  Ready,
  read_so_far,
  Taken,
  told_taken,
  printing,
  Stepped,
}
use Rattle.frames.specs.Moments.{Moment, reading, running, reply, broken, printed, next, output}

-- a line taken, with a change room and an output of its own: what they hold at entry, what was answered, and the memory left
pub record Line : Type 0 where
  pub bytes : List ℕ
  pub room : List ℤ
  pub out : List ℕ
  pub answer : Taken
  pub left : Memory

-- the memory that a line meets: counts, words and session as the line before left them, and its own room and output
abbrev pub lent : Memory → List ℤ → List ℕ → Memory
lent m room out = memory m.counts m.words m.session room out

-- each line in a change room and an output that are long enough
pub data LineByLine : Memory → List Line → Type 0 where
  ended : {m : Memory} → LineByLine m []
  taken : {m : Memory} {l : Line} {ls : List Line} → max_changes ≤ length l.room → output_size ≤ length l.out
      → Stepped (lent m l.room l.out) l.bytes l.answer l.left → LineByLine l.left ls → LineByLine m (l ∷ ls)

-- the bytes that a line gave: the filled front of its output
abbrev pub filled : Outcome ℕ → List ℕ → List ℕ
filled (accepted n) out = take n out
filled (refused n) out = []

abbrev pub printed_by : Line → List ℕ
printed_by l = filled (told_taken l.answer) l.left.out

abbrev pub bytes_of : List Line → List (List ℕ)
bytes_of ls = map (λ l. l.bytes) ls

-- the memory at the start: long enough, nothing read
pub record Fresh (m : Memory) : Type 0 where
  pub counts : counts_size ≤ length m.counts
  pub words : words_size ≤ length m.words
  pub session : fixed_size ≤ length m.session
  pub moment : get_or m.counts 0 0 ≡ 0
  pub states : states_read m ≡ 0
  pub nodes : nodes_read m ≡ 0

-- the memory holds a moment: it is long enough, and has what was read so far, or the session of the model
abbrev pub AtMoment : Moment → Memory → Type 0
AtMoment (reading x) m = Ready m × (get_or m.counts 0 0 ≡ 0) × (read_so_far m ≡ x)
AtMoment (running b) m = Ready m × (get_or m.counts 0 0 ≡ 1) × Faithful b m.session

-- Demand 1 of an input line, taken in the memory m at a moment that m holds. What else it leaves is in `Stepped`.
pub record LineDemand1 (p : Moment) (m : Memory) (l : Line) : Type 0 where
  -- no rule of the memory is met, whatever the line is
  pub taken : told_taken l.answer ≡ accepted (length (printed p (frame_of l.bytes)))
  -- "is carried out": its lines are printed, and the memory holds the moment after it
  pub carried : broken p (frame_of l.bytes) ≡ 0
      → (printed_by l ≡ (reply p (frame_of l.bytes)).bytes) × AtMoment (reply p (frame_of l.bytes)).moment l.left
  -- "refused with the number of the first rule broken, session and change room untouched": nothing is written but the refusal
  pub refused : (broken p (frame_of l.bytes) ≡ 0 → ⊥)
      → (printed_by l ≡ refusal (broken p (frame_of l.bytes)))
      × (l.left ≡ printing (refusal (broken p (frame_of l.bytes))) (lent m l.room l.out))

-- Demands 2 and 3 of an accepted run, which loads x; and demand 3 of an edit after it: "A frame or later call that makes such edits counts, for
-- book and marks, as the edits it makes." The answer is the call's, and the bytes printed are those of it with the list that the line's room
-- hands back.
pub record Loads (x : Given) (l : Line) : Type 1 where
  pub answer : Answer
  pub tells : told answer ≡ accepted (load_summary x)
  pub list : handed_back l.left.room answer ≡ load_list (given_trigger x) (given_graph x)
  pub prints : printed_by l ≡ answered (told answer) (handed_back l.left.room answer)
  pub demand2 : Demand2 x answer l.left.session
  pub demand3 : Demand3 x answer l.left.session

-- the call that an edit's line makes, in the line's room
abbrev pub call_of : Kind → ℕ → ℕ → Line → Answer → Call
call_of k u v l answer =
    record { kind = k; start = u; end = v; room = l.room; answer = answer; session = l.left.session; changes = l.left.room }

pub record Edits (b : Model) (k : Kind) (u v : ℕ) (l : Line) : Type 1 where
  pub answer : Answer
  pub tells : told answer ≡ outcome (broken (running b) (edit k u v)) (edit_summary b k u v)
  pub prints : printed_by l ≡ answered (told answer) (handed_back l.left.room answer)
  pub kept : Kept b (step b (editing k u v)) (call_of k u v l answer)

abbrev pub Demanded : Moment → Frame → Line → Type 1
Demanded (reading x) run l = broken (reading x) run ≡ 0 → Loads x l
Demanded (reading x) (state inverted mask value links) l = Unit {1}
Demanded (reading x) (node sample) l = Unit {1}
Demanded (reading x) (edit k u v) l = Unit {1}
Demanded (reading x) walk l = Unit {1}
Demanded (reading x) nothing l = Unit {1}
Demanded (running b) (edit k u v) l = Edits b k u v l
Demanded (running b) (state inverted mask value links) l = Unit {1}
Demanded (running b) (node sample) l = Unit {1}
Demanded (running b) run l = Unit {1}
Demanded (running b) walk l = Unit {1}
Demanded (running b) nothing l = Unit {1}

abbrev pub Throughout : Moment → Memory → List Line → Type 1
Throughout p m [] = Unit {1}
Throughout p m (l ∷ ls) =
    LineDemand1 p m l × Demanded p (frame_of l.bytes) l × Throughout (next p (frame_of l.bytes)) l.left ls

-- The claim from a moment on: every output byte, and the demands.
pub record Whole (p : Moment) (m : Memory) (ls : List Line) : Type 1 where
  pub prints : each printed_by ls ≡ output p (map frame_of (bytes_of ls))
  pub demands : Throughout p m ls

-- 02, Job 8: in the memory that a line leaves after an accepted run, the session was reached "by the engine's calls alone", so that what is said there
-- holds of sessions made by frames too. It is proved in proofs/Reaches.
abbrev pub Reaching : Memory → Type 0
Reaching m = get_or m.counts 0 0 ≡ 1 → ByCalls m.session

abbrev pub AllReaching : List Line → Type 0
AllReaching [] = Unit {0}
AllReaching (l ∷ ls) = Reaching l.left × AllReaching ls
