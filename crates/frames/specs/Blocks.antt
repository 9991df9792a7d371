-- The input in blocks: the promises of the two calls that answer a block and the input's end, in any memory; and what a sequence of such calls
-- comes to, which is proved in proofs/Inputs.
use Rattle.std.specs.Prelude.{ℕ, ◌+◌, ◌<◌, ◌≤◌, ◌≡◌, ◌⊎◌, true, false, List, [], ◌∷◌, ◌++◌, map, ltb, ℤ, length, take, drop, Result, Ok, Err}
use Rattle.promises.specs.Rules.{Rule, rule, verdict}
use Rattle.promises.specs.declared.Refusal.{Refusal}
use Rattle.promises.specs.Answers.{first_broken}
use Rattle.frames.specs.declared.Progress.{Progress}
use Rattle.frames.specs.Frames.{frame_of}
use Rattle.frames.specs.Lines.{lines_after, front_size, Gathers}
use Rattle.frames.specs.Outputs.{each}
use Rattle.frames.specs.Machine.{Memory, memory, output_size, memory_rules, Answers, Stepped}
use Rattle.frames.specs.Moments.{start}
use Rattle.frames.specs.Program.{Line, lent, LineByLine, printed_by, bytes_of, Whole}

-- the rules of the lent memory, to which the memory of a line's front belongs
abbrev pub input_rules : Memory → List ℕ → List Rule
input_rules m front = rule 3 (ltb (length front) front_size) ∷ memory_rules m

-- Where the pass over a block stands: the memory of the front and how much of it the line begun has, the place in the block, how many bytes of
-- output are written, and the machine's memory.
pub record Point : Type 0 where
  pub front : List ℕ
  pub begun : ℕ
  pub at : ℕ
  pub written : ℕ
  pub memory : Memory

abbrev pub point : List ℕ → ℕ → ℕ → ℕ → Memory → Point
point front begun at written m = record { front = front; begun = begun; at = at; written = written; memory = m }

-- a line is answered in the output after the answers before it
abbrev pub output_after : ℕ → Memory → Memory
output_after written m = memory m.counts m.words m.session m.room (drop written m.out)

abbrev pub with_output : List ℕ → Memory → Memory
with_output before m = memory m.counts m.words m.session m.room (before ++ m.out)

-- there are bytes to come in the block, and room for one answer more
abbrev pub GoesOn : List ℕ → Point → Type 0
GoesOn block p = (p.at < length block) × (p.written + output_size ≤ length p.memory.out)

-- The pass, from one point to where it stops.
pub data Passes (block : List ℕ) : Point → Point → Type 0 where
  stops : {p : Point} → (length block ≤ p.at) ⊎ (length p.memory.out < p.written + output_size) → Passes block p p
  -- no line ends in the rest of the block
  begins : {p q : Point} (front' : List ℕ) (begun' at' : ℕ) → GoesOn block p → Gathers p.front p.begun block p.at front' begun' at' false
      → Passes block (point front' begun' at' p.written p.memory) q → Passes block p q
  -- a line ends, and the machine takes it
  answers : {p q : Point} (front' : List ℕ) (begun' at' n : ℕ) (left : Memory) → GoesOn block p
      → Gathers p.front p.begun block p.at front' begun' at' true
      → Stepped (output_after p.written p.memory) (take begun' front') (Ok n) left
      → Passes block (point front' 0 at' (p.written + n) (with_output (take p.written p.memory.out) left)) q → Passes block p q

-- what a call tells: how far it came in the input, or the rule that the lent memory breaks
abbrev pub Reached : Type 0
Reached = Result Progress Refusal

-- how many bytes of output it wrote, how many of the block it took, and how long the front of the line begun then is: of a refused call, nothing
-- written, nothing taken, and the front as it was lent
abbrev pub written_of : Reached → ℕ
written_of (Ok p) = p.written
written_of (Err rule) = 0

abbrev pub at_of : Reached → ℕ
at_of (Ok p) = p.at
at_of (Err rule) = 0

abbrev pub begun_of : ℕ → Reached → ℕ
begun_of lent (Ok p) = p.begun
begun_of lent (Err rule) = lent

-- a call that the lent memory refuses: nothing is taken and nothing is written
abbrev pub Refuses : ℕ → ℕ → Reached → Type 0
Refuses n begun r = (first_broken r ≡ n) × (written_of r ≡ 0) × (at_of r ≡ 0) × (begun_of begun r ≡ begun)

-- A block: the pass over it from its first byte, from a line begun in the front.
pub record BlockTaken (m : Memory) (front : List ℕ) (begun : ℕ) (block : List ℕ) (r : Reached) (m' : Memory) (front' : List ℕ) : Type 0 where
  pub refuses : (verdict (input_rules m front) ≡ 0 → ⊥) → Refuses (verdict (input_rules m front)) begun r × (m' ≡ m) × (front' ≡ front)
  pub passes : verdict (input_rules m front) ≡ 0
      → (first_broken r ≡ 0) × Passes block (point front begun 0 0 m) (point front' (begun_of begun r) (at_of r) (written_of r) m')

-- "or the input's end. Where nothing follows the last line feed there is no further line."
pub record InputEnded (m : Memory) (front : List ℕ) (begun : ℕ) (r : Reached) (m' : Memory) : Type 0 where
  pub refuses : (verdict (input_rules m front) ≡ 0 → ⊥) → Refuses (verdict (input_rules m front)) begun r × (m' ≡ m)
  pub told : verdict (input_rules m front) ≡ 0 → (first_broken r ≡ 0) × (at_of r ≡ 0) × (begun_of begun r ≡ 0)
  pub none : verdict (input_rules m front) ≡ 0 → begun ≡ 0 → (written_of r ≡ 0) × (m' ≡ m)
  pub line : verdict (input_rules m front) ≡ 0 → 0 < begun → Answers m (take begun front) (written_of r) m'

-- A sequence of calls to the input's end, from a memory and the bytes of a line begun, over the input to come: its outputs one after the other.
-- Each call is lent a change room, an output and a memory of the front of its own, whatever their lengths are, and as its block the first bytes
-- of the input to come, as many as it likes.
pub data InputCalls : Memory → List ℕ → List ℕ → List ℕ → Type 0 where
  block : {m : Memory} {begun input output : List ℕ} (room : List ℤ) (out front : List ℕ) (used : ℕ) (bytes more : List ℕ)
      (r : Reached) (m' : Memory) (front' : List ℕ) → take used front ≡ begun → bytes ++ more ≡ input
      → BlockTaken (lent m room out) front used bytes r m' front'
      → InputCalls m' (take (begun_of used r) front') (drop (at_of r) bytes ++ more) output
      → InputCalls m begun input (take (written_of r) m'.out ++ output)
  -- an end that the lent memory refuses
  again : {m : Memory} {begun input output : List ℕ} (room : List ℤ) (out front : List ℕ) (used : ℕ) (r : Reached) (m' : Memory)
      → take used front ≡ begun → InputEnded (lent m room out) front used r m' → (first_broken r ≡ 0 → ⊥)
      → InputCalls m' begun input output
      → InputCalls m begun input (take (written_of r) m'.out ++ output)
  -- the end, in memory that is not refused
  end : {m : Memory} {begun : List ℕ} (room : List ℤ) (out front : List ℕ) (used : ℕ) (r : Reached) (m' : Memory) → take used front ≡ begun
      → InputEnded (lent m room out) front used r m' → first_broken r ≡ 0
      → InputCalls m begun [] (take (written_of r) m'.out)

-- Calls were made that took these bytes and gave this output: any sequence that goes on from there is one from their start.
abbrev pub Leads : Memory → List ℕ → List ℕ → List ℕ → Memory → List ℕ → Type 0
Leads m begun bytes output m' begun' =
    (more rest : List ℕ) → InputCalls m' begun' more rest → InputCalls m begun (bytes ++ more) (output ++ rest)

-- What such a sequence comes to from fresh memory, over a whole input: lines taken by the machine one after the other, which are those of the
-- input as far as frames go, print the output, and have the demands.
pub record InputAnswered (m : Memory) (input output : List ℕ) : Type 1 where
  pub lines : List Line
  pub taken : LineByLine m lines
  pub prints : each printed_by lines ≡ output
  pub frames : map frame_of (bytes_of lines) ≡ map frame_of (lines_after [] input)
  pub whole : Whole start m lines
