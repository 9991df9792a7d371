-- 01, "Frames": what the program prints, told from the lines alone. Nothing here speaks of memory.
use Rattle.std.specs.Prelude.{ℕ, ◌+◌, ◌^◌, Bool, true, cond, List, [], ◌∷◌, ◌++◌, map, leb, eqb, length}
use Rattle.session.specs.Limits.{max_states, max_nodes, max_changes, fixed_size}
use Rattle.listing.specs.Order.{order}
use Rattle.promises.specs.Answers.{accepted}
use Rattle.promises.specs.Rules.{Rule, rule, verdict, Given, given, given_trigger, given_graph, Kind, load_rules}
use Rattle.promises.specs.Promises.{load_list}
use Rattle.promises.specs.Model.{Model, begun, model_rules, step, editing, load_summary, edit_list, edit_summary}
use Rattle.frames.specs.Frames.{Frame, state, node, run, edit, walk, nothing, frame_of}
use Rattle.frames.specs.Lines.{lines}
use Rattle.frames.specs.Outputs.{refusal, answered, walked}

-- before an accepted run, the states and nodes read so far; after it, the model of demand 3
pub data Moment : Type 0 where
  reading : Given → Moment
  running : Model → Moment

abbrev pub start : Moment
start = reading (given [] [] [] 0 [] [] [])

-- one state more, which has the next bit of the inverted states, or one node more
abbrev pub with_state : Given → Bool → ℕ → ℕ → ℕ → Given
with_state x inverted mask value links =
    given (x.masks ++ (mask ∷ [])) (x.values ++ (value ∷ [])) (x.links ++ (links ∷ [])) (x.inverted + cond inverted (2 ^ length x.masks) 0)
    x.samples x.starts x.ends

abbrev pub with_node : Given → ℕ → Given
with_node x sample = given x.masks x.values x.links x.inverted (x.samples ++ (sample ∷ [])) x.starts x.ends

-- the reports of a run and of an edit
abbrev pub run_lines : Given → List ℕ
run_lines x = answered (accepted (load_summary x)) (load_list (given_trigger x) (given_graph x))

abbrev pub edit_lines : Model → Kind → ℕ → ℕ → List ℕ
edit_lines m k a b = answered (accepted (edit_summary m k a b)) (edit_list m k a b)

-- what a frame meets: the rules in sequence, and where it breaks none, the bytes that it prints and the moment after it
pub record Reply : Type 0 where
  pub rules : List Rule
  pub bytes : List ℕ
  pub moment : Moment

abbrev pub carries : List Rule → List ℕ → Moment → Reply
carries rules bytes moment = record { rules = rules; bytes = bytes; moment = moment }

abbrev pub breaks : ℕ → Moment → Reply
breaks n moment = carries (rule n true ∷ []) [] moment

-- 1: "A line of the program's input is no frame of the kinds below." 2: "A frame comes at the wrong moment: state, node or run after an
-- accepted run, any other before it." "A 17th state meets 4 and a 513th node meets 6 as its line is read"; "`03` run, a load without edges";
-- "Accepted states and nodes print nothing."
abbrev pub reply : Moment → Frame → Reply
reply (reading x) (state inverted mask value links) =
    carries (rule 4 (leb max_states (length x.masks)) ∷ []) [] (reading (with_state x inverted mask value links))
reply (reading x) (node sample) = carries (rule 6 (leb max_nodes (length x.samples)) ∷ []) [] (reading (with_node x sample))
reply (reading x) run = carries (load_rules fixed_size max_changes x) (run_lines x) (running (begun x))
reply (reading x) (edit k a b) = breaks 2 (reading x)
reply (reading x) walk = breaks 2 (reading x)
reply (reading x) nothing = breaks 1 (reading x)
reply (running m) (state inverted mask value links) = breaks 2 (running m)
reply (running m) (node sample) = breaks 2 (running m)
reply (running m) run = breaks 2 (running m)
reply (running m) (edit k a b) = carries (model_rules m (editing k a b)) (edit_lines m k a b) (running (step m (editing k a b)))
reply (running m) walk = carries [] (walked (order m.trigger)) (running m)
reply (running m) nothing = breaks 1 (running m)

-- the number of the first rule that a line breaks, and 0 where it breaks none
unfoldable pub broken : Moment → Frame → ℕ
broken p f = verdict (reply p f).rules

-- "refused with the number of the first rule broken"; "A refused run leaves the program before its run, with the states and nodes read so far."
unfoldable pub printed : Moment → Frame → List ℕ
printed p f = cond (eqb (broken p f) 0) (reply p f).bytes (refusal (broken p f))

unfoldable pub next : Moment → Frame → Moment
next p f = cond (eqb (broken p f) 0) (reply p f).moment p

-- a list of frames, and a whole input
unfoldable pub output : Moment → List Frame → List ℕ
output p [] = []
output p (f ∷ fs) = printed p f ++ output (next p f) fs

abbrev pub program : List ℕ → List ℕ
program input = output start (map frame_of (lines input))
