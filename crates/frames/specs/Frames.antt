-- 01, "Frames", and 02: what a line says.
use Rattle.std.specs.Prelude.{ℕ, Bool, true, false, ◌&&◌, cond, List, leb, eqb, length, take, drop, Option, Some, None}
use Rattle.frames.specs.declared.Frame as declared
use Rattle.frames.specs.declared.Frame.TheVariants as F
use Rattle.promises.specs.Rules.{Kind, insertion, deletion}
use Rattle.frames.specs.Digits.{hexadecimal, number}

-- the kinds of input, and what is none of them; a state with whether it is inverted
pub data Frame : Type 0 where
  state : Bool → ℕ → ℕ → ℕ → Frame
  node : ℕ → Frame
  run : Frame
  edit : Kind → ℕ → ℕ → Frame
  walk : Frame
  nothing : Frame

-- the number of the n digits from a place on
abbrev pub field : ℕ → List ℕ → ℕ → ℕ
field n ds at = number (take n (drop at ds))

-- 02, Job 6: "Frame `0A` is a state with an inversion byte (`00` or `01`), mask, value and 8 link digits; any other inversion byte meets 1." The
-- byte is two digits.
unfoldable pub wide : List ℕ → Frame
wide ds =
    let byte = field 2 ds 0 in
    cond (leb byte 1) (state (eqb byte 1) (field 4 ds 2) (field 4 ds 6) (field 8 ds 10)) nothing

-- "`01` state (mask 4 digits, value 4, links 4 ..); `02` node (sample 4); `03` run ..; `04` insert and `05` delete (start 4, end 4); `06` walk order";
-- "a wrong length meets 1". 02, Job 1: "Frame `07` is a state frame with the fields of `01`, inverted." 02, Job 6: "`01` and `07` are still read."
-- All three kinds of a state's line are one frame.
unfoldable pub spoken : ℕ → List ℕ → Frame
spoken kind ds =
    let of : ℕ → ℕ → Bool = λ k n. eqb kind k && eqb (length ds) n in
    cond (of 1 12) (state false (field 4 ds 0) (field 4 ds 4) (field 4 ds 8))
    (cond (of 2 4) (node (field 4 ds 0))
    (cond (of 3 0) run
    (cond (of 4 8) (edit insertion (field 4 ds 0) (field 4 ds 4))
    (cond (of 5 8) (edit deletion (field 4 ds 0) (field 4 ds 4))
    (cond (of 6 0) walk
    (cond (of 7 12) (state true (field 4 ds 0) (field 4 ds 4) (field 4 ds 8))
    (cond (of 10 18) (wide ds) nothing)))))))

-- "An empty line, a lower-case letter or a wrong length meets 1"
unfoldable pub frame_of : List ℕ → Frame
frame_of line = cond (leb 2 (length line) && hexadecimal line) (spoken (number (take 2 line)) (drop 2 line)) nothing

-- a frame of the code, where a line that is none is read as `None`
abbrev pub said : Option declared.Frame → Frame
said (Some (F.State s)) = state s.inverted s.mask s.value s.links
said (Some (F.Node x)) = node x
said (Some F.Run) = run
said (Some (F.Insert e)) = edit insertion e.start e.end
said (Some (F.Delete e)) = edit deletion e.start e.end
said (Some F.Walk) = walk
said None = nothing
