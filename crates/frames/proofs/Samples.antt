-- Lines and answers, computed from the definitions.
use mathlib.Core.Path.{◌≡◌, refl}
use mathlib.Core.Bool.{true, false}
use mathlib.Core.List.{List, [], ◌∷◌, ◌++◌, map}
use Prim.Native.Nat.{ℕ}
use lib.ListN.{length}
use Rattle.promises.specs.Rules.{insertion, deletion}
use Rattle.simulation.specs.Sets.{all_below}
use Rattle.bits.specs.Word.{word}
use Rattle.frames.specs.Digits.{digit, hexadecimal, number_from, letter, place, digits}
use Rattle.frames.specs.Frames.{state, node, run, edit, walk, nothing, wide, spoken, frame_of}
use Rattle.frames.specs.Lines.{lines, longest_frame}
use Rattle.frames.specs.Outputs.{refusal, report_line}

-- 01FFFF00010002, 07FFFF00010002, 0A00FFFF000180000001, 0A01FFFF000180000001, 020001, 03, 0400000001, 0500010000, 06
pub state-fields : List ℕ
state-fields = 70 ∷ 70 ∷ 70 ∷ 70 ∷ 48 ∷ 48 ∷ 48 ∷ 49 ∷ 48 ∷ 48 ∷ 48 ∷ 50 ∷ []

pub state-line : List ℕ
state-line = 48 ∷ 49 ∷ state-fields

pub inverted-line : List ℕ
inverted-line = 48 ∷ 55 ∷ state-fields

-- with these two digits as the inversion byte
pub wide-line : ℕ → ℕ → List ℕ
wide-line a b = 48 ∷ 65 ∷ a ∷ b ∷ 70 ∷ 70 ∷ 70 ∷ 70 ∷ 48 ∷ 48 ∷ 48 ∷ 49 ∷ 56 ∷ 48 ∷ 48 ∷ 48 ∷ 48 ∷ 48 ∷ 48 ∷ 49 ∷ []

pub node-line : List ℕ
node-line = 48 ∷ 50 ∷ 48 ∷ 48 ∷ 48 ∷ 49 ∷ []

pub insert-line : List ℕ
insert-line = 48 ∷ 52 ∷ 48 ∷ 48 ∷ 48 ∷ 48 ∷ 48 ∷ 48 ∷ 48 ∷ 49 ∷ []

pub delete_line : List ℕ
delete_line = 48 ∷ 53 ∷ 48 ∷ 48 ∷ 48 ∷ 49 ∷ 48 ∷ 48 ∷ 48 ∷ 48 ∷ []

-- and what is no frame: nothing, one digit, a blank after 03, a lower-case letter, a digit too many, also of an inverted state, the kinds 00 and 08,
-- the inversion bytes 02, 10 and FF, 0A with a digit too many, and with the fields of 01
pub wrong : List (List ℕ)
wrong =
    []
    ∷ (48 ∷ [])
    ∷ (48 ∷ 51 ∷ 32 ∷ [])
    ∷ (48 ∷ 50 ∷ 48 ∷ 48 ∷ 48 ∷ 97 ∷ [])
    ∷ (48 ∷ 54 ∷ 48 ∷ [])
    ∷ (48 ∷ 55 ∷ 48 ∷ state-fields)
    ∷ (48 ∷ 48 ∷ [])
    ∷ (48 ∷ 56 ∷ [])
    ∷ wide-line 48 50
    ∷ wide-line 49 48
    ∷ wide-line 70 70
    ∷ (wide-line 48 48 ++ (48 ∷ []))
    ∷ (48 ∷ 65 ∷ state-fields)
    ∷ []

pub read : map frame_of (state-line ∷ inverted-line ∷ wide-line 48 48 ∷ wide-line 48 49 ∷ node-line ∷ (48 ∷ 51 ∷ []) ∷ insert-line ∷ delete_line ∷ (48 ∷ 54 ∷ []) ∷ wrong)
    ≡ state false 0xFFFF 1 2
    ∷ state true 0xFFFF 1 2
    ∷ state false 0xFFFF 1 0x80000001
    ∷ state true 0xFFFF 1 0x80000001
    ∷ node 1
    ∷ run
    ∷ edit insertion 0 1
    ∷ edit deletion 1 0
    ∷ walk
    ∷ map (λ line. nothing) wrong
unfolding frame_of spoken wide hexadecimal digit number_from state-fields state-line inverted-line wide-line node-line insert-line delete_line wrong all_below
read = refl

-- the longest of them is as long as a frame can be
pub longest : length (wide-line 48 48) ≡ longest_frame
unfolding wide-line
longest = refl

-- 800100020002 and 8F0C, each with its line feed
pub wrote : (report_line true 2 2 ≡ 56 ∷ 48 ∷ 48 ∷ 49 ∷ 48 ∷ 48 ∷ 48 ∷ 50 ∷ 48 ∷ 48 ∷ 48 ∷ 50 ∷ 10 ∷ []) × (refusal 12 ≡ 56 ∷ 70 ∷ 48 ∷ 67 ∷ 10 ∷ [])
unfolding report_line refusal digits letter place word
wrote = (refl, refl)

-- a line feed at the end begins no line; an empty line is one; input may end without a line feed
pub cut : (lines (1 ∷ 10 ∷ 10 ∷ 2 ∷ []) ≡ (1 ∷ []) ∷ [] ∷ (2 ∷ []) ∷ []) × (lines (1 ∷ 10 ∷ []) ≡ (1 ∷ []) ∷ []) × (lines [] ≡ [])
unfolding Rattle.frames.specs.Lines.lines_after
cut = (refl, refl, refl)
