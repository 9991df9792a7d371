-- 01, "One frame a line, .. ended by a line feed or the input's end. Where nothing follows the last line feed there is no further line."
use Rattle.std.specs.Prelude.{ℕ, ◌+◌, Bool, false, ◌||◌, cond, List, [], ◌∷◌, ◌++◌, eqb, ◌≡◌, length, take, drop}

-- the lines of the bytes that follow a line begun with `begun`
unfoldable pub lines_after : List ℕ → List ℕ → List (List ℕ)
lines_after [] [] = []
lines_after (b ∷ begun) [] = (b ∷ begun) ∷ []
lines_after begun (c ∷ cs) = cond (eqb c 10) (begun ∷ lines_after [] cs) (lines_after (begun ++ (c ∷ [])) cs)

abbrev pub lines : List ℕ → List (List ℕ)
lines = lines_after []

-- whether a line ends in the bytes; and the bytes before its line feed, which are all of them where none ends
unfoldable pub line_ends : List ℕ → Bool
line_ends [] = false
line_ends (c ∷ cs) = eqb c 10 || line_ends cs

unfoldable pub line_in : List ℕ → List ℕ
line_in [] = []
line_in (c ∷ cs) = cond (eqb c 10) [] (c ∷ line_in cs)

-- the bytes of the longest frame: the two digits of its kind, `0A`, and the 18 of its fields
abbrev pub longest_frame : ℕ
longest_frame = 20

-- one byte more: a line of so many bytes is no frame
abbrev pub front_size : ℕ
front_size = longest_frame + 1

-- The front of a line is kept in a memory: what was begun there and the bytes after it, as far as there is room.
abbrev pub front_with : List ℕ → ℕ → List ℕ → List ℕ
front_with memory used bytes = take (length memory) (take used memory ++ bytes)

pub record Keeps (memory : List ℕ) (used : ℕ) (bytes memory' : List ℕ) (used' : ℕ) : Type 0 where
  pub many : used' ≡ length (front_with memory used bytes)
  pub left : memory' ≡ front_with memory used bytes ++ drop (length (front_with memory used bytes)) memory

-- Bytes of a block, from the place `at` on, are kept after a front up to the first line feed, and the next place is the one after it. Where there
-- is none, all are taken.
pub record Gathers (memory : List ℕ) (used : ℕ) (block : List ℕ) (at : ℕ) (memory' : List ℕ) (used' at' : ℕ) (ended : Bool) : Type 0 where
  pub front : Keeps memory used (line_in (drop at block)) memory' used'
  pub told : ended ≡ line_ends (drop at block)
  pub place : at' ≡ cond ended (at + length (line_in (drop at block)) + 1) (length block)
