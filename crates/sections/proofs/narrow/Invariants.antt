-- `narrow` meets its contract: the places before i hold halves of the source's words.
use Prim.Native.Nat.{ℕ, ◌/◌, ◌%◌, ◌^◌}
use mathlib.Core.List.{List}
use lib.ListN.{get_or}
use Rattle.sections.proofs.Fills.{Filled}
use Rattle.bits.specs.Word.{half_bits}
use Rattle.sections.proofs.narrow.Given as goal

-- the half that is taken of a word
abbrev pub half : List ℕ → ℕ → ℕ → ℕ
half source from j = get_or source j 0 / 2 ^ from % 2 ^ half_bits

abbrev pub invariant-loop-i : goal.invariant-loop-i
invariant-loop-i l =
    Filled (half l.source l.from) l.initial.place l.place l.i
