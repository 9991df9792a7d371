-- The change list is handed back whole.
use native.Mathlib.Omega.{arith}
use mathlib.Core.Path.{◌≡◌}
use mathlib.Core.List.{List, [], ◌++◌}
use lib.IntN.{ℤ}
use lib.ListN.{length, length-append}
use lib.Seq.{take-append_seam}
use borrow.Author.Tests.{le-leb}
use Rattle.promises.specs.Answers.{Answer, told, changes_told, handed_back}

pub handed_back_lem : (list rest : List ℤ) (r : Answer) → changes_told (told r) ≡ length list → handed_back (list ++ rest) r ≡ list
unfolding handed_back
handed_back_lem list rest r e =
    rw (e, le-leb (length list) (length (list ++ rest)) (omega (arith, length-append list rest))) (take-append_seam list rest)

pub handed_none : (room : List ℤ) (r : Answer) → changes_told (told r) ≡ 0 → handed_back room r ≡ []
handed_none room r e = handed_back_lem [] room r e
