-- What `get` finds is the front of the room, and nothing stands for what it does not find.
use borrow.Author.Tests.{le-leb, lt-leb}
use native.Mathlib.Omega.{arith}
use Prim.Native.Nat.{ℕ, ◌-◌}
use mathlib.Core.Path.{◌≡◌, refl}
use mathlib.Core.Bool.{cond}
use mathlib.Core.List.{List, []}
use lib.Dec.{leb}
use lib.IntN.{ℤ}
use lib.ListN.{length, take}
use Rattle.std.specs.Prelude.{Option, Some, None, unwrap_or}
use Rattle.std.specs.Slice.{IsGetRangeResult}
use denote.Bor.{Bor}
use Rattle.promises.specs.Answers.{handed_back}
use Rattle.reports.proofs.changed_part.Goals as goal

front : (room : List ℤ) (n : ℕ) (r : Option (Bor (List ℤ))) (e : Bor (List ℤ)) → e.now ≡ [] → IsGetRangeResult room 0 n r
    → (unwrap_or r e).now ≡ cond (leb n (length room)) (take n room) []
front room n None e none p = rw (lt-leb n (length room) (omega (arith, p.0))) none
front room n (Some part) e none p = let from : n - 0 ≡ n = omega arith in rw (le-leb n (length room) (omega (arith, p.0)), ← from) p.0.2

pub returns : goal.returns
unfolding handed_back
returns c =
    rw (← c.changes_in-n.ensures, c.unwrap_or.ensures) (front c.args.changes.now c.changes_in-n.result c.get.result _ refl c.get.ensures.lookup)
