-- `call_all` meets its contract: the words below i gained the nodes of their parts.
use Prim.Native.Nat.{ℕ}
use mathlib.Core.Path.{◌≡◌}
use lib.ListN.{length}
use Rattle.worklist.specs.Waiting.{waits, waiting_words}
use Rattle.worklist.proofs.Occupied.{called}
use Rattle.worklist.proofs.call_all.Given as goal

abbrev pub invariant-loop-i : goal.invariant-loop-i
invariant-loop-i l =
    (length l.waiting ≡ waiting_words) × ((v : ℕ) → waits l.waiting v ≡ called l.initial.waiting l.table l.i v)
