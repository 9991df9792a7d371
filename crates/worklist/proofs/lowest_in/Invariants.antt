-- `lowest_in` meets its contract: before word i no node waits below it.
use Prim.Native.Nat.{◌*◌}
use Rattle.worklist.proofs.Waits.{Idle}
use Rattle.bits.specs.Word.{set_bits}
use Rattle.worklist.proofs.lowest_in.Given as goal

abbrev pub invariant-loop-i : goal.invariant-loop-i
invariant-loop-i l =
    Idle l.waiting (l.i * set_bits)
