-- The digits written so far: four at a time, and then one by one.
use Prim.Native.Nat.{◌+◌, ◌*◌}
use Rattle.frames.proofs.Written.{Writing}
use Rattle.digits.proofs.put_digits.Given as goal

abbrev pub invariant-loop-i : goal.invariant-loop-i
invariant-loop-i l =
    Writing l.initial.out l.at l.count l.value l.out l.next (l.rest + l.i * 4)

-- the rest, from where the fours end
abbrev pub invariant-loop-i-2 : goal.invariant-loop-i-2
invariant-loop-i-2 l =
    Writing l.initial.out l.initial.next l.rest l.value l.out l.next l.i
