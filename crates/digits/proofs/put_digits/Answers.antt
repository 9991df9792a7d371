use Prim.Native.Nat.{◌+◌, ◌-◌, ◌*◌, ◌/◌, ◌^◌, ◌≤◌}
use native.Mathlib.Omega.{arith}
use mathlib.Core.Path.{◌≡◌, ◌∙◌}
use lib.ListN.{length}
use Rattle.frames.proofs.Written.{Writing, place-fits, writing_next, writing_more, writing_end}
use Rattle.digits.proofs.Fours.{writing_part, writing_rest}
use Rattle.digits.proofs.put_digits.Goals as goal
use Rattle.digits.proofs.put_digits.Goals.{After-loop-i}

-- past the fours the rest is left, and has room
fours : (c : After-loop-i) → let a = c.args in let l = c.loop-i in
    Writing a.out.now a.at a.count a.value l.out l.next (a.count - a.count / 2 ^ 2 * 4) × (l.next + (a.count - a.count / 2 ^ 2 * 4) ≤ length l.out)
fours c =
    let a = c.args in
    let l = c.loop-i in
    let over : (a.count - a.count / 2 ^ 2 * 4) + l.i * 4 ≡ (a.count - a.count / 2 ^ 2 * 4) = omega arith in
    let w = rw over at l.invariant in
    (w, omega (arith, c.requires.1, writing_next a.out.now a.at a.count a.value c.requires.1 l.out l.next (a.count - a.count / 2 ^ 2 * 4) w))

pub loop-i-preserved : goal.loop-i-preserved
loop-i-preserved c =
    let a = c.args in
    let l = c.loop-i in
    writing_part a.out.now a.at a.count a.value c.requires.1 l.out l.next _ 4 _ _ _ l.invariant (omega arith) (omega arith)
    (c.copy_from_slice.ensures.after ∙ c.letters-bytes.ensures)

pub letter-requires : goal.letter-requires
letter-requires c =
    rw c.place.ensures (place-fits _ _)

pub loop-i-2-preserved : goal.loop-i-2-preserved
loop-i-2-preserved c =
    let l = c.loop-i in
    let k = c.loop-i-2 in
    rw (c.letter.ensures, c.place.ensures)
    (writing_more l.out l.next (c.args.count - c.args.count / 2 ^ 2 * 4) c.args.value (fours (goal.at.loop-i-2-preserved c).After-loop-i).1 k.out k.next k.i k.invariant (omega arith))

pub returns : goal.returns
returns c =
    let a = c.args in
    let l = c.loop-i in
    let k = c.loop-i-2 in
    let f = fours (goal.at.returns c).After-loop-i in
    let rest = writing_end l.out l.next (a.count - a.count / 2 ^ 2 * 4) a.value f.1 k.out k.next k.i k.invariant (omega arith) in
    writing_rest a.out.now a.at a.count a.value c.requires.1 l.out l.next (a.count - a.count / 2 ^ 2 * 4) f.0 k.out k.next rest
