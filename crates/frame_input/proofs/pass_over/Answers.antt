-- A turn takes a line, or the rest of the block; what the answer left, in the rest of the output, is as long as it was.
use native.Mathlib.Omega.{arith}
use Prim.Native.Nat.{ℕ, ◌-◌, ◌<◌, ◌≤◌}
use mathlib.Core.Logic.{inl, inr}
use mathlib.Core.List.{List}
use lib.ListN.{length, take, drop}
use Rattle.frames.specs.Machine.{memory, output_size}
use Rattle.frames.specs.Blocks.{Point, GoesOn}
use Rattle.frames.proofs.Passing.{SameLengths, Upto, pass_start, pass_open, part-passed, part-fits, pass_line, pass_stops}
use Rattle.frame_input.proofs.pass_over.Goals as goal
use Rattle.frame_input.proofs.pass_over.Goals.{After-answer_line-n}

-- a turn goes on: it takes some of the block, and its line is a front of its memory
on : {block : List ℕ} {start p : Point} → Upto block start p → p.at < length block → output_size ≤ length p.memory.out - p.written → GoesOn block p
on u more room = (more, omega (arith, room, u.inside))

same : (c : After-answer_line-n)
    → let l = c.loop-at in let t = c.answer_line-n.new in
    SameLengths (memory l.counts l.words l.session l.changes (take (length l.out - l.written) (drop l.written l.out)))
    (memory t.counts t.words t.session t.changes t.out)
same c =
    let k = c.answer_line-n.auto in
    record { counts = k.counts; words = k.words; session = k.session; room = k.changes; out = k.out }

pub loop-at-init : goal.loop-at-init
loop-at-init c =
    pass_start c.args.block.now c.args.front.now c.args.begun _ c.requires

pub answer_line-n-requires : goal.answer_line-n-requires
answer_line-n-requires c =
    let u = c.loop-at.invariant in
    let g = c.gather-gathered in
    part-passed _ _ _ u (on u c.loop-at-test.true c.if-out-written-ge-OUTPUT_SIZE.true) g.new.front g.result.used g.result.at

pub overflow_add-written : goal.overflow_add-written
overflow_add-written c =
    let u = c.loop-at.invariant in
    let g = c.gather-gathered in
    let t = c.answer_line-n in
    let f = part-fits _ _ _ u (on u c.loop-at-test.true c.if-out-written-ge-OUTPUT_SIZE.true) g.new.front g.result.used g.result.at t.result _ t.ensures (same (goal.at.overflow_add-written c).After-answer_line-n) in
    record { fits = omega arith }

pub loop-at-preserved-then-gathered : goal.loop-at-preserved-then-gathered
loop-at-preserved-then-gathered c =
    let u = c.loop-at.invariant in
    let o = on u c.loop-at-test.true c.if-out-written-ge-OUTPUT_SIZE.true in
    let g = c.gather-gathered in
    let t = c.answer_line-n in
    pass_line _ _ _ u o g.new.front g.result.used g.result.at t.result _ t.ensures (same (goal.at.loop-at-preserved-then-gathered c).After-answer_line-n) g.result.ended c.if-gathered.true g.ensures

pub loop-at-preserved : goal.loop-at-preserved
loop-at-preserved c =
    let u = c.loop-at.invariant in
    let g = c.gather-gathered in
    pass_open _ _ _ u (on u c.loop-at-test.true c.if-out-written-ge-OUTPUT_SIZE.true) g.new.front g.result.used g.result.at g.result.ended c.if-gathered.false g.ensures

pub returns-else-out-written-ge-OUTPUT_SIZE : goal.returns-else-out-written-ge-OUTPUT_SIZE
returns-else-out-written-ge-OUTPUT_SIZE c =
    let u = c.loop-at.invariant in
    pass_stops _ _ _ u (inr (omega (arith, c.if-out-written-ge-OUTPUT_SIZE.false, u.inside)))

pub returns-after-loop-at : goal.returns-after-loop-at
returns-after-loop-at c =
    pass_stops _ _ _ c.loop-at.invariant (inl c.loop-at-test.false)
