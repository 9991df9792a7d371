-- What the memory's own rules leave.
use native.Mathlib.Omega.{arith}
use Rattle.frames.specs.Machine.{memory}
use Rattle.frames.proofs.Takes.{Passed, rules-passed}
use Rattle.frame_machine.proofs.answer_line.Goals as goal
use Rattle.frame_machine.proofs.answer_line.Goals.{Start}

passed : (c : Start) → Passed (memory c.args.counts.now c.args.words.now c.args.session.now c.args.changes.now c.args.out.now)
passed c = rules-passed _ c.requires

pub bounds-counts-0 : goal.bounds-counts-0
bounds-counts-0 c =
    let p = passed (goal.at.bounds-counts-0 c).Start in omega (arith, p.ready.counts)

pub before_run-requires : goal.before_run-requires
before_run-requires c =
    let p = passed (goal.at.before_run-requires c).Start in (p.ready.counts, p.ready.words, p.out, p.counted.1, p.counted.2)

pub after_run-requires : goal.after_run-requires
after_run-requires c =
    (passed (goal.at.after_run-requires c).Start).out
