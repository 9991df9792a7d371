-- A memory that breaks no rule of the input breaks none of its own.
use mathlib.Core.Path.{sym}
use Rattle.frames.specs.Machine.{memory}
use Rattle.frames.proofs.Takes.{passed-rules}
use Rattle.frames.proofs.Passing.{input_passed}
use Rattle.frame_input.proofs.answer_end.Goals as goal

pub answer_line-written-requires : goal.answer_line-written-requires
answer_line-written-requires c =
    let a = c.args in
    let m = memory a.counts.now a.words.now a.session.now a.changes.now a.out.now in
    passed-rules m (input_passed m a.front.now (sym c.in_ok-input_rule.ensures)).0
