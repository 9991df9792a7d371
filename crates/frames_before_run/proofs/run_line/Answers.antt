-- The load of what was read, the moment after it, and the answer.
use native.Mathlib.Omega.{arith}
use mathlib.Core.Path.{subst}
use Rattle.promises.specs.Rules.{Given}
use Rattle.promises.specs.Promises.{Loaded}
use Rattle.frames.specs.Machine.{memory}
use Rattle.frames.proofs.Few.{loaded-few}
use Rattle.frames.proofs.Takes.{printed-front, read_parts}
use Rattle.frames_before_run.proofs.run_line.Goals as goal

pub put_answer-requires : goal.put_answer-requires
put_answer-requires c =
    omega (arith, c.requires.2, loaded-few _ _ _ _ _ _ c.load-answer.ensures)

pub returns : goal.returns
returns c =
    let a = c.args in
    let l = c.load-answer in
    let k = c.kept_below-inverted in
    record {
      answer = l.result;
      loads = subst (λ (x : Given). Loaded x a.session.now a.changes.now l.result l.new.session l.new.changes)
          (read_parts (memory a.counts.now a.words.now a.session.now a.changes.now a.out.now) k.result k.ensures) (rw c.of-lists.ensures at l.ensures);
      prints = rw (← c.move_on.ensures) (printed-front _ _ _ _ c.put_answer.ensures);
    }
