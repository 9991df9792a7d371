-- The list handed back is short.
use native.Mathlib.Omega.{arith}
use Rattle.frames.proofs.Few.{edited-few}
use Rattle.frames_after_run.proofs.edit_line.Goals as goal

pub put_answer-requires : goal.put_answer-requires
put_answer-requires c =
    omega (arith, c.requires, edited-few _ _ _ _ _ _ _ _ c.edit-answer.ensures)
