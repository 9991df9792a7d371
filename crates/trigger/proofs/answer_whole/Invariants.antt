-- Each turn takes a byte of the block at least, leaves memory that breaks no rule, and is one call more of a sequence over the block; what the
-- calls answered is what the writer was given.
use Prim.Native.Nat.{ℕ, ◌-◌, ◌≤◌}
use mathlib.Core.Path.{◌≡◌}
use mathlib.Core.List.{List}
use lib.ListN.{length, take}
use Rattle.std.specs.Io.KnownBytes.{Appends}
use Rattle.promises.specs.Rules.{verdict}
use Rattle.frames.specs.Machine.{memory}
use Rattle.frames.specs.Blocks.{input_rules}
use Rattle.frames.proofs.Inputs.{Within}
use Rattle.trigger.proofs.answer_whole.Given as goal

abbrev pub invariant-loop-at : goal.invariant-loop-at
invariant-loop-at g l =
    (verdict (input_rules (memory l.counts l.words l.session l.changes l.out) l.front) ≡ 0)
    × (l.at ≤ length l.block)
    × (output : List ℕ)
    × Within (memory l.initial.counts l.initial.words l.initial.session l.initial.changes l.initial.out) (take l.begun l.initial.front) l.block output (memory l.counts l.words l.session l.changes l.out) (take l.line l.front) l.at
    × Appends (g.W.Write.contents l.initial.writer) (g.W.Write.contents l.writer) output

abbrev pub decreases-loop-at : goal.decreases-loop-at
decreases-loop-at g l =
    length l.block - l.at
