-- The memory breaks no rule after each block, and its calls go on with the sequence, over the bytes read and to the bytes written.
use Prim.Native.Nat.{ℕ}
use mathlib.Core.List.{List, []}
use mathlib.Core.Path.{◌≡◌}
use lib.ListN.{take}
use Rattle.std.specs.Io.KnownBytes.{Appends, Consumes}
use Rattle.promises.specs.Rules.{verdict}
use Rattle.frames.specs.Machine.{memory}
use Rattle.frames.specs.Blocks.{input_rules, Leads}
use Rattle.trigger.proofs.answer_blocks.Given as goal

abbrev pub invariant-loop : goal.invariant-loop
invariant-loop g l =
    (verdict (input_rules (memory l.counts l.words l.session l.changes l.out) l.front) ≡ 0)
    × (bytes : List ℕ) × (output : List ℕ)
    × Leads (memory l.initial.counts l.initial.words l.initial.session l.initial.changes l.initial.out) [] bytes output (memory l.counts l.words l.session l.changes l.out) (take l.begun l.front)
    × Consumes (g.R.Read.remaining l.initial.reader) (g.R.Read.remaining l.reader) bytes × Appends (g.W.Write.contents l.initial.writer) (g.W.Write.contents l.writer) output
