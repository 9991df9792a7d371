-- Each block goes on with the sequence: its bytes were read next, and its answers written next.
use mathlib.Core.List.{[], ◌++◌}
use lib.ListN.{take}
use Rattle.std.proofs.KnownBytes.{Appends-nil, Appends-trans, Consumes-nil, Consumes-trans}
use Rattle.frames.specs.Machine.{memory}
use Rattle.frames.proofs.Inputs.{leads-none, leads_then}
use Rattle.trigger.proofs.answer_blocks.Goals as goal

pub loop-init : goal.loop-init
loop-init g c =
    let a = c.args in (
      c.requires,
      [],
      [],
      leads-none (memory a.counts.now a.words.now a.session.now a.changes.now a.out.now) [],
      Consumes-nil (g.R.Read.remaining a.reader.now),
      Appends-nil (g.W.Write.contents a.writer.now),
    )

pub loop-preserved : goal.loop-preserved
loop-preserved g c =
    let i = c.loop.invariant in
    let n = c.in_ok-begun.ensures.calls in
    let read = take c.read_front-n.result c.read_front-n.new.block in (
      c.answer_whole.ensures.unbroken,
      i.1 ++ read,
      i.2 ++ n.0,
      leads_then _ [] i.1 i.2 _ _ read n.0 _ _ i.3 n.1,
      Consumes-trans _ _ _ _ _ i.4 c.read_front-n.ensures.bytes,
      Appends-trans _ _ _ _ _ i.5 n.2,
    )
