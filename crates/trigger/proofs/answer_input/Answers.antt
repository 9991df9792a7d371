-- Memory at its start breaks no rule; the end ends the sequence of calls, and what it answers is written last.
use mathlib.Core.Path.{sym}
use mathlib.Core.List.{[], ◌++◌}
use lib.ListN.{take}
use lib.Seq.{length-take-le}
use Rattle.std.specs.Prelude.{Ok}
use Rattle.std.proofs.lemmas.Result.{on_ok_weaker}
use Rattle.std.proofs.KnownBytes.{Appends-trans}
use Rattle.frames.proofs.Passing.{fresh-passed, end-written, end-told}
use Rattle.frames.proofs.Inputs.{leads-end, prints-program}
use Rattle.trigger.proofs.answer_input.Goals as goal

pub answer_blocks-requires : goal.answer_blocks-requires
answer_blocks-requires g c =
    fresh-passed _ c.args.front.now c.requires.0 c.requires.1 c.requires.2 c.requires.3

pub slice_bounds-write_out-end : goal.slice_bounds-write_out-end
slice_bounds-write_out-end g c =
    end-written _ _ _ _ _ (end-told c.unwrap-last.ensures c.answer_end.ensures) c.answer_blocks.ensures.unbroken

pub slice_bounds-write_out-end-2 : goal.slice_bounds-write_out-end-2
slice_bounds-write_out-end-2 g c =
    sym (length-take-le _ _ (end-written _ _ _ _ _ (end-told c.unwrap-last.ensures c.answer_end.ensures) c.answer_blocks.ensures.unbroken))

pub returns : goal.returns
returns g c =
    let b = c.answer_blocks in
    let e = c.answer_end in
    let p = c.unwrap-last.result in
    let told = end-told c.unwrap-last.ensures e.ensures in
    let l = c.in_ok-begun.ensures.calls in
    let calls = leads-end _ [] l.0 l.1 _ b.new.front c.in_ok-begun.begun (Ok p) _ l.2 told (told.told b.ensures.unbroken).0 in
    on_ok_weaker c.write_out.result
    (λ all. (
      l.0,
      l.1 ++ take p.written e.new.out,
      calls,
      prints-program _ _ _ c.requires.0 calls,
      l.3,
      Appends-trans _ _ _ _ _ l.4 all,
    ))
    c.write_out.ensures
