-- A turn is a call over a block that the memory does not refuse: it takes a byte, and what it answers is written next.
use native.Mathlib.Omega.{arith}
use Prim.Native.Nat.{ℕ, ◌+◌, ◌-◌, ◌<◌, ◌≤◌}
use mathlib.Core.Path.{◌≡◌, sym}
use mathlib.Core.List.{List, ◌++◌}
use lib.ListN.{length, take, drop, length-take, length-drop}
use lib.Seq.{length-take-le}
use Rattle.std.specs.Prelude.{Ok}
use Rattle.std.proofs.KnownBytes.{Appends-trans}
use Rattle.promises.specs.Rules.{verdict}
use Rattle.frames.specs.declared.Progress.{Progress}
use Rattle.frames.specs.Machine.{Memory}
use Rattle.frames.specs.Blocks.{input_rules, BlockTaken}
use Rattle.frames.proofs.Inputs.{within_step}
use Rattle.frames.proofs.Passing.{block_at, block_goes, block_written, block-passed, block-told}
use Rattle.trigger.proofs.answer_whole.Goals as goal

-- a call over what is left of the block from the place `at` on goes on from there, and not past the block's end
goes : (m : Memory) (front : List ℕ) (used : ℕ) (block : List ℕ) (at : ℕ) (p : Progress) (m' : Memory) (front' : List ℕ)
    → BlockTaken m front used (take (length block - at) (drop at block)) (Ok p) m' front' → verdict (input_rules m front) ≡ 0 → at < length block
    → (at < at + p.at) × (at + p.at ≤ length block)
goes m front used block at p m' front' t ok l =
    let rest = take (length block - at) (drop at block) in
    let long : length rest ≡ length block - at = omega (arith, length-take (length block - at) (drop at block), length-drop at block) in
    let some = block_goes m front used rest (Ok p) m' front' t ok (omega (arith, long, l)) in
    let most = block_at m front used rest (Ok p) m' front' t ok in
    (omega (arith, some), omega (arith, most, long, l))

pub slice_bounds-write_out-end : goal.slice_bounds-write_out-end
slice_bounds-write_out-end g c =
    block_written _ _ _ _ _ _ _ (block-told c.unwrap-progress.ensures c.answer_block.ensures) c.loop-at.invariant.0

pub slice_bounds-write_out-end-in-loop-at : goal.slice_bounds-write_out-end-in-loop-at
slice_bounds-write_out-end-in-loop-at g c =
    sym (length-take-le _ _ (block_written _ _ _ _ _ _ _ (block-told c.unwrap-progress.ensures c.answer_block.ensures) c.loop-at.invariant.0))

pub returns-in_err-write_out-clause-unbroken : goal.returns-in_err-write_out-clause-unbroken
returns-in_err-write_out-clause-unbroken g c =
    let same = c.answer_block.auto in
    block-passed _ _ _ _ _ _ _ c.answer_block.ensures c.loop-at.invariant.0
    record { counts = same.counts; words = same.words; session = same.session; room = same.changes; out = same.out } same.front

pub overflow_add-at : goal.overflow_add-at
overflow_add-at g c =
    let on = goes _ _ _ c.args.block.now _ _ _ _ (block-told c.unwrap-progress.ensures c.answer_block.ensures) c.loop-at.invariant.0 c.loop-at-test.true in
    record { fits = omega (arith, on.1, c.well_formed) }

pub loop-at-smaller : goal.loop-at-smaller
loop-at-smaller g c =
    let on = goes _ _ _ c.args.block.now _ _ _ _ (block-told c.unwrap-progress.ensures c.answer_block.ensures) c.loop-at.invariant.0 c.loop-at-test.true in
    omega (arith, on.0, on.1)

pub loop-at-preserved : goal.loop-at-preserved
loop-at-preserved g c =
    let i = c.loop-at.invariant in
    let taken = block-told c.unwrap-progress.ensures c.answer_block.ensures in
    let same = c.answer_block.auto in (
      block-passed _ _ _ _ _ _ _ c.answer_block.ensures i.0
          record { counts = same.counts; words = same.words; session = same.session; room = same.changes; out = same.out }
          same.front,
      (goes _ _ _ c.args.block.now _ _ _ _ taken i.0 c.loop-at-test.true).1,
      i.2 ++ take c.unwrap-progress.result.written c.answer_block.new.out,
      within_step _ _ _ _ _ _ _ _ _ _ _ i.3 taken,
      Appends-trans _ _ _ _ _ i.4 c.in_ok-write_out.ensures,
    )
