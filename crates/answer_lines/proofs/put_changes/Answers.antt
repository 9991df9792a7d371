use borrow.Author.Rules.{rules}
use native.Mathlib.Omega.{arith}
use mathlib.Core.Path.{subst}
use mir.Syntax.{w32}
use mir.ValLaws.{to_z-of_z}
use Rattle.listing.specs.Placed.{Placed}
use lib.ListN.{get_or}
use lib.IntN.{ℤ, pos}
use Rattle.frames.specs.Outputs.{changed, change_size}
use Rattle.frames.proofs.Listed.{changed-long, listing_start, listing_next, listing_long, listing_more}
use Rattle.answer_lines.proofs.put_changes.Goals as goal

pub loop-change-init : goal.loop-change-init
loop-change-init c =
    listing_start changed change_size changed-long c.args.list.now c.args.out.now c.args.at (omega (arith, c.requires))

pub put_change-next-requires : goal.put_change-next-requires
put_change-next-requires c =
    let l = c.loop-change in
    let near = listing_next changed change_size changed-long c.args.list.now c.args.out.now c.args.at (omega (arith, c.requires)) l.out l.next l.change-index l.invariant in
    let long = listing_long changed change_size changed-long c.args.list.now c.args.out.now c.args.at (omega (arith, c.requires)) l.out l.next l.change-index l.invariant
    (omega (arith, c.requires)) in
    omega (arith, c.requires, near, long)

pub loop-change-preserved : goal.loop-change-preserved
loop-change-preserved c =
    let l = c.loop-change in
    let p = c.put_change-next in
    listing_more changed change_size changed-long c.args.list.now c.args.out.now c.args.at (omega (arith, c.requires)) l.out l.next l.change-index (pos 0)
    p.new.out p.result l.invariant (omega arith)
    (subst (λ (z : ℤ). Placed l.out l.next (changed z) p.new.out p.result)
    (to_z-of_z w32 (get_or c.args.list.now l.change-index (pos 0)) (search rules)) p.ensures)
