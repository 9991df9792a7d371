-- The marks are refined from the edge's start, with nothing settled.
use native.Mathlib.Omega.{arith}
use mathlib.Core.Path.{◌≡◌, refl, sym, ap, ◌∙◌}
use mathlib.Core.Bool.{false}
use lib.ListN.{length, replicate}
use Rattle.session.specs.Layout.{marks_of}
use Rattle.session.proofs.Decoded.{layout-facts}
use Rattle.pair_tables.specs.Tables.{marked}
use Rattle.pair_tables.proofs.Tabling.{marked-none}
use Rattle.pair_tables.proofs.Zeros.{zeros}
use Rattle.session_parts.proofs.Parts.{marks-long, held-marks}
use Rattle.editing.specs.Steps.{RefinedAt}
use Rattle.session.specs.Limits.{max_nodes}
use Rattle.deletion.proofs.cease.Goals as goal
use Rattle.deletion.proofs.cease.Goals.{After-copy_from_slice}

-- the table holds the marks
all : (c : After-copy_from_slice) → marked c.copy_from_slice.new.self ≡ marks_of c.args.session.now
all c = ap marked (c.copy_from_slice.ensures.after ∙ c.marks.ensures.is) ∙ held-marks c.args.session.now c.marks.ensures.held

pub copy_from_slice-requires : goal.copy_from_slice-requires
copy_from_slice-requires c =
    c.requires.1 ∙ sym (ap length c.marks.ensures.is ∙ marks-long c.args.session.now c.marks.ensures.held)

pub refine_at-requires : goal.refine_at-requires
refine_at-requires c =
    let xs = c.args.session.now in
    let inside = (layout-facts xs c.marks.ensures.held).inside in
    let long = ap length (c.copy_from_slice.ensures.after ∙ c.marks.ensures.is) ∙ marks-long xs c.marks.ensures.held in
    (omega (arith, c.requires.0), refl, long, rw (← all (goal.at.refine_at-requires c).After-copy_from_slice) at inside)

pub returns : goal.returns
returns c =
    let r : RefinedAt c.args.session.now c.args.start (λ u v. false) (marks_of c.args.session.now) _ =
    rw (marked-none (replicate max_nodes 0) (zeros max_nodes), all (goal.at.returns c).After-copy_from_slice) at c.refine_at.ensures in
    record { long = r.long; within = r.within; exact = r.exact }
