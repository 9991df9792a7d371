-- The one node that has trials waits, and they are refined beside the marks.
use Prim.Native.Nat.{ℕ, ◌/◌, ◌%◌}
use native.Mathlib.Omega.{arith}
use mathlib.Core.Path.{ap, ◌∙◌}
use lib.ListN.{length}
use Rattle.simulation.proofs.Sets.{clash}
use Rattle.bits.specs.Word.{members}
use Rattle.bits.proofs.Words.{zero-members}
use Rattle.session.specs.Trigger.{states}
use Rattle.session.specs.Layout.{trigger_of}
use Rattle.pair_tables.specs.Tables.{marked}
use Rattle.session_parts.proofs.Parts.{marks-long, held-marks}
use Rattle.trials.proofs.begin_at.Goals as goal

pub refine_at-requires : goal.refine_at-requires
refine_at-requires c =
    let p = c.requires.session_value in
    (omega (arith, p.0), ap length c.marks.ensures.is ∙ marks-long c.args.session.now c.marks.ensures.held, p.1, p.2)

pub returns : goal.returns
returns c =
    let n = states (trigger_of c.args.session.now) in
    rw (ap marked c.marks.ensures.is ∙ held-marks c.args.session.now c.marks.ensures.held) at
    (c.refine_at.ensures.exact
    (λ p m away. clash m (ap (λ (w : ℕ). members w (p % n)) (c.requires.by_index (p / n) away) ∙ zero-members (p % n))))
