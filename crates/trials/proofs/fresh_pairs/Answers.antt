-- What is admitted, less the marks.
use mathlib.Core.Path.{sym, ◌∙◌, ap}
use lib.ListN.{length}
use Rattle.session_parts.proofs.Parts.{marks-long}
use Rattle.trials.proofs.Trying.{fresh-held}
use Rattle.trials.proofs.fresh_pairs.Goals as goal

pub take_away-requires : goal.take_away-requires
take_away-requires c =
    ap length c.marks.ensures.is ∙ marks-long c.args.session.now c.marks.ensures.held ∙ sym c.admitted_pairs.ensures.long

pub returns : goal.returns
returns c =
    let away = c.take_away.ensures in
    fresh-held c.args.session.now c.marks.ensures.held _ _ c.admitted_pairs.ensures _ away.0 (rw c.marks.ensures.is at away.1)
