-- The admitted pairs by the parts of the session.
use Rattle.session.proofs.Decoded.{layout-facts}
use Rattle.session_parts.proofs.Admitted.{pairs-admitted}
use Rattle.session_parts.proofs.Held.admitted_pairs.Goals as goal

pub admitted-requires : goal.admitted-requires
admitted-requires c =
    rw c.samples.ensures.is ((layout-facts c.args.self.now c.samples.ensures.held).graph.few, c.requires.1, c.requires.2)

pub returns : goal.returns
returns c =
    pairs-admitted c.args.self.now c.args.turned c.patterns.ensures.masks c.patterns.ensures.values c.samples.ensures.is
    c.requires.0 c.admitted.ensures
