-- The states that admit a node by the parts of the session.
use Rattle.session.specs.Layout.{trigger_of}
use Rattle.pair_tables.proofs.Tabling.{turned-below}
use Rattle.session_parts.proofs.Admitted.{node-admitted}
use Rattle.session_parts.proofs.Held.admitting.Goals as goal

pub admitted_at-requires : goal.admitted_at-requires
admitted_at-requires c =
    let t = trigger_of c.args.self.now in
    rw c.patterns.ensures.masks (turned-below t.masks t.inverted c.args.turned c.requires.0)

pub returns : goal.returns
returns c =
    node-admitted c.args.self.now c.args.turned c.patterns.ensures.masks c.patterns.ensures.values c.samples-samples.ensures.is
    c.requires.0 c.args.node c.admitted_at.ensures
