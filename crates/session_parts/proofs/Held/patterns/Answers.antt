-- The masks and values of a session in layout are patterns.
use Rattle.session.proofs.Decoded.{layout-facts}
use Rattle.session_parts.proofs.Held.patterns.Goals as goal

pub invariant_of-result : goal.invariant_of-result
invariant_of-result c =
    let f = (layout-facts c.args.self.now c.masks.ensures.held).trigger in
    rw (c.masks.ensures.is, c.values.ensures.is)
    record { paired = f.values; few = f.few; masks_fit = f.masks_fit }
