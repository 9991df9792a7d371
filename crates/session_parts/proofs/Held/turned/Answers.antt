-- The states turned round by the masks and the inverted states of the session.
use native.Mathlib.Omega.{arith}
use Rattle.session.proofs.Decoded.{layout-facts}
use Rattle.session_parts.proofs.Held.turned.Goals as goal

pub turned_states-requires : goal.turned_states-requires
turned_states-requires c =
    rw c.masks.ensures.is (omega (arith, (layout-facts c.args.self.now c.masks.ensures.held).trigger.few))
