-- 02, Job 6, "has the marks it had": what stands is read back from a memory with k places for the states as from a session, and each word of it is the same.
use Prim.Native.Nat.{ℕ, ◌≤◌}
use Rattle.session.specs.Limits.{max_nodes}
use Rattle.session.specs.Trigger.{Trigger, Graph, nodes}
use Rattle.session.specs.Former.{former_states, MarksAsHeld}
use Rattle.session.proofs.Widths.{marks_as_held}
use Rattle.promises.specs.Standing.{stands}
use Rattle.promises.proofs.Stands.{stands-inside}

pub stands_as_held : (k : ℕ) (t : Trigger) (g : Graph) → nodes g ≤ max_nodes → MarksAsHeld k t g (stands t g)
stands_as_held k t g few = marks_as_held k t g (stands t g) few (stands-inside t g)

-- of the sixteen places that sessions once had
pub older_stands : (t : Trigger) (g : Graph) → nodes g ≤ max_nodes → MarksAsHeld former_states t g (stands t g)
older_stands = stands_as_held former_states
