-- What firing was before a request changed it. Only the theorems that compare the two read this.
use Rattle.std.specs.Prelude.{Bool}
use Rattle.simulation.specs.Sets.{all_below, any_below}
use Rattle.session.specs.Trigger.{Trigger, Graph, Marks, states, nodes}

-- before 02, Job 5: "The trigger fires when every state stands at some node", reached or not
unfoldable pub fired_formerly : Trigger → Graph → Marks → Bool
fired_formerly t g m = all_below (states t) (λ u. any_below (nodes g) (m u))
