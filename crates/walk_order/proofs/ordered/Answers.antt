-- `ordered` meets its contract.
use Rattle.walk_order.proofs.Walks.{start-ready, order-held}
use Rattle.walk_order.proofs.ordered.Goals as goal

pub visit-requires : goal.visit-requires
visit-requires c =
    start-ready _ c.requires.0 c.requires.1

pub returns : goal.returns
returns c =
    order-held _ _ _ c.visit.ensures c.follow.ensures
