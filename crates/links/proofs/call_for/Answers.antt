use Rattle.bits.specs.Word.{members}
use Rattle.links.proofs.CallerTables.{calling_next}
use Rattle.simulation.specs.Sets.{without}
use mathlib.Core.Path.{◌≡◌}
use native.Mathlib.Omega.{arith}
use Rattle.links.proofs.call_for.Goals as goal
use Rattle.links.proofs.call_for.Goals.{After-without_lowest-rest}

-- the lowest target of the rest is taken out
gone : (c : After-without_lowest-rest)
    → members c.without_lowest-rest.result ≡ without (members c.loop-rest.rest) c.lowest-o.result
gone c = let low = c.lowest-o in c.without_lowest-rest.ensures low.result low.ensures.1 low.ensures.2

pub loop-rest-preserved : goal.loop-rest-preserved
loop-rest-preserved c =
    let a = c.args in
    let low = c.lowest-o in
    calling_next a.callers.now a.targets a.u c.loop-rest.rest c.loop-rest.callers c.loop-rest.invariant low.result c.added.result c.without_lowest-rest.result
    (omega (arith, low.ensures.0, c.loop-rest.invariant.long, c.requires.0)) low.ensures.1 c.added.ensures (gone c)
