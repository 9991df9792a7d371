use Rattle.bits.proofs.Words.{and-members}
use Rattle.bits.specs.Word.{members}
use Rattle.links.proofs.LinkSets.{linking-start, linking-next, linking-done}
use Rattle.simulation.specs.Sets.{Set, without}
use mathlib.Core.Bool.{◌&&◌}
use mathlib.Core.Path.{◌≡◌, ap, ◌∙◌}
use Rattle.links.proofs.linked.Goals as goal
use Rattle.links.proofs.linked.Goals.{After-without_lowest-rest}

-- the lowest state of the rest is taken out
gone : (c : After-without_lowest-rest) → members c.without_lowest-rest.result ≡ without (members c.loop-rest.rest) c.lowest-u.result
gone c = let low = c.lowest-u in c.without_lowest-rest.ensures low.result low.ensures.1 low.ensures.2

pub loop-rest-init : goal.loop-rest-init
loop-rest-init c =
    let a = c.args in
    linking-start a.links.now a.word _
    (λ u. and-members a.word c.below.result u ∙ ap (λ (X : Set). members a.word u && X u) c.below.ensures.1)

pub loop-rest-preserved : goal.loop-rest-preserved
loop-rest-preserved c =
    let a = c.args in
    linking-next a.links.now a.word c.loop-rest.all c.loop-rest.rest c.loop-rest.invariant c.lowest-u.result c.without_lowest-rest.result c.lowest-u.ensures.1 (gone c)

pub returns : goal.returns
returns c =
    let a = c.args in
    linking-done a.links.now a.word c.loop-rest.all c.loop-rest.rest c.loop-rest.invariant c.loop-rest-test.false
