use mathlib.Core.Bool.{◌&&◌}
use mathlib.Core.Path.{◌≡◌, ap, ◌∙◌}
use Rattle.simulation.specs.Sets.{Set, without}
use Rattle.bits.specs.Word.{members, set_bits}
use Rattle.bits.proofs.Words.{and-members}
use Rattle.links.proofs.LinkSets.{thinned_start}
use Rattle.links.proofs.unlinked.Goals as goal
use Rattle.links.proofs.unlinked.Goals.{After-without_lowest-rest, then-meet, else-meet}

-- the lowest state of the rest is taken out
gone : (c : After-without_lowest-rest) → members c.without_lowest-rest.result ≡ without (members c.loop-rest.rest) c.lowest-u.result
gone c = let low = c.lowest-u in c.without_lowest-rest.ensures low.result low.ensures.1 low.ensures.2

pub loop-rest-init : goal.loop-rest-init
loop-rest-init c =
    let a = c.args in
    thinned_start set_bits a.links.now a.word a.others _
    (λ u. and-members a.word c.below.result u ∙ ap (λ (X : Set). members a.word u && X u) c.below.ensures.1)
