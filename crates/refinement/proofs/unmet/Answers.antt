-- `unmet` meets its contract: the links of the word, those below the number of states, searched for.
use Rattle.bits.proofs.Words.{and-members}
use Rattle.refinement.specs.Refining.{carried}
use Rattle.simulation.specs.Sets.{Set}
use mathlib.Core.Bool.{Bool, not, ◌&&◌}
use mathlib.Core.Path.{ap, ap₂, fun_ext, ◌∙◌}
use Rattle.refinement.proofs.unmet.Goals as goal

pub returns : goal.returns
returns c =
    let a = c.args in
    let linked = c.linked in
    let below = c.below in
    fun_ext
    (λ o.
    c.missing.ensures o
    ∙ ap (λ (b : Bool). b && not (carried a.edges.now a.settled.now a.tentative.now o))
    (and-members linked.result below.result o ∙ ap₂ (λ (X Y : Set). X o && Y o) linked.ensures below.ensures.1))
