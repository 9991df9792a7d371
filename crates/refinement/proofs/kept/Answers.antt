-- `kept` meets its contract: the states with a link that is not met go, whichever way they are found.
use Rattle.bits.specs.Word.{members}
use Rattle.refinement.proofs.Support.{kept-without, kept_whole}
use Rattle.simulation.specs.Sets.{minus}
use mathlib.Core.Path.{ap, ◌∙◌}
use native.Mathlib.Omega.{arith}
use Rattle.refinement.proofs.kept.Goals as goal

pub returns-then-lacking-eq0 : goal.returns-then-lacking-eq0
returns-then-lacking-eq0 c =
    let a = c.args in
    kept_whole a.word a.links.now a.edges.now a.settled.now a.tentative.now c.unmet-lacking.result c.unmet-lacking.ensures
    (omega (arith, c.requires)) c.if-lacking-eq0.true

pub returns-then-several : goal.returns-then-several
returns-then-several c =
    let a = c.args in
    let found = c.unmet-lacking in
    c.difference.ensures
    ∙ ap (minus (members a.word)) c.linking.ensures
    ∙ kept-without a.word a.links.now a.edges.now a.settled.now a.tentative.now found.result found.ensures (omega (arith, c.requires))

pub returns : goal.returns
returns c =
    let a = c.args in
    let found = c.unmet-lacking in
    c.unlinked.ensures
    ∙ kept-without a.word a.links.now a.edges.now a.settled.now a.tentative.now found.result found.ensures (omega (arith, c.requires))
