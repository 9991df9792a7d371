-- `links_wrong` meets its contract: the links are tested together.
use borrow.Author.Rules.{rules}
use mathlib.Core.Path.{ap, ◌∙◌}
use mathlib.Core.Bool.{not}
use Rattle.bits.specs.Word.{within, set_bits}
use Rattle.bits.proofs.Gathers.{gathered_below}
use Rattle.session.specs.Layout.{below}
use Rattle.load_rules.proofs.links_wrong.Goals as goal

pub returns : goal.returns
unfolding below
returns c =
    let all = c.gathered in
    ap not
    (c.subset.ensures
    ∙ ap (within set_bits all.result) c.below.ensures.0
    ∙ gathered_below all.result c.args.links.now all.ensures set_bits c.args.states (search rules))
