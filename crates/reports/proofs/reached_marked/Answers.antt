-- Every state is gathered, or State One is not, or the reached ones are.
use mathlib.Core.Path.{sym, ◌∙◌}
use Rattle.reports.proofs.Fired.{fired-all, fired-none, fired-reached}
use Rattle.reports.proofs.reached_marked.Goals as goal

pub returns-then-subset : goal.returns-then-subset
returns-then-subset c =
    fired-all c.args.links.now c.gathered-marked.result _ c.gathered-marked.ensures c.below.result c.requires.1 c.below.ensures.1 (sym c.subset.ensures ∙ c.if-subset.true)

pub returns-then-not-has : goal.returns-then-not-has
returns-then-not-has c =
    fired-none c.args.links.now c.gathered-marked.result _ c.gathered-marked.ensures c.requires.0 (sym c.has.ensures ∙ c.if-not-has.true)

pub returns : goal.returns
returns c =
    c.subset-2.ensures ∙ fired-reached c.args.links.now c.gathered-marked.result _ c.gathered-marked.ensures c.reached.result c.requires.1 c.reached.ensures
