-- `try_at` meets its contract: the node gains states and waits, or has them all.
use borrow.Author.Rules.{rules}
use mathlib.Core.Path.{sym, ◌∙◌}
use Rattle.growth.proofs.Spreading.{tried-more, tried-none}
use Rattle.growth.proofs.try_at.Goals as goal

pub returns-then-wider-word : goal.returns-then-wider-word
returns-then-wider-word c =
    let p = c.put_in in
    tried-more c.args.trials.now c.args.waiting.now c.args.node c.args.more c.united-wider.result c.united-wider.ensures
    (search rules) (p.ensures.0 ∙ sym c.requires.1) c.if-wider-word.true p.ensures.1

pub returns-else-wider-word : goal.returns-else-wider-word
returns-else-wider-word c =
    tried-none c.args.trials.now c.args.waiting.now c.args.node c.args.more c.united-wider.result c.united-wider.ensures c.if-wider-word.false
