-- `put_together` meets its contract: each word is changed by what `bits::united` ensures.
use borrow.Author.Rules.{rules}
use mathlib.Core.Path.{refl}
use mathlib.Core.Bool.{◌||◌}
use Rattle.pair_tables.proofs.Tabling.{changed_words}
use Rattle.pair_tables.proofs.put_together.Goals as goal

pub returns : goal.returns
returns c =
    let a = c.args in
    changed_words (◌||◌) a.table.now a.other.now c.change_words.new.table refl c.requires (search rules) (λ v l. search rules)
