-- `take_away` meets its contract: each word is changed by what `bits::difference` ensures.
use borrow.Author.Rules.{rules}
use mathlib.Core.Path.{refl}
use mathlib.Core.Bool.{not, ◌&&◌}
use Rattle.pair_tables.proofs.Tabling.{changed_words}
use Rattle.pair_tables.proofs.take_away.Goals as goal

pub returns : goal.returns
returns c =
    let a = c.args in
    changed_words (λ a b. a && not b) a.table.now a.other.now c.change_words.new.table refl c.requires (search rules) (λ v l. search rules)
