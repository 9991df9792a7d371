-- By the table the members of the word alone tell, which is the same.
use borrow.Author.Rules.{rules}
use mathlib.Core.Path.{◌∙◌}
use Rattle.bits.specs.Word.{set_bits}
use Rattle.links.specs.Links.{Callers}
use Rattle.links.proofs.CallerTables.{callers_linked}
use Rattle.links.proofs.calling.Goals as goal

pub returns-in-Some : goal.returns-in-Some
returns-in-Some c =
    let table = c.in-Some.table.now in
    let called : Callers c.args.links.now table = search rules in
    c.linked.ensures ∙ callers_linked set_bits c.args.links.now table called c.args.word
