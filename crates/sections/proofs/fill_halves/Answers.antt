-- `fill_halves` meets its contract: the numbers are the words of the source.
use borrow.Author.Rules.{rules}
use mathlib.Core.Path.{refl}
use lib.ListN.{length}
use Rattle.sections.proofs.Fills.{section_filled}
use Rattle.sections.proofs.fill_halves.Goals as goal

pub returns : goal.returns
returns c =
    let a = c.args in
    section_filled (length a.place.now) (length a.source.now) a.source.now c.fill_by.new.place c.fill_by.auto.place refl
    (λ i l. let h = c.fill_by.ensures.front i l in search rules) c.fill_by.ensures.rest
