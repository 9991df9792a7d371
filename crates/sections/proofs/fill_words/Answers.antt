-- `fill_words` meets its contract: the source is copied to the front, and the places after it are zero.
use mathlib.Core.Path.{refl}
use Rattle.sections.proofs.Fills.{fill_parts}
use Rattle.sections.proofs.fill_words.Goals as goal

pub returns : goal.returns
returns c =
    fill_parts c.args.place.now c.args.source.now c.copy_from_slice.new.self c.fill.new.self _ _ refl c.requires
    c.copy_from_slice.ensures.after refl (c.fill.ensures.after (λ y e. e))
