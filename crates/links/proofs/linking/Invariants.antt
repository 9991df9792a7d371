-- `linking` meets its contract: before state u the states below it are those with a link to a state of the word.
use Rattle.bits.specs.Word.{members, set_bits}
use Rattle.links.proofs.LinkSets.{linked_to}
use mathlib.Core.Path.{◌≡◌}
use Rattle.links.proofs.linking.Given as goal

abbrev pub invariant-loop-u : goal.invariant-loop-u
invariant-loop-u l =
    members l.all ≡ linked_to set_bits l.links l.word l.u
