-- `all_sparse` meets its contract: whether the marks of the states below u are admitted.
use Prim.Native.Nat.{ℕ}
use mathlib.Core.Path.{◌≡◌}
use mathlib.Core.List.{List}
use lib.ListN.{get_or}
use Rattle.simulation.specs.Sets.{Set, all_below}
use Rattle.bits.specs.Word.{members}
use Rattle.session.specs.Limits.{word_bits}
use Rattle.session.specs.Trigger.{matches}
use Rattle.session.specs.Tests.{sparse}
use Rattle.section_tests.proofs.all_sparse.Given as goal

-- the marks of the state u are admitted
abbrev pub admitted : List ℕ → List ℕ → ℕ → List ℕ → List ℕ → Set
admitted masks values turned samples marks u =
    sparse samples marks (matches word_bits (members turned u) (get_or masks u 0) (get_or values u 0)) u

abbrev pub invariant-loop-u : goal.invariant-loop-u
invariant-loop-u l =
    l.all ≡ all_below l.u (admitted l.patterns.masks.now l.patterns.values.now l.turned l.samples l.marks)
