-- `pairs_in` meets its contract: the pairs at the nodes so far are counted.
use Prim.Native.Nat.{◌*◌, ◌≤◌}
use mathlib.Core.Path.{◌≡◌}
use Rattle.pair_tables.proofs.Tabling.{pairs_to}
use Rattle.session.specs.Limits.{max_states}
use Rattle.pair_tables.proofs.pairs_in.Given as goal

abbrev pub invariant-loop-word : goal.invariant-loop-word
invariant-loop-word l =
    (l.count ≤ l.word-index * max_states) × (l.count ≡ pairs_to l.table l.states l.word-index)
