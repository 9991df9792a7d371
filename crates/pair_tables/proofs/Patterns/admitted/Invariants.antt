-- `admitted` meets its contract: after u states the table has the admitted pairs of these.
use Prim.Native.Nat.{◌*◌, ◌≤◌}
use Rattle.session.specs.Limits.{max_nodes}
use Rattle.pair_tables.proofs.Admitting.{Filled}
use Rattle.pair_tables.proofs.Patterns.admitted.Given as goal

abbrev pub invariant-loop-u : goal.invariant-loop-u
invariant-loop-u l =
    (l.count ≤ l.u * max_nodes) × Filled l.self.masks.now l.self.values.now l.turned l.samples l.u l.count l.table
