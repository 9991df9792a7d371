-- `put_turned` meets its contract: after v nodes these have the state where they admit it, and are counted.
use Prim.Native.Nat.{◌≤◌}
use mathlib.Core.Bool.{not}
use lib.Dec.{eqb}
use Rattle.pair_tables.proofs.Admitting.{Seen}
use Rattle.pair_tables.proofs.put_turned.Given as goal

abbrev pub invariant-loop-v : goal.invariant-loop-v
invariant-loop-v g l =
    (l.count ≤ l.v) × Seen l.samples (not (eqb g.row.TURNED 0)) l.mask l.value l.u l.initial.table l.v l.count l.table
