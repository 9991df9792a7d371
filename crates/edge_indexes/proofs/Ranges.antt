-- The range of a node's edges.
use Prim.Native.Nat.{ℕ, ◌+◌, ◌-◌}
use mathlib.Core.Path.{◌≡◌, refl}
use mathlib.Core.List.{List}
use lib.ListN.{take, drop}
use Rattle.simulation.specs.Ordered.{from}
use Rattle.session.specs.Limits.{max_nodes}
use Rattle.edge_indexes.specs.Indexes.{edges_from}

-- the edges of v, by the two ends of their range
pub range_from : (es : List ℕ) (v low high : ℕ) → low ≡ from max_nodes es v → high ≡ from max_nodes es (v + 1) → take (high - low) (drop low es) ≡ edges_from es v
unfolding edges_from
range_from es v low high low-is high_is = rw (low-is, high_is) refl
