-- `order_wrong` meets its contract: each edge so far comes before the next.
use Prim.Native.Nat.{ℕ, suc, ◌-◌, ◌≤◌}
use mathlib.Core.Path.{◌≡◌}
use mathlib.Core.List.{List}
use lib.ListN.{length, get_or}
use Rattle.simulation.specs.Sets.{Set, all_below}
use Rattle.promises.specs.Rules.{precedes}
use Rattle.load_rules.proofs.order_wrong.Given as goal

-- the edge j comes before the next
abbrev pub rises : List ℕ → List ℕ → Set
rises starts ends j = precedes (get_or starts j 0) (get_or ends j 0) (get_or starts (suc j) 0) (get_or ends (suc j) 0)

abbrev pub invariant-loop-k : goal.invariant-loop-k
invariant-loop-k l =
    (l.k - 1 ≤ length l.starts - 1) × (l.ascend ≡ all_below (l.k - 1) (rises l.starts l.ends))
