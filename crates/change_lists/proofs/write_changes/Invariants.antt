-- `write_changes` meets its contract: tables that agree have no changes, and after v nodes the changes of these are written, at most one a state for each.
use Prim.Native.Nat.{◌*◌, ◌≤◌}
use mathlib.Core.Path.{◌≡◌}
use lib.ListN.{length}
use Rattle.listing.specs.Placed.{table_changes, Placed}
use Rattle.session.specs.Limits.{max_states}
use Rattle.change_lists.proofs.write_changes.Given as goal

abbrev pub invariant-loop-v : goal.invariant-loop-v
invariant-loop-v l =
    (l.next ≤ l.v * max_states) × (length l.changes ≡ length l.initial.changes) × Placed l.initial.changes 0 (table_changes l.states l.v l.before l.after) l.changes l.next
