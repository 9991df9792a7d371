-- The change list as the code writes it: node by node, into a room.
use Rattle.std.specs.Prelude.{ℕ, ◌+◌, ◌*◌, ◌/◌, ◌%◌, ◌≡◌, List, ◌++◌, ℤ, length, take, drop}
use Rattle.bits.specs.Word.{members}
use Rattle.pair_tables.specs.Tables.{marked}
use Rattle.listing.specs.Changes.{size_of, change, join_to}

-- the changes of the node v, of n states, from the word b to the word a; and those of m nodes, from table to table
unfoldable pub node_changes : ℕ → ℕ → ℕ → ℕ → List ℤ
node_changes v n b a = join_to n (λ u. change (members b u) (members a u) (size_of u v))

unfoldable pub table_changes : ℕ → ℕ → List ℕ → List ℕ → List ℤ
table_changes n m bs cs =
    join_to (m * n) (λ p. change (marked bs (p % n) (p / n)) (marked cs (p % n) (p / n)) (size_of (p % n) (p / n)))

-- the list is put into the room from the place `at` on, and `next` is the place after it
pub record Placed {A : Type 0} (room : List A) (at : ℕ) (list room' : List A) (next : ℕ) : Type 0 where
  pub written : room' ≡ take at room ++ (list ++ drop (at + length list) room)
  pub past : next ≡ at + length list
