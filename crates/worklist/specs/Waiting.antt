-- The nodes that must be looked at again, a bit for each.
use Rattle.std.specs.Prelude.{ℕ, ◌/◌, ◌%◌, ◌<◌, ◌≡◌, List, get_or, Option, MatchOption}
use Rattle.simulation.specs.Sets.{Set}
use Rattle.simulation.specs.Search.{first}
use Rattle.bits.specs.Word.{members, set_bits}
use Rattle.session.specs.Limits.{max_nodes}

abbrev pub waiting_words : ℕ
waiting_words = max_nodes / set_bits

abbrev pub waits : List ℕ → Set
waits ws v = members (get_or ws (v / set_bits) 0) (v % set_bits)

-- the lowest node that waits, and the number of nodes where none does
abbrev pub lowest_waiting : List ℕ → ℕ
lowest_waiting ws = first (waits ws) 0 max_nodes

-- that node, if there is one
abbrev pub IsLowest : List ℕ → Option ℕ → Type 0
IsLowest ws r = MatchOption r (lowest_waiting ws ≡ max_nodes) (λ v. (v < max_nodes) × (v ≡ lowest_waiting ws))
