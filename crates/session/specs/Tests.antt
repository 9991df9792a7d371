-- What the parts of the layout test compute: the inner contracts cite these.
use Rattle.std.specs.Prelude.{ℕ, ◌+◌, ◌-◌, ◌^◌, ◌/◌, ◌%◌, Bool, not, ◌&&◌, ◌||◌, cond, List, ltb, length, get_or}
use Rattle.simulation.specs.Sets.{Set, all_below}
use Rattle.simulation.specs.Ordered.{ascends}
use Rattle.bits.specs.Word.{members, half_bits}
use Rattle.session.specs.Limits.{max_states, max_nodes, max_edges, word_bits, inverted_at, masks_at, values_at, links_at, samples_at, edges_at, marks_at}
use Rattle.session.specs.Trigger.{accepts}
use Rattle.session.specs.Layout.{table, part, below}

-- a section: the words before `used` are below 2 ^ k, and those from it on are zero
unfoldable pub fits : ℕ → ℕ → List ℕ → Bool
fits k used xs = all_below (length xs) (λ i. ltb (get_or xs i 0) (cond (ltb i used) (2 ^ k) 1))

-- each edge joins two of this many nodes
unfoldable pub all_named : ℕ → List ℕ → Bool
all_named nodes es = all_below (length es) (λ k. ltb (get_or es k 0 / max_nodes) nodes && ltb (get_or es k 0 % max_nodes) nodes)

-- of each word the half that begins at the bit `from`
abbrev pub halves : ℕ → List ℕ → List ℕ
halves from xs = table (length xs) (λ i. get_or xs i 0 / 2 ^ from % 2 ^ half_bits)

-- no mark of the state u is at a sample that fails the test
unfoldable pub sparse : List ℕ → List ℕ → Set → ℕ → Bool
sparse samples marks test u = all_below (length marks) (λ v. not (members (get_or marks v 0) u) || test (get_or samples v 0))

-- the layout test of a memory that is long enough, with n states, m nodes and e edges: each section, then what it says of the others
unfoldable pub trigger_test : List ℕ → ℕ → Bool
trigger_test xs n =
    fits word_bits n (part xs masks_at max_states)
    && (fits word_bits n (part xs values_at max_states) && (fits n n (part xs links_at max_states) && ltb (get_or xs inverted_at 0) (2 ^ n)))

unfoldable pub graph_test : List ℕ → ℕ → ℕ → Bool
graph_test xs m e =
    fits word_bits m (part xs samples_at max_nodes)
    && (below 1 (part xs (edges_at + e) (max_edges - e)) && (ascends (part xs edges_at e) && all_named m (part xs edges_at e)))

unfoldable pub marks_test : List ℕ → ℕ → ℕ → Bool
marks_test xs n m =
    fits n m (part xs marks_at max_nodes)
    && all_below n
    (λ u.
    sparse (part xs samples_at m) (part xs marks_at m)
    (accepts word_bits (members (get_or xs inverted_at 0) u) (get_or (part xs masks_at n) u 0) (get_or (part xs values_at n) u 0)) u)
