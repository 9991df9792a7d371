-- The edges of a node, and the two indexes by which they are found: of those that end at it, and of those that start there.
use Rattle.std.specs.Prelude.{ℕ, zero, suc, ◌+◌, ◌-◌, ◌/◌, ◌%◌, ◌<◌, ◌≡◌, ◌&&◌, cond, List, eqb, length, get_or, take, drop}
use Rattle.simulation.specs.Sets.{Set, any_below}
use Rattle.simulation.specs.Ordered.{from}
use Rattle.session.specs.Limits.{max_nodes, max_edges}

-- the edges from v
unfoldable pub edges_from : List ℕ → ℕ → List ℕ
edges_from es v = take (from max_nodes es (v + 1) - from max_nodes es v) (drop (from max_nodes es v) es)

-- ---- the index of incoming edges

-- one more than the last index below n at which P holds; 0 where there is none
unfoldable pub last : Set → ℕ → ℕ
last P zero = 0
last P (suc n) = cond (P n) (suc n) (last P n)

abbrev pub ends_at : List ℕ → ℕ → Set
ends_at es v k = eqb (get_or es k 0 % max_nodes) v

-- a head for each node, the last edge that ends there; for each edge the one before it that ends at the same node
pub record Indexed (es heads nexts : List ℕ) : Type 0 where
  pub heads_long : length heads ≡ max_nodes
  pub nexts_long : length nexts ≡ max_edges
  pub head : (v : ℕ) → v < max_nodes → get_or heads v 0 ≡ last (ends_at es v) (length es)
  pub next : (k : ℕ) → k < length es → get_or nexts k 0 ≡ last (ends_at es (get_or es k 0 % max_nodes)) k

-- the predecessors of v: each w with an edge to v
unfoldable pub predecessors : List ℕ → ℕ → Set
predecessors es v w = any_below (length es) (λ k. ends_at es v k && eqb (get_or es k 0 / max_nodes) w)

-- ---- the index of outgoing edges

abbrev pub starts_at : List ℕ → ℕ → Set
starts_at es v k = eqb (get_or es k 0 / max_nodes) v

-- a place before all nodes, and one after each
abbrev pub starts_size : ℕ
starts_size = max_nodes + 1

-- after each node one more than its last edge, and 0 where it has none
pub record Noted (es firsts : List ℕ) : Type 0 where
  pub long : length firsts ≡ starts_size
  pub none : get_or firsts 0 0 ≡ 0
  pub noted : (v : ℕ) → v < max_nodes → get_or firsts (v + 1) 0 ≡ last (starts_at es v) (length es)

-- the entry at v, and where it is 0 the one before it that is not
unfoldable pub filled : List ℕ → ℕ → ℕ
filled xs zero = get_or xs 0 0
filled xs (suc v) = cond (eqb (get_or xs (suc v) 0) 0) (filled xs v) (get_or xs (suc v) 0)

-- for each node the place of its first edge, and after the last node the number of edges
pub record Started (es firsts : List ℕ) : Type 0 where
  pub long : length firsts ≡ starts_size
  pub first : (v : ℕ) → v < suc max_nodes → get_or firsts v 0 ≡ from max_nodes es v
