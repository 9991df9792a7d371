-- What a look at a node leaves, and what refinement leaves: tables of pairs beside those that are settled.
use Rattle.std.specs.Prelude.{ℕ, suc, ◌*◌, ◌/◌, ◌%◌, ◌<◌, ◌≡◌, Bool, true, false, not, ◌&&◌, ◌||◌, List, ltb, length, get_or}
use Rattle.simulation.specs.Sets.{Set, In, union, minus, without, any_below, all_below}
use Rattle.simulation.specs.Search.{first, found}
use Rattle.simulation.specs.Ordered.{ascends, joins}
use Rattle.simulation.specs.System.{supported, refined}
use Rattle.simulation.specs.Pattern.{Pattern, paired, system, plain}
use Rattle.bits.specs.Word.{members, set_bits}
use Rattle.session.specs.Limits.{max_states, max_nodes, max_edges}
use Rattle.pair_tables.specs.Tables.{marked}
use Rattle.links.specs.Links.{linked_from, links_to}
use Rattle.edge_indexes.specs.Indexes.{edges_from, predecessors}
use Rattle.worklist.specs.Waiting.{waits, waiting_words}

-- ---- support

-- a link to the state o has a carrier among these edges, by the marks of either table
unfoldable pub carried : List ℕ → List ℕ → List ℕ → ℕ → Bool
carried es ss ts o = found (λ k. marked ss o (get_or es k 0 % max_nodes) || marked ts o (get_or es k 0 % max_nodes)) 0 (length es)

-- each link of this set has one
unfoldable pub whole : ℕ → ℕ → List ℕ → List ℕ → List ℕ → Bool
whole n set es ss ts = all_below n (λ o. not (members set o) || carried es ss ts o)

-- the states of the word w that keep their support at a node with the edges es
abbrev pub kept_of : ℕ → List ℕ → List ℕ → List ℕ → List ℕ → Set
kept_of w links es ss ts u = members w u && (not (ltb u (length links)) || whole (length links) (get_or links u 0) es ss ts)

-- the states to which the word w has links, and to which no edge leads
abbrev pub unmet_of : ℕ → List ℕ → List ℕ → List ℕ → List ℕ → Set
unmet_of w links es ss ts o = (linked_from links w o && ltb o (length links)) && not (carried es ss ts o)

-- ---- refinement

-- ascending edges between nodes
pub record Sound (nodes : ℕ) (links es : List ℕ) : Type 0 where
  pub some_state : 0 < length links
  pub few_states : length links < suc max_states
  pub few_nodes : nodes < suc max_nodes
  pub few_edges : length es < suc max_edges
  pub ascend : ascends es ≡ true
  pub starts : (k : ℕ) → k < length es → get_or es k 0 / max_nodes < nodes
  pub ends : (k : ℕ) → k < length es → get_or es k 0 % max_nodes < nodes

-- one look at the node v: where states went, the predecessors wait that hold one with a link to such a state
pub record Turned (links es ss ts ws : List ℕ) (v : ℕ) (ts' ws' : List ℕ) : Type 0 where
  pub table_long : length ts' ≡ length ts
  pub waits_long : length ws' ≡ length ws
  pub others : (w : ℕ) → (w ≡ v → ⊥) → get_or ts' w 0 ≡ get_or ts w 0
  pub here : members (get_or ts' v 0) ≡ kept_of (get_or ts v 0) links (edges_from es v) ss ts
  pub gone : ℕ
  pub went : members gone ≡ minus (members (get_or ts v 0)) (members (get_or ts' v 0))
  pub waiting : waits ws' ≡ (λ w. without (waits ws) v w || (predecessors es v w && any_below set_bits (λ u. members (get_or ts' w 0) u && links_to links gone u)))

-- links and edges as a pattern, and a table as a set of its pairs
abbrev pub pattern_of : ℕ → List ℕ → List ℕ → Pattern
pattern_of nodes links es = plain (length links) nodes (λ u o. members (get_or links u 0) o) (λ u v. true) (joins max_nodes es)

abbrev pub tabled : ℕ → List ℕ → List ℕ → List ℕ → Set
tabled nodes links es ts = paired (pattern_of nodes links es) (marked ts)

-- how far refinement of the table ts₀ from the nodes of ws₀ has come, where v is the lowest node that waits: nothing that the refined set holds went, and
-- what does not wait is supported, where it was so at first
pub record Refining (nodes : ℕ) (links es ss ts₀ ws₀ ts ws : List ℕ) (v : ℕ) : Type 0 where
  pub long : length ts ≡ max_nodes
  pub waits_long : length ws ≡ waiting_words
  pub lowest : v ≡ first (waits ws) 0 max_nodes
  pub within : (u w : ℕ) → marked ts u w ≡ true → marked ts₀ u w ≡ true
  pub refines : refined (system (pattern_of nodes links es)) (tabled nodes links es ss) (tabled nodes links es ts)
      ≡ refined (system (pattern_of nodes links es)) (tabled nodes links es ss) (tabled nodes links es ts₀)
  pub supports : ((p : ℕ) → p < nodes * length links → In (tabled nodes links es ts₀) p → waits ws₀ (p / length links) ≡ false
      → In (supported (system (pattern_of nodes links es)) (union (tabled nodes links es ss) (tabled nodes links es ts₀))) p)
      → (p : ℕ) → p < nodes * length links → In (tabled nodes links es ts) p → waits ws (p / length links) ≡ false
      → In (supported (system (pattern_of nodes links es)) (union (tabled nodes links es ss) (tabled nodes links es ts))) p

-- what refinement from the nodes that wait leaves of a table: between the refined set and what was given, and the refined set itself where
-- every pair at a node that does not wait was supported
pub record Settled (nodes : ℕ) (links es ss ts ws ts' : List ℕ) : Type 0 where
  pub long : length ts' ≡ length ts
  pub within : (u v : ℕ) → marked ts' u v ≡ true → marked ts u v ≡ true
  pub holds : (p : ℕ) → In (refined (system (pattern_of nodes links es)) (tabled nodes links es ss) (tabled nodes links es ts)) p
      → In (tabled nodes links es ts') p
  pub exact : ((p : ℕ) → p < nodes * length links → In (tabled nodes links es ts) p → waits ws (p / length links) ≡ false
      → In (supported (system (pattern_of nodes links es)) (union (tabled nodes links es ss) (tabled nodes links es ts))) p)
      → (p : ℕ) → p < nodes * length links
      → tabled nodes links es ts' p ≡ refined (system (pattern_of nodes links es)) (tabled nodes links es ss) (tabled nodes links es ts) p
