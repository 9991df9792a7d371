-- What the steps of an edit leave, on a session that holds a trigger t, a graph g with the edge put in or taken out already, and marks m.
use Rattle.std.specs.Prelude.{ℕ, ◌*◌, ◌/◌, ◌%◌, ◌<◌, ◌≡◌, Bool, true, false, not, ◌&&◌, ◌||◌, List, [], ◌∷◌, Option, Some, None, ltb, length, get_or}
use Rattle.simulation.specs.Sets.{Set, In, none, union, all_below, any_below, count}
use Rattle.simulation.specs.System.{supported, refined}
use Rattle.simulation.specs.Pattern.{pair, system}
use Rattle.session.specs.Limits.{max_nodes, max_changes, fixed_size}
use Rattle.session.specs.Trigger.{Marks, states, nodes, linked, admits, pattern}
use Rattle.session.specs.Layout.{trigger_of, graph_of, marks_of, in_layout}
use Rattle.bits.specs.Word.{members, set_bits}
use Rattle.pair_tables.specs.Tables.{marked}
use Rattle.edge_indexes.specs.Indexes.{ends_at}
use Rattle.promises.specs.Standing.{pairs_of, fresh, trial_set}
use Rattle.promises.specs.Rules.{Rule, rule, Kind, insertion, deletion}
use Rattle.session_parts.specs.Inside.{Inside}

-- a table holds exactly the pairs of X
pub record Holds (xs : List ℕ) (X : Set) (ts : List ℕ) : Type 0 where
  pub long : length ts ≡ max_nodes
  pub inside : Inside xs ts
  pub pairs : (p : ℕ) → p < nodes (graph_of xs) * states (trigger_of xs) → pairs_of (trigger_of xs) (graph_of xs) (marked ts) p ≡ X p

-- the marks that are held, and the pairs that are admitted and not marked
abbrev pub marked_pairs : List ℕ → Set
marked_pairs xs = pairs_of (trigger_of xs) (graph_of xs) (marks_of xs)

abbrev pub fresh_pairs : List ℕ → Set
fresh_pairs xs = pairs_of (trigger_of xs) (graph_of xs) (fresh (trigger_of xs) (graph_of xs) (marks_of xs))

-- the states that begin the trial set: fresh at a, with a link to a state that admits b
unfoldable pub seeds_of : List ℕ → ℕ → ℕ → Set
seeds_of xs a b u =
    let t = trigger_of xs in
    let g = graph_of xs in
    ltb u (states t) && (fresh t g (marks_of xs) u a && any_below (states t) (λ u'. linked t u u' && admits t g u' b))

-- a state of the word w is fresh at the node v
abbrev pub fresh_among : List ℕ → ℕ → ℕ → Bool
fresh_among xs w v = any_below set_bits (λ u. members w u && (ltb u (states (trigger_of xs)) && fresh (trigger_of xs) (graph_of xs) (marks_of xs) u v))

-- none is at a node with an edge to a
unfoldable pub alone_at : List ℕ → ℕ → ℕ → Bool
alone_at xs a w =
    let es = (graph_of xs).edges in
    all_below (length es) (λ k. not (ends_at es a k) || not (fresh_among xs w (get_or es k 0 / max_nodes)))

-- what trying leaves: of the trial set of (a, b), which some table holds, the pairs that begin to stand, and the number of all that were tried
pub record Begun (xs : List ℕ) (a b : ℕ) (ts : List ℕ) (n : ℕ) : Type 0 where
  pub trials : List ℕ
  pub tried : Holds xs (trial_set (trigger_of xs) (graph_of xs) (marks_of xs) a b) trials
  pub left : Holds xs (refined (system (pattern (trigger_of xs) (graph_of xs))) (marked_pairs xs) (pairs_of (trigger_of xs) (graph_of xs) (marked trials))) ts
  pub counted : n ≡ count (get_or xs 1 0 * get_or xs 0 0) (λ p. marked trials (p % get_or xs 0 0) (p / get_or xs 0 0))

-- the pairs that Y supports
abbrev pub backed : List ℕ → Set → Set
backed xs Y = supported (system (pattern (trigger_of xs) (graph_of xs))) Y

-- each mark at the node v has its support in the marks
unfoldable pub steady_at : List ℕ → ℕ → Bool
steady_at xs v =
    all_below (states (trigger_of xs))
    (λ u. not (marks_of xs u v) || backed xs (marked_pairs xs) (pair (pattern (trigger_of xs) (graph_of xs)) u v))

-- what refinement from the node a leaves of the pairs m beside the pairs s: all of m refined, where only pairs at a may lack support
pub record RefinedAt (xs : List ℕ) (a : ℕ) (s m : Marks) (ts : List ℕ) : Type 0 where
  pub long : length ts ≡ max_nodes
  pub within : (u v : ℕ) → marked ts u v ≡ true → m u v ≡ true
  pub exact : ((p : ℕ) → In (pairs_of (trigger_of xs) (graph_of xs) m) p → (p / states (trigger_of xs) ≡ a → ⊥)
      → In (backed xs (union (pairs_of (trigger_of xs) (graph_of xs) s) (pairs_of (trigger_of xs) (graph_of xs) m))) p)
      → Holds xs (refined (system (pattern (trigger_of xs) (graph_of xs))) (pairs_of (trigger_of xs) (graph_of xs) s) (pairs_of (trigger_of xs) (graph_of xs) m)) ts

-- what is left of the marks by refinement from the node a: all that the marks hold refined, where only pairs at a may lack support
pub record Ceased (xs : List ℕ) (a : ℕ) (ts : List ℕ) : Type 0 where
  pub long : length ts ≡ max_nodes
  pub within : (u v : ℕ) → marked ts u v ≡ true → marks_of xs u v ≡ true
  pub exact : ((p : ℕ) → In (marked_pairs xs) p → (p / states (trigger_of xs) ≡ a → ⊥) → In (backed xs (marked_pairs xs)) p)
      → Holds xs (refined (system (pattern (trigger_of xs) (graph_of xs))) none (marked_pairs xs)) ts

-- the marks that were, for the report: an edit that does not leave them alone has put them into a table
pub record Saved (xs xs' bs : List ℕ) (calm : Bool) : Type 0 where
  pub same : calm ≡ true → marks_of xs' ≡ marks_of xs
  pub saved : calm ≡ false → marked bs ≡ marks_of xs

-- what an edit proper tells: how many pairs it tried where it corrected the marks, and nothing where it left them alone
abbrev pub tried : Option ℕ → ℕ
tried None = 0
tried (Some n) = n

abbrev pub calm : Option ℕ → Bool
calm None = true
calm (Some n) = false

-- the kind of an edit, as the code tells it
abbrev pub kind_of : Bool → Kind
kind_of true = insertion
kind_of false = deletion

-- the rules that both edits share, before those of their own
abbrev pub shared_rules : List ℕ → ℕ → ℕ → ℕ → List Rule
shared_rules xs room a b =
    rule 3 (ltb (length xs) fixed_size || ltb room max_changes)
    ∷ rule 10 (not (in_layout xs))
    ∷ rule 11 (not (ltb a (nodes (graph_of xs)) && ltb b (nodes (graph_of xs))))
    ∷ []
