-- The depth-first walk as the code has it.
use Rattle.std.specs.Prelude.{ℕ, ◌+◌, ◌<◌, ◌≤◌, ◌≡◌, false, not, cond, List, [], ◌∷◌, ◌++◌, map, length}
use Rattle.simulation.specs.Sets.{also, count}
use Rattle.simulation.specs.Ordered.{elem}
use Rattle.bits.specs.Word.{members}
use Rattle.session.specs.Reached.{linked_by}
use Rattle.session.specs.Layout.{section}
use Rattle.listing.specs.Order.{fold, visit}
use Rattle.walk_order.specs.declared.Walk.{Walk}
use Rattle.session.specs.Limits.{max_states}

-- the walk holds this list of indices: their set, their numbers with zeros after them, and how many they are
pub record WalkOf (xs : List ℕ) (w : Walk) : Type 0 where
  pub seen : members w.visited ≡ (λ u. elem u xs)
  pub numbers : w.states ≡ section max_states (map (λ u. u + 1) xs)
  pub long : w.len ≡ length xs

-- as many are written as were visited of the states below n
abbrev pub Counted : ℕ → Walk → Type 0
Counted n w = w.len ≡ count n (members w.visited)

-- how many of the states below n are not yet visited: the number that falls with each visit inside a visit
abbrev pub unvisited : ℕ → Walk → ℕ
unvisited n w = count n (λ u. not (members w.visited u))

-- one state more
pub record Written (state : ℕ) (w w' : Walk) : Type 0 where
  pub seen : members w'.visited ≡ also (members w.visited) state
  pub long : w'.len ≡ w.len + 1
  pub holds : (xs : List ℕ) → WalkOf xs w → WalkOf (xs ++ (state ∷ [])) w'

-- a state of n that the walk can visit
pub record Ready (n state : ℕ) (w : Walk) : Type 0 where
  pub inside : state < n
  pub few : n ≤ max_states
  pub unseen : members w.visited state ≡ false
  pub counted : Counted n w

-- the visit: the same for each depth that is enough
pub record Visited (links : List ℕ) (state : ℕ) (w w' : Walk) : Type 0 where
  pub counted : Counted (length links) w'
  pub longer : w.len < w'.len
  pub holds : (xs : List ℕ) (depth : ℕ) → WalkOf xs w → length links ≤ depth + length xs
      → WalkOf (visit (linked_by links) depth state xs) w'

-- each state below n that is not written, in turn
abbrev pub rest : ℕ → List ℕ → List ℕ
rest n xs = fold n (λ u ys. cond (elem u ys) ys (ys ++ (u ∷ []))) xs
