-- An AND-OR system over pairs: pair p owes each obligation o that is due of it, and a pair q may meet it.
use Rattle.std.specs.Prelude.{ℕ, not, ◌&&◌, ◌||◌}
use Rattle.simulation.specs.Sets.{Set, union, any_below, all_below, shrunk, grown, down}

-- pairs are the numbers below `pairs`, obligations those below `duties`
pub record System : Type 0 where
  pub pairs : ℕ
  pub duties : ℕ
  pub admitted : Set
  pub due : ℕ → Set
  pub meets : ℕ → ℕ → Set

-- each obligation that is due of p is met by a pair of X
unfoldable pub supported : System → Set → Set
supported s X p = all_below s.duties (λ o. not (s.due p o) || any_below s.pairs (λ q. s.meets p o q && X q))

-- level 0 holds the admitted pairs, the next level those pairs of a level that it supports
unfoldable pub level : System → ℕ → Set
level s k = down s.pairs (supported s) s.admitted k

unfoldable pub greatest : System → Set
greatest s = shrunk s.pairs (supported s) s.admitted

-- the greatest X within the tentative T whose pairs are supported by the settled S and X together
unfoldable pub refined : System → Set → Set → Set
refined s S T = shrunk s.pairs (λ X. supported s (union S X)) T

-- p has a due obligation that a pair of X may meet
unfoldable pub reaches : System → Set → Set
reaches s X p = any_below s.duties (λ o. s.due p o && any_below s.pairs (λ q. s.meets p o q && X q))

-- the least set in the domain that has the seeds and each pair that reaches it
unfoldable pub closure : System → Set → Set → Set
closure s domain seeds = grown s.pairs (λ X p. domain p && (seeds p || reaches s X p))
