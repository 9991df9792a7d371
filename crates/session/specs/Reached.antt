-- 02, Job 5: the states reached from State One. Firing asks for these, and the visit of the walk order writes these.
use Rattle.std.specs.Prelude.{ℕ, ◌<◌, ◌≡◌, true, ◌&&◌, ◌||◌, List, eqb}
use Rattle.simulation.specs.Sets.{Set, any_below, grown}
use Rattle.session.specs.Trigger.{Trigger, states, linked}

-- "states reached from State One, itself included": a chain of links, of any length, leads there
pub data Reached (t : Trigger) : ℕ → Type 0 where
  one : 0 < states t → Reached t 0
  link : {u : ℕ} (u' : ℕ) → Reached t u → u' < states t → linked t u u' ≡ true → Reached t u'

-- the set of them, computed. That it has just the states with a chain is proved in proofs/Reached.
unfoldable pub reached : Trigger → Set
reached t = grown (states t) (λ X u'. eqb u' 0 || any_below (states t) (λ u. linked t u u' && X u))

-- a trigger with these links: what is reached, and the walk order, depend on nothing else
abbrev pub linked_by : List ℕ → Trigger
linked_by links = record { masks = links; values = links; links = links; inverted = 0 }
