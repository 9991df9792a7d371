-- What the laws speak of beside the definitions in specs/: simulations as relations, chains, one edge more and one less.
use Prim.Native.Nat.{ℕ, ◌<◌}
use mathlib.Core.Path.{◌≡◌}
use mathlib.Core.Bool.{Bool, true, not, ◌&&◌, ◌||◌}
use lib.Dec.{eqb}
use Rattle.simulation.specs.Sets.{Set, In, minus}
use Rattle.simulation.specs.System.{System, greatest, reaches}
use Rattle.simulation.specs.Pattern.{Pattern}

-- a simulation, as any relation: a decidable one is `In X`
pub record Simulation (s : System) (R : ℕ → Type 0) : Type 0 where
  pub inside : (p : ℕ) → R p → p < s.pairs
  pub admits : (p : ℕ) → R p → In s.admitted p
  pub carries : (p o : ℕ) → R p → o < s.duties → In (s.due p) o → (q : ℕ) × (q < s.pairs) × In (s.meets p o) q × R q

-- a chain of pairs of the domain, each of which may be met by the next, down to a seed
pub data Chain (s : System) (domain seeds : Set) : ℕ → Type 0 where
  seed : {p : ℕ} → p < s.pairs → In domain p → In seeds p → Chain s domain seeds p
  step : {p : ℕ} (o q : ℕ) → p < s.pairs → In domain p → o < s.duties → In (s.due p) o → In (s.meets p o) q → Chain s domain seeds q → Chain s domain seeds p

-- the same system with other pairs to meet its obligations
abbrev pub meeting : System → (ℕ → ℕ → Set) → System
meeting s m = record { pairs = s.pairs; duties = s.duties; admitted = s.admitted; due = s.due; meets = m }

-- p has a due obligation that a pair of X meets by `more` and not by `less`
unfoldable pub touched : System → (ℕ → ℕ → Set) → (ℕ → ℕ → Set) → Set → Set
touched s less more X = reaches (meeting s (λ p o. minus (more p o) (less p o))) X

-- the pairs that `more` brings into the greatest simulation
unfoldable pub changed : System → (ℕ → ℕ → Set) → (ℕ → ℕ → Set) → Set
changed s less more = minus (greatest (meeting s more)) (greatest (meeting s less))

-- a simulation, as a relation between states and nodes
pub record Simulates (P : Pattern) (R : ℕ → ℕ → Type 0) : Type 0 where
  pub inside : (u v : ℕ) → R u v → (u < P.states) × (v < P.nodes)
  pub admits : (u v : ℕ) → R u v → P.admits u v ≡ true
  pub carries : (u o v : ℕ) → o < P.duties → P.due u o ≡ true → R u v
      → (w : ℕ) × (w < P.nodes) × (P.carry u o v w ≡ true) × R (P.target o) w

-- the same pattern, carried otherwise
abbrev pub carrying : Pattern → (ℕ → ℕ → ℕ → ℕ → Bool) → Pattern
carrying P c = record {
  states = P.states;
  nodes = P.nodes;
  duties = P.duties;
  due = P.due;
  target = P.target;
  admits = P.admits;
  carry = c;
}

-- a graph with one edge more, or one less: the edge from a to b
abbrev pub joined : (ℕ → ℕ → Bool) → ℕ → ℕ → ℕ → ℕ → Bool
joined e a b v w = e v w || (eqb v a && eqb w b)

abbrev pub parted : (ℕ → ℕ → Bool) → ℕ → ℕ → ℕ → ℕ → Bool
parted e a b v w = e v w && not (eqb v a && eqb w b)
