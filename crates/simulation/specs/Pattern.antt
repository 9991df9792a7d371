-- A pattern over a graph: states at nodes, and what a state owes at a node. Bounded walks and the way back are patterns too.
use Rattle.std.specs.Prelude.{ℕ, ◌+◌, ◌*◌, ◌/◌, ◌%◌, Bool, ◌&&◌, ltb, eqb}
use Rattle.simulation.specs.Sets.{Set}
use Rattle.simulation.specs.System.{System, greatest}

-- state u owes the obligation o where `due u o`; at v it is met by the state `target o` at a node w with `carry u o v w`
pub record Pattern : Type 0 where
  pub states : ℕ
  pub nodes : ℕ
  pub duties : ℕ
  pub due : ℕ → ℕ → Bool
  pub target : ℕ → ℕ
  pub admits : ℕ → ℕ → Bool
  pub carry : ℕ → ℕ → ℕ → ℕ → Bool

-- the state u at the node v is the pair v * states + u, so pairs ascend by node and then by state
abbrev pub pair : Pattern → ℕ → ℕ → ℕ
pair P u v = v * P.states + u

-- a relation as a set of pairs, and a set of pairs as a relation
abbrev pub paired : Pattern → (ℕ → ℕ → Bool) → Set
paired P R p = R (p % P.states) (p / P.states)

abbrev pub related : Pattern → Set → ℕ → ℕ → Bool
related P X u v = ltb u P.states && X (pair P u v)

abbrev pub system : Pattern → System
system P = record {
  pairs = P.nodes * P.states;
  duties = P.duties;
  admitted = paired P P.admits;
  due = λ p o. P.due (p % P.states) o;
  meets = λ p o q. eqb (P.target o) (q % P.states) && P.carry (p % P.states) o (p / P.states) (q / P.states);
}

-- the greatest simulation of a pattern
unfoldable pub best : Pattern → ℕ → ℕ → Bool
best P = related P (greatest (system P))

-- plain simulation: each link from u to a state is owed, and is carried by one edge
abbrev pub plain : ℕ → ℕ → (ℕ → ℕ → Bool) → (ℕ → ℕ → Bool) → (ℕ → ℕ → Bool) → Pattern
plain states nodes linked admits edge = record {
  states = states;
  nodes = nodes;
  duties = states;
  due = linked;
  target = λ o. o;
  admits = admits;
  carry = λ u o v w. edge v w;
}
