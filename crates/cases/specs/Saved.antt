-- Sessions with marks of their own, as rows of one list with one fact over all rows. It is proved in proofs/Reopened. First those saved before 02, Job 9,
-- "Answers that can change are those on a trigger with an inverted state of mask zero, refusal 10 included"; then those that show of which states Job 5 asks a mark.
use Rattle.std.specs.Prelude.{ℕ, ◌-◌, ◌≡◌, Bool, true, false, ◌&&◌, List, [], ◌∷◌, ◌++◌, ltb, get_or}
use Rattle.bits.specs.Word.{members}
use Rattle.session.specs.Trigger.{Trigger, Graph, Marks, states, nodes}
use Rattle.session.specs.Former.{formerly, marks_fit}
use Rattle.session.specs.Layout.{image}
use Rattle.promises.specs.Standing.{stands}
use Rattle.promises.specs.Answers.{StandingAnswer, FiringAnswer, accepted, told_standing, told_firing}
use Rattle.promises.specs.Rules.{Given, given, given_trigger, given_graph}
use Rattle.promises.specs.Promises.{Matches, Fires}

-- A row: the trigger and the graph that are held, and the word of marks of each node; whether no mark was at a pair not admitted before the request, so that
-- it did not meet 10; what the session now answers, of a state by its number at a node, and of firing; and whether a fresh load marks that pair.
pub record Saved : Type 0 where
  pub given : Given
  pub marks : List ℕ
  pub fitted : Bool
  pub state : ℕ
  pub node : ℕ
  pub stood : Bool
  pub fired : Bool
  pub fresh : Bool

module _ (c : Saved) where
  abbrev pub trigger : Trigger
  trigger = given_trigger c.given

  abbrev pub graph : Graph
  graph = given_graph c.given

  abbrev pub held : Marks
  held u v = ltb u (states trigger) && (ltb v (nodes graph) && members (get_or c.marks v 0) u)

-- The fact of a row, whatever words follow the session: every answer that keeps its promise tells this, and so is not refused with 10.
pub record Reopened (c : Saved) : Type 0 where
  pub fitted : marks_fit (formerly (trigger c) (graph c)) (trigger c) (graph c) (held c) ≡ c.fitted
  pub stood : (rest : List ℕ) (r : StandingAnswer) → Matches (image (trigger c) (graph c) (held c) ++ rest) c.state c.node r
      → told_standing r ≡ accepted c.stood
  pub fired : (rest : List ℕ) (r : FiringAnswer) → Fires (image (trigger c) (graph c) (held c) ++ rest) r → told_firing r ≡ accepted c.fired
  pub fresh : stands (trigger c) (graph c) (c.state - 1) c.node ≡ c.fresh

-- a mark at a pair of the blank inverted state: it "formerly admitted nothing", so this met 10
unfoldable pub marked : Saved
marked = record {
  given = given (0 ∷ []) (0xFF ∷ []) (0 ∷ []) 1 (0 ∷ 0xFFFF ∷ []) [] [];
  marks = 1 ∷ 1 ∷ [];
  fitted = false;
  state = 1;
  node = 1;
  stood = true;
  fired = true;
  fresh = true;
}

-- saved before the request, with no mark there: in layout as before, but its marks are no longer those of its graph, and a fresh load has them
unfoldable pub unmarked : Saved
unmarked = record {
  given = given (0 ∷ []) (0xFF ∷ []) (0 ∷ []) 1 (0 ∷ 0xFFFF ∷ []) [] [];
  marks = 0 ∷ 0 ∷ [];
  fitted = true;
  state = 1;
  node = 1;
  stood = false;
  fired = false;
  fresh = true;
}

-- the same of a plain state that links to the blank inverted one: what it lost by the former rule, it lacks
unfoldable pub unmarked_ring : Saved
unmarked_ring = record {
  given = given (0 ∷ 0xFFFF ∷ []) (0 ∷ 0 ∷ []) (2 ∷ 1 ∷ []) 1 (0xA5 ∷ 0 ∷ []) (0 ∷ 1 ∷ []) (1 ∷ 0 ∷ []);
  marks = 0 ∷ 0 ∷ [];
  fitted = true;
  state = 2;
  node = 1;
  stood = false;
  fired = false;
  fresh = true;
}

-- 02, Job 5, of marks that are no simulation: State One and what it links to are marked, and the end of the chain is not, so it holds the trigger back
unfoldable pub unfollowed : Saved
unfollowed = record {
  given = given (0xFFFF ∷ 0xFFFF ∷ 0xFFFF ∷ []) (1 ∷ 2 ∷ 3 ∷ []) (2 ∷ 4 ∷ 0 ∷ []) 0 (1 ∷ 2 ∷ 3 ∷ []) [] [];
  marks = 1 ∷ 2 ∷ 0 ∷ [];
  fitted = true;
  state = 2;
  node = 1;
  stood = true;
  fired = false;
  fresh = false;
}

-- the same with the third state left unlinked: it holds nothing back
unfoldable pub unlinked : Saved
unlinked = record {
  given = given (0xFFFF ∷ 0xFFFF ∷ 0xFFFF ∷ []) (1 ∷ 2 ∷ 3 ∷ []) (2 ∷ 0 ∷ 0 ∷ []) 0 (1 ∷ 2 ∷ 3 ∷ []) [] [];
  marks = 1 ∷ 2 ∷ 0 ∷ [];
  fitted = true;
  state = 3;
  node = 2;
  stood = false;
  fired = true;
  fresh = true;
}

unfoldable pub saved_cases : List Saved
saved_cases = marked ∷ unmarked ∷ unmarked_ring ∷ unfollowed ∷ unlinked ∷ []
