-- What admission and the width of sets were before a request changed them. Only the theorems that compare the two read this.
use Rattle.std.specs.Prelude.{ℕ, ◌+◌, ◌^◌, ◌<◌, ◌≤◌, ◌≡◌, List, Bool, not, ◌&&◌, ◌||◌, eqb, get_or}
use Rattle.simulation.specs.Sets.{all_below, any_below}
use Rattle.bits.specs.Word.{members}
use Rattle.session.specs.Limits.{max_states, max_nodes, word_bits, inverted_at, masks_at, values_at, links_at, marks_for, marks_at}
use Rattle.session.specs.Trigger.{Trigger, Graph, Marks, states, nodes, agrees, matches}
use Rattle.session.specs.Layout.{mark_word, image_for, image, marks_in, marks_of}

-- before 02, Job 1: value and sample agree
abbrev pub agreement : Trigger → Graph → Marks
agreement t g u v = agrees word_bits (get_or t.masks u 0) (get_or t.values u 0) (get_or g.samples v 0)

-- before 02, Job 9: the agreement, turned round wherever the state is inverted, so that one of mask zero "formerly admitted nothing"
abbrev pub formerly : Trigger → Graph → Marks
formerly t g u v = matches word_bits (members t.inverted u) (get_or t.masks u 0) (get_or t.values u 0) (get_or g.samples v 0)

-- "no mark is at a pair that isn't admitted", by any admission: what layout asks of marks
abbrev pub marks_fit : Marks → Trigger → Graph → Marks → Bool
marks_fit a t g m = all_below (nodes g) (λ v. all_below (states t) (λ u. not (m u v) || a u v))

-- "a trigger with an inverted state of mask zero"
unfoldable pub blank_inverted : Trigger → Bool
blank_inverted t = any_below (states t) (λ u. members t.inverted u && eqb (get_or t.masks u 0) 0)

-- before 02, Job 6: a session had places for so many states, and "link sets and marks widen from 16 .. bits"
abbrev pub former_states : ℕ
former_states = 16

-- "held with the upper half zero": no set of the trigger and no word of its marks needs more than k bits
pub record Narrow (k : ℕ) (t : Trigger) : Type 0 where
  pub links : (u : ℕ) → get_or t.links u 0 < 2 ^ k
  pub inverted : t.inverted < 2 ^ k
  pub marks : (g : Graph) (m : Marks) (v : ℕ) → mark_word t g m v < 2 ^ k

-- in the session's memory too, where the places of the states from k on are zero
pub record NarrowIn (k : ℕ) (xs : List ℕ) : Type 0 where
  pub links : (i : ℕ) → i < max_states → get_or xs (links_at + i) 0 < 2 ^ k
  pub inverted : get_or xs inverted_at 0 < 2 ^ k
  pub marks : (v : ℕ) → v < max_nodes → get_or xs (marks_at + v) 0 < 2 ^ k
  pub unused : (i : ℕ) → k ≤ i → i < max_states → (get_or xs (masks_at + i) 0 ≡ 0) × (get_or xs (values_at + i) 0 ≡ 0) × (get_or xs (links_at + i) 0 ≡ 0)

-- "and has the marks it had": they are read back from a memory with k places for the states as from a session, and each word of them is the same
pub record MarksAsHeld (k : ℕ) (t : Trigger) (g : Graph) (m : Marks) : Type 0 where
  pub read : marks_in k (image_for k t g m) ≡ marks_of (image t g m)
  pub words : (v : ℕ) → v < max_nodes → get_or (image_for k t g m) (marks_for k + v) 0 ≡ get_or (image t g m) (marks_at + v) 0
