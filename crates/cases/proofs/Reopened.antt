-- The fact over all saved sessions.
use Prim.Native.Nat.{ℕ, ◌-◌}
use native.Mathlib.Omega.{arith}
use mathlib.Core.Path.{◌≡◌, refl, ◌∙◌}
use mathlib.Core.Bool.{Bool, true, false, ◌&&◌}
use mathlib.Core.List.{List, ◌++◌}
use lib.Dec.{ltb, leb}
use lib.ListN.{length, length-append, get_or}
use borrow.Author.Tests.{ltb-true, le-ltb}
use Rattle.simulation.specs.System.{greatest, supported}
use Rattle.simulation.specs.Sets.{any_below, all_below, shrunk, down, grown, up}
use Rattle.simulation.specs.Pattern.{best}
use Rattle.simulation.specs.Ordered.{ascends, joins, elem}
use Rattle.simulation.proofs.Sets.{and_l, and_r}
use Rattle.bits.specs.Word.{members}
use Rattle.session.specs.Limits.{fixed_size}
use Rattle.session.specs.Trigger.{states, nodes, linked, edge, agrees, matches, accepts, admits}
use Rattle.session.specs.Reached.{reached}
use Rattle.session.specs.Former.{formerly, marks_fit}
use Rattle.session.specs.Layout.{table, below, names, image, trigger_of, graph_of, marks_of, valid_trigger, valid_graph, valid_marks, in_layout}
use Rattle.session.proofs.Valid.{trigger-facts, graph-facts}
use Rattle.session.proofs.Image.{length-image}
use Rattle.session.proofs.Decoded.{Inside, trigger-image, graph-image, marks-image, layout-image}
use Rattle.promises.specs.Standing.{stands, fires}
use Rattle.promises.specs.Answers.{StandingAnswer, FiringAnswer, accepted, told_standing, told_firing}
use Rattle.promises.specs.Rules.{verdict}
use Rattle.promises.specs.Promises.{Matches, Fires}
use Rattle.cases.specs.Cases.{Every, none, ◌and◌}
use Rattle.cases.specs.Saved.{Saved, trigger, graph, held, Reopened, marked, unmarked, unmarked_ring, unfollowed, unlinked, saved_cases}

module _ (c : Saved) (valid : (valid_trigger (trigger c) && (valid_graph (graph c) && valid_marks (trigger c) (graph c) (held c))) ≡ true) (rest : List ℕ) where
  abbrev memory : List ℕ
  memory = image (trigger c) (graph c) (held c) ++ rest

  inside : Inside (trigger c) (graph c) (held c)
  inside u v h =
      let a = ltb u (states (trigger c)) in
      let b = ltb v (nodes (graph c)) in
      let m = members (get_or c.marks v 0) u in
      (ltb-true u (states (trigger c)) (and_l a (b && m) h), ltb-true v (nodes (graph c)) (and_l b m (and_r a (b && m) h)))

  reopened : (trigger_of memory ≡ trigger c) × (graph_of memory ≡ graph c) × (marks_of memory ≡ held c) × (in_layout memory ≡ true)
  reopened =
      let t = valid_trigger (trigger c) in
      let g = valid_graph (graph c) in
      let m = valid_marks (trigger c) (graph c) (held c) in
      let r = and_r t (g && m) valid in
      let tf = trigger-facts (trigger c) (and_l t (g && m) valid) in
      let gf = graph-facts (graph c) (and_l g m r) in (
        trigger-image (trigger c) (graph c) (held c) rest tf,
        graph-image (trigger c) (graph c) (held c) rest gf,
        marks-image (trigger c) (graph c) (held c) rest gf.few inside,
        layout-image (trigger c) (graph c) (held c) rest tf gf (and_r g m r) inside,
      )

  long : ltb (length memory) fixed_size ≡ false
  long = le-ltb (length memory) fixed_size (omega (arith, length-append (image (trigger c) (graph c) (held c)) rest, length-image (trigger c) (graph c) (held c)))

  answered : (b : Bool) (r : StandingAnswer) → ((leb 1 c.state && leb c.state (states (trigger c))) && ltb c.node (nodes (graph c))) ≡ true
      → held c (c.state - 1) c.node ≡ b → Matches memory c.state c.node r → told_standing r ≡ accepted b
  unfolding verdict
  answered b r there m p =
      p ∙ rw (long, reopened.3, reopened.0, reopened.1, reopened.2, there, m)

  fired : (b : Bool) (r : FiringAnswer) → fires (trigger c) (graph c) (held c) ≡ b → Fires memory r → told_firing r ≡ accepted b
  unfolding verdict
  fired b r f p = p ∙ rw (long, reopened.3, reopened.0, reopened.1, reopened.2, f)

-- of a row: it is computed
is_reopened : (c : Saved)
    → (valid_trigger (trigger c) && (valid_graph (graph c) && valid_marks (trigger c) (graph c) (held c))) ≡ true
    → ((leb 1 c.state && leb c.state (states (trigger c))) && ltb c.node (nodes (graph c))) ≡ true
    → marks_fit (formerly (trigger c) (graph c)) (trigger c) (graph c) (held c) ≡ c.fitted
    → held c (c.state - 1) c.node ≡ c.stood
    → fires (trigger c) (graph c) (held c) ≡ c.fired
    → stands (trigger c) (graph c) (c.state - 1) c.node ≡ c.fresh
    → Reopened c
is_reopened c valid there fit m f s = record {
  fitted = fit;
  stood = λ rest r p. answered c valid rest c.stood r there m p;
  fired = λ rest r p. fired c valid rest c.fired r f p;
  fresh = s;
}

pub reopened_all : Every Reopened saved_cases
unfolding saved_cases marked unmarked unmarked_ring unfollowed unlinked table below names valid_trigger valid_graph valid_marks ascends joins elem edge linked admits accepts matches agrees
    reached fires stands best greatest supported shrunk down grown up any_below all_below
reopened_all =
    is_reopened marked refl refl refl refl refl refl
    and is_reopened unmarked refl refl refl refl refl refl
    and is_reopened unmarked_ring refl refl refl refl refl refl
    and is_reopened unfollowed refl refl refl refl refl refl
    and is_reopened unlinked refl refl refl refl refl refl
    and none
