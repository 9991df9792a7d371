-- One graph, one memory, and the ledger of change lists: both from what every call keeps of a faithful session.
use Prim.Native.Nat.{ℕ, ◌<◌, ◌≤◌}
use native.Mathlib.Omega.{arith}
use mathlib.Core.Path.{◌≡◌, refl, sym, ◌∙◌, ap, ap₂}
use mathlib.Core.List.{List, []}
use lib.IntN.{ℤ}
use lib.ListN.{take, drop}
use Rattle.simulation.specs.Ordered.{elem, joins}
use Rattle.session.specs.Limits.{fixed_size}
use Rattle.session.specs.Trigger.{Trigger, Graph, states, nodes, edge, edge_number}
use Rattle.session.specs.Layout.{image, trigger_of, graph_of}
use Rattle.session.proofs.Valid.{same_graph}
use Rattle.session.proofs.Image.{take-image}
use Rattle.listing.specs.Changes.{node_span, size_of, changes}
use Rattle.listing.proofs.Lists.{changes-none}
use Rattle.listing.proofs.Ledgers.{Tells, tells_none, tells-changes, tells-ledger}
use Rattle.promises.specs.Standing.{stands}
use Rattle.promises.specs.Answers.{changes_told}
use Rattle.promises.specs.Model.{Model, begun, step}
use Rattle.promises.specs.Demands.{Call, edit_of, Faithful}
use Rattle.promises.specs.OneMemory.{Called, edit, refused_load, question, ByCalls, load, call, SameEdges, OneMemory, Since, none, more, stands_in, Ledgers}
use Rattle.promises.proofs.Handed.{handed_none}
use Rattle.promises.proofs.Steps.{step_keeps, trigger-is, graph_is, holds-trigger, holds-graph, faithful-load}
use Rattle.promises.proofs.Demands.{kept}

-- ---- what every call keeps

-- The session that a call leaves is faithful to a model with the same trigger and samples, and its list is of what stands in one of the two models alone.
pub record Moved (b : Model) (list : List ℤ) (s' : List ℕ) : Type 0 where
  pub model : Model
  pub faithful : Faithful model s'
  pub trigger : model.trigger ≡ b.trigger
  pub samples : model.graph.samples ≡ b.graph.samples
  pub lists : list ≡ changes b.trigger b.graph (stands b.trigger b.graph) (stands model.trigger model.graph)

-- a call that changes nothing
still : (b : Model) (s : List ℕ) → Faithful b s → Moved b [] s
still b s f =
    record { model = b; faithful = f; trigger = refl; samples = refl; lists = sym (changes-none b.trigger b.graph (stands b.trigger b.graph)) }

-- each call by itself: a further one is a clause more
called_moves : (b : Model) {s : List ℕ} {list : List ℤ} {s' : List ℕ} → Faithful b s → Called s list s' → Moved b list s'
called_moves b {s} f (edit {k = k} {a = u} {b = v} {c = c} {r = r} {s' = s'} {c' = c'} p) =
    let m : Call = record { kind = k; start = u; end = v; room = c; answer = r; session = s'; changes = c' } in
    let w = kept b s f m p in
    let k = step_keeps b (edit_of m) in
    record { model = step b (edit_of m); faithful = w.1; trigger = k.0; samples = k.1; lists = w.0.list }
called_moves b {s} f (refused_load {r = r} {c' = c'} bad p) =
    let w = p.refuses bad in
    rw (w.session, handed_none c' r (ap changes_told w.answer)) (still b s f)
called_moves b {s} f question = still b s f

-- a session reached by calls is faithful to some model
by_calls : {s : List ℕ} → ByCalls s → (b : Model) × Faithful b s
by_calls (load {x = x} {s = s} {c = c} {r = r} {s' = s'} {c' = c'} ok p) = (begun x, faithful-load x s c r s' c' p ok)
by_calls (call reached p) = let f = by_calls reached in let w = called_moves f.0 f.1 p in (w.model, w.faithful)

-- ---- one memory

-- a set of edges is the same whatever the sequence in the lists: no equation of the lists is asked for
pub same_set : (g g' : Graph) → ((e : ℕ) → elem e g.edges ≡ elem e g'.edges) → SameEdges g g'
unfolding edge joins
same_set g g' h v w = rw (h (edge_number v w)) (λ e. e, λ e. e)

-- the words of a faithful session
fixed_part : (b : Model) (s : List ℕ) → Faithful b s → take fixed_size s ≡ image b.trigger b.graph (stands b.trigger b.graph)
fixed_part b s f = ap (take fixed_size) f.session ∙ take-image b.trigger b.graph (stands b.trigger b.graph) (drop fixed_size s)

pub one-memory : OneMemory
one-memory s s' reached reached' triggers samples edges =
    let f = by_calls reached in
    let f' = by_calls reached' in
    let b = f.0 in
    let b' = f'.0 in
    let h = holds-graph b s f.1 in
    let h' = holds-graph b' s' f'.1 in
    let t : b.trigger ≡ b'.trigger = sym (holds-trigger b s f.1) ∙ triggers ∙ holds-trigger b' s' f'.1 in
    let g : b.graph ≡ b'.graph =
    same_graph b.graph b'.graph (graph_is b s f.1) (graph_is b' s' f'.1)
    (sym (ap (λ (x : Graph). x.samples) h) ∙ samples ∙ ap (λ (x : Graph). x.samples) h')
    (rw (h, h') at edges) in
    fixed_part b s f.1
    ∙ ap₂ (λ (x : Trigger) (y : Graph). image x y (stands x y)) t g
    ∙ sym (fixed_part b' s' f'.1)

-- ---- the ledger

-- the lists since a session that is faithful to b, for one pair
tells_since : (b : Model) {s : List ℕ} {lists : List ℤ} {s' : List ℕ} → Faithful b s → Since s lists s' → (u v : ℕ) → u < states b.trigger → v < nodes b.graph
    → Tells (size_of u v) (stands b.trigger b.graph u v) (stands_in s' u v) lists
tells_since b {s} f none u v l k = rw (holds-trigger b s f, holds-graph b s f) (tells_none (size_of u v) (stands b.trigger b.graph u v))
tells_since b {s} f (more {lists = lists} {s'' = s''} p since) u v l k =
    let w = called_moves b f p in
    let few : states b.trigger ≤ node_span = omega (arith, (trigger-is b s f).few) in
    rw w.lists
    (tells-changes b.trigger b.graph (stands b.trigger b.graph) (stands w.model.trigger w.model.graph) few u v l k
    (stands_in s'' u v) lists
    (tells_since w.model w.faithful since u v (rw w.trigger l) (rw w.samples k)))

pub ledgers : Ledgers
ledgers s lists s' reached since =
    let f = by_calls reached in
    let b = f.0 in
    let t = holds-trigger b s f.1 in
    let g = holds-graph b s f.1 in
    let tells : (u v : ℕ) → u < states (trigger_of s) → v < nodes (graph_of s) → Tells (size_of u v) (stands_in s u v) (stands_in s' u v) lists =
    (λ u v l k. rw (t, g) (tells_since b f.1 since u v (rw t at l) (rw g at k))) in
    record {
      sums = λ u v l k. tells-ledger u v (stands_in s u v) (stands_in s' u v) lists (tells u v l k);
      alternate = λ u v l k. (tells u v l k).alternate;
    }
