-- Each line at its moment, and so the whole program.
use Prim.Native.Nat.{ℕ, zero, suc, ◌≤◌}
use native.Mathlib.Omega.{arith}
use mathlib.Core.Path.{◌≡◌, refl, sym, ◌∙◌, ap, ap₂, subst}
use mathlib.Core.Logic.{⊎_elim}
use mathlib.Core.Bool.{Bool, true, false, cond}
use mathlib.Core.List.{List, ◌++◌}
use lib.Dec.{leb, eqb}
use lib.IntN.{ℤ}
use lib.ListN.{length, get_or, set, drop, length-set, length-drop}
use lib.Seq.{get_or-set_same, get_or-set_other, length-take-le}
use borrow.Author.Tests.{ne_eqb, leb-false}
use Rattle.session.specs.Limits.{max_states, max_nodes, max_changes, fixed_size}
use Rattle.promises.specs.Answers.{places_told, Outcome, Summary, accepted, refused, outcome, told, handed_back}
use Rattle.promises.specs.Rules.{verdict, Given, given_trigger, given_graph, Kind, load_rules}
use Rattle.promises.specs.Promises.{load_list}
use Rattle.promises.specs.Model.{Model, begun, model_rules, step, editing, load_summary, edit_list, edit_summary}
use Rattle.promises.specs.Demands.{Faithful}
use Rattle.promises.proofs.Verdicts.{accepts-or}
use Rattle.promises.proofs.Steps.{step-refused, faithful-load}
use Rattle.promises.proofs.Demands.{outcome-refused}
use Rattle.promises.proofs.Told.{same_load, load_told, load-list, load-untouched, order-told, order-list, edit-told, edit-list, edit-untouched, edit-after}
use Rattle.frames.specs.Frames.{Frame, state, node, run, edit, walk, nothing}
use Rattle.frames.specs.Outputs.{refusal, answered, ordered, walked}
use Rattle.frames.specs.Machine.{
  Memory,
  memory,
  samples_in,
  states_read,
  nodes_read,
  Ready,
  read_so_far,
  printing,
  Prints,
  state_kept,
  node_kept,
  moved,
  Ran,
  Changed,
  Walked,
  Before,
  After,
}
use Rattle.frames.specs.Moments.{Moment, reading, running, reply, broken, printed, next}
use Rattle.frames.specs.Program.{AtMoment}
use Rattle.frames.proofs.Kept.{masks-many, state-moment, state-read, state-ready, node-moment, node-read, node-ready}

-- ---- what a reply prints, and the moment after it

module _ (p : Moment) (f : Frame) where
  pub printed-refused : (n : ℕ) → broken p f ≡ n → (n ≡ 0 → ⊥) → (printed p f ≡ refusal n) × (next p f ≡ p)
  unfolding printed next
  printed-refused n e some = (rw (e, ne_eqb n 0 some), rw (e, ne_eqb n 0 some))

  pub printed-lines : broken p f ≡ 0 → (printed p f ≡ (reply p f).bytes) × (next p f ≡ (reply p f).moment)
  unfolding printed next
  printed-lines e = (rw e, rw e)

-- ---- the machine holds a moment

-- it does not depend on the change room and the output
pub holds_same : (q : Moment) (m : Memory) (room : List ℤ) (out : List ℕ) → AtMoment q m → AtMoment q (memory m.counts m.words m.session room out)
unfolding read_so_far
holds_same q m room out h = by q h
  where
    ready : Ready m → Ready (memory m.counts m.words m.session room out)
    ready r = record { counts = r.counts; words = r.words; session = r.session; few_states = r.few_states; few_nodes = r.few_nodes }

    by : (q : Moment) → AtMoment q m → AtMoment q (memory m.counts m.words m.session room out)
    by (reading x) h = (ready h.0, h.1, h.2)
    by (running b) h = (ready h.0, h.1, h.2)

-- a line that prints as it should, and leaves the next moment; where it breaks a rule, all else is as it was
pub record Told (p : Moment) (f : Frame) (m : Memory) (n : ℕ) (m' : Memory) : Type 0 where
  pub many : n ≡ length (printed p f)
  pub out : m'.out ≡ printed p f ++ drop (length (printed p f)) m.out
  pub holds : AtMoment (next p f) m'
  pub untouched : (broken p f ≡ 0 → ⊥) → m' ≡ printing (refusal (broken p f)) m

-- by the bytes printed, the moment after them, and the memory that is left beside them
told_by : (p : Moment) (f : Frame) (m : Memory) (n : ℕ) (m' : Memory) (bytes : List ℕ) (q : Moment) (m⁺ : Memory)
    → (printed p f ≡ bytes) × (next p f ≡ q) → m⁺.out ≡ m.out → ((broken p f ≡ 0 → ⊥) → m⁺ ≡ m) → AtMoment q m⁺ → Prints bytes m⁺ n m' → Told p f m n m'
told_by p f m n m' bytes q m⁺ says same still h w =
    record {
      many = w.many ∙ ap length (sym says.0);
      out = rw says.0 (ap (λ (l : Memory). l.out) w.left ∙ ap (λ (o : List ℕ). bytes ++ drop (length bytes) o) same);
      holds =
          subst (λ (q' : Moment). AtMoment q' m') (sym says.1)
          (subst (AtMoment q) (sym w.left) (holds_same q m⁺ m⁺.room (bytes ++ drop (length bytes) m⁺.out) h));
      untouched = λ bad. w.left ∙ ap₂ printing (sym says.0 ∙ (printed-refused p f (broken p f) refl bad).0) (still bad);
    }

told-refused : (p : Moment) (f : Frame) (m : Memory) (n : ℕ) (m' : Memory) (k : ℕ) → broken p f ≡ k → (k ≡ 0 → ⊥) → AtMoment p m
    → Prints (refusal k) m n m' → Told p f m n m'
told-refused p f m n m' k e some h w = told_by p f m n m' (refusal k) p m (printed-refused p f k e some) refl (λ bad. refl) h w

told-lines : (p : Moment) (f : Frame) (m : Memory) (n : ℕ) (m' m⁺ : Memory) → broken p f ≡ 0 → m⁺.out ≡ m.out → AtMoment (reply p f).moment m⁺
    → Prints (reply p f).bytes m⁺ n m' → Told p f m n m'
told-lines p f m n m' m⁺ e same h w =
    told_by p f m n m' (reply p f).bytes (reply p f).moment m⁺ (printed-lines p f e) same (λ bad. absurd (bad e)) h w

-- ---- states and nodes

module _ (m : Memory) (r : Ready m) (moment : get_or m.counts 0 0 ≡ 0) (n : ℕ) (m' : Memory) where
  abbrev x : Given
  x = read_so_far m

  samples-many : length (read_so_far m).samples ≡ nodes_read m
  unfolding read_so_far
  samples-many = length-take-le (nodes_read m) (drop samples_in m.words) (omega (arith, length-drop samples_in m.words, r.words, r.few_nodes))

  state-told : (inverted : Bool) (mask value links : ℕ) → Before (state inverted mask value links) m n m' → Told (reading (read_so_far m)) (state inverted mask value links) m n m'
  unfolding broken verdict
  state-told inverted mask value links w = by (leb max_states (states_read m)) refl
    where
      by : (full : Bool) → leb max_states (states_read m) ≡ full → Told (reading (read_so_far m)) (state inverted mask value links) m n m'
      by true e = told-refused (reading x) (state inverted mask value links) m n m' 4 (rw (masks-many m r, e)) (λ z. absurd (omega (arith, z))) (r, moment, refl) (rw e at w)
      by false e =
          let room = leb-false max_states (states_read m) e in
          told-lines (reading x) (state inverted mask value links) m n m' (state_kept m inverted mask value links) (rw (masks-many m r, e)) refl
          (state-ready m r inverted mask value links room, state-moment m r inverted mask value links room ∙ moment, state-read m r inverted mask value links room) (rw e at w)

  node-told : (sample : ℕ) → Before (node sample) m n m' → Told (reading (read_so_far m)) (node sample) m n m'
  unfolding broken verdict
  node-told sample w = by (leb max_nodes (nodes_read m)) refl
    where
      by : (full : Bool) → leb max_nodes (nodes_read m) ≡ full → Told (reading (read_so_far m)) (node sample) m n m'
      by true e = told-refused (reading x) (node sample) m n m' 6 (rw (samples-many, e)) (λ z. absurd (omega (arith, z))) (r, moment, refl) (rw e at w)
      by false e =
          let room = leb-false max_nodes (nodes_read m) e in
          told-lines (reading x) (node sample) m n m' (node_kept m sample) (rw (samples-many, e)) refl
          (node-ready m r sample room, node-moment m r sample room ∙ moment, node-read m r sample room) (rw e at w)

-- ---- answers of the library

-- the lines of an answer, by the number of the first rule broken
answered-lines : (v : ℕ) (o : Outcome Summary) (a : Summary) (list list' : List ℤ) → o ≡ outcome v a → (v ≡ 0 → list ≡ list')
    → cond (eqb v 0) (answered (accepted a) list') (refusal v) ≡ answered o list
answered-lines zero o a list list' e h = ap₂ answered (sym e) (sym (h refl))
answered-lines (suc v) o a list list' e h =
    rw (ne_eqb (suc v) 0 (λ z. absurd (omega (arith, z)))) (ap (λ (w : Outcome Summary). answered w list) (sym e))

-- ---- the run

module _ (m : Memory) (r : Ready m) (moment : get_or m.counts 0 0 ≡ 0) (wide : max_changes ≤ length m.room) (n : ℕ) (m' : Memory)
    (w : Ran m n m') where
  abbrev given : Given
  given = read_so_far m

  abbrev v : ℕ
  v = verdict (load_rules fixed_size max_changes (read_so_far m))

  says : told w.answer ≡ outcome (verdict (load_rules fixed_size max_changes (read_so_far m))) (load_summary (read_so_far m))
  says = load_told given m.session m.room r.session wide w.answer m'.session m'.room w.loads

  run-lines : printed (reading (read_so_far m)) run ≡ answered (told w.answer) (handed_back m'.room w.answer)
  unfolding printed broken
  run-lines =
      answered-lines v (told w.answer) (load_summary given) (handed_back m'.room w.answer) (load_list (given_trigger given) (given_graph given)) says
      (load-list given m.session m.room r.session wide w.answer m'.session m'.room w.loads)

  -- the memory that the run leaves beside its lines
  abbrev left : Outcome Summary → Memory
  left o = memory (moved o m.counts) m.words m'.session m'.room m.out

  loaded : verdict (load_rules fixed_size max_changes (read_so_far m)) ≡ 0 → AtMoment (running (begun (read_so_far m))) (left (accepted (load_summary (read_so_far m))))
  loaded ok =
      let f = faithful-load given m.session m.room w.answer m'.session m'.room w.loads
      (same_load given m.session m.room r.session wide ∙ ok) in
      let other : (i : ℕ) → (i ≡ 0 → ⊥) → get_or (set m.counts 0 1) i 0 ≡ get_or m.counts i 0 = λ i ne. get_or-set_other m.counts 0 i 1 0 ne in (
        record {
          counts = omega (arith, r.counts, length-set m.counts 0 1);
          words = r.words;
          session = f.long;
          few_states = omega (arith, r.few_states, other 1 (λ e. absurd (omega (arith, e))));
          few_nodes = omega (arith, r.few_nodes, other 2 (λ e. absurd (omega (arith, e))));
        },
        get_or-set_same m.counts 0 1 0 (omega (arith, r.counts)),
        f,
      )

  -- a refused run leaves all as it was
  still : (verdict (load_rules fixed_size max_changes (read_so_far m)) ≡ 0 → ⊥) → left (told w.answer) ≡ m
  still bad =
      let u = w.loads.refuses (λ z. bad (sym (same_load given m.session m.room r.session wide) ∙ z)) in
      ap left u.answer ∙ ap₂ (λ (s : List ℕ) (c : List ℤ). memory m.counts m.words s c m.out) u.session u.room

  turned_back : (k : ℕ) → (verdict (load_rules fixed_size max_changes (read_so_far m)) ≡ 0 → ⊥) → AtMoment (reading (read_so_far m)) (left (refused k))
  unfolding read_so_far
  turned_back k bad =
      let same = load-untouched given m.session m.room r.session wide w.answer m'.session m'.room w.loads bad in (
        record {
          counts = r.counts;
          words = r.words;
          session = omega (arith, r.session, ap length same);
          few_states = r.few_states;
          few_nodes = r.few_nodes;
        },
        moment,
        refl,
      )

  run-told : Told (reading (read_so_far m)) run m n m'
  unfolding broken
  run-told =
      ⊎_elim
      (λ ok.
      told_by (reading given) run m n m' _ (running (begun given)) (left (told w.answer)) (run-lines, (printed-lines (reading given) run ok).1) refl
      (λ bad. absurd (bad ok))
      (subst (λ (o : Outcome Summary). AtMoment (running (begun given)) (left o)) (sym (says ∙ ap (λ (k : ℕ). outcome k (load_summary given)) ok)) (loaded ok))
      w.prints)
      (λ bad.
      told_by (reading given) run m n m' _ (reading given) (left (told w.answer)) (run-lines, (printed-refused (reading given) run v refl bad).1) refl
      still
      (subst (λ (o : Outcome Summary). AtMoment (reading given) (left o)) (sym (says ∙ outcome-refused v (load_summary given) bad)) (turned_back v bad))
      w.prints)
      (accepts-or v)

-- ---- an edit, and the order

module _ (b : Model) (m : Memory) (r : Ready m) (moment : get_or m.counts 0 0 ≡ 1) (f : Faithful b m.session) (n : ℕ) (m' : Memory) where
  next-edit : (k : Kind) (u v : ℕ) → next (running b) (edit k u v) ≡ running (step b (editing k u v))
  unfolding broken
  next-edit k u v =
      ⊎_elim
      (λ ok. (printed-lines (running b) (edit k u v) ok).1)
      (λ bad. (printed-refused (running b) (edit k u v) _ refl bad).1 ∙ ap running (sym (step-refused b (editing k u v) bad)))
      (accepts-or (verdict (model_rules b (editing k u v))))

  edit-lines : (k : Kind) (u v : ℕ) → max_changes ≤ length m.room → (w : Changed k u v m n m')
      → printed (running b) (edit k u v) ≡ answered (told w.answer) (handed_back m'.room w.answer)
  unfolding printed broken
  edit-lines k u v wide w =
      answered-lines (verdict (model_rules b (editing k u v))) (told w.answer) (edit_summary b k u v) (handed_back m'.room w.answer) (edit_list b k u v)
      (edit-told b m.session f k u v m.room w.answer m'.session m'.room wide w.edits)
      (edit-list b m.session f k u v m.room w.answer m'.session m'.room wide w.edits)

  edited-told : (k : Kind) (u v : ℕ) → max_changes ≤ length m.room → Changed k u v m n m' → Told (running b) (edit k u v) m n m'
  unfolding broken
  edited-told k u v wide w =
      let f' = edit-after b m.session f k u v m.room w.answer m'.session m'.room wide w.edits in
      told_by (running b) (edit k u v) m n m' _ (running (step b (editing k u v))) _ (edit-lines k u v wide w, next-edit k u v) refl
      (λ bad.
      let still = edit-untouched b m.session f k u v m.room w.answer m'.session m'.room wide w.edits bad in
      ap₂ (λ (s : List ℕ) (c : List ℤ). memory m.counts m.words s c m.out) still.0 still.1) (
        record { counts = r.counts; words = r.words; session = f'.long; few_states = r.few_states; few_nodes = r.few_nodes },
        moment,
        f',
      )
      w.prints

  walked-told : Walked m n m' → Told (running b) walk m n m'
  unfolding broken verdict
  walked-told w =
      told-lines (running b) walk m n m' m refl refl (r, moment, f)
      (subst (λ (bytes : List ℕ). Prints bytes m n m')
      (ap (λ (o : Outcome ℕ). ordered o (places_told w.order)) (order-told b m.session f w.order w.orders)
      ∙ ap walked (order-list b m.session f w.order w.orders))
      w.prints)

-- ---- every frame at its moment

pub before-told : (m : Memory) → Ready m → get_or m.counts 0 0 ≡ 0 → max_changes ≤ length m.room → (f : Frame) (n : ℕ) (m' : Memory) → Before f m n m'
    → Told (reading (read_so_far m)) f m n m'
unfolding broken verdict
before-told m r moment wide (state inverted mask value links) n m' w = state-told m r moment n m' inverted mask value links w
before-told m r moment wide (node sample) n m' w = node-told m r moment n m' sample w
before-told m r moment wide run n m' w = run-told m r moment wide n m' w
before-told m r moment wide (edit k a b) n m' w = told-refused (reading (read_so_far m)) (edit k a b) m n m' 2 refl (λ z. absurd (omega (arith, z))) (r, moment, refl) w
before-told m r moment wide walk n m' w = told-refused (reading (read_so_far m)) walk m n m' 2 refl (λ z. absurd (omega (arith, z))) (r, moment, refl) w
before-told m r moment wide nothing n m' w = told-refused (reading (read_so_far m)) nothing m n m' 1 refl (λ z. absurd (omega (arith, z))) (r, moment, refl) w

pub after-told : (b : Model) (m : Memory) → Ready m → get_or m.counts 0 0 ≡ 1 → Faithful b m.session → max_changes ≤ length m.room
    → (f : Frame) (n : ℕ) (m' : Memory) → After f m n m' → Told (running b) f m n m'
unfolding broken verdict
after-told b m r moment h wide (edit k u v) n m' w = edited-told b m r moment h n m' k u v wide w
after-told b m r moment h wide walk n m' w = walked-told b m r moment h n m' w
after-told b m r moment h wide (state inverted mask value links) n m' w = told-refused (running b) (state inverted mask value links) m n m' 2 refl (λ z. absurd (omega (arith, z))) (r, moment, h) w
after-told b m r moment h wide (node sample) n m' w = told-refused (running b) (node sample) m n m' 2 refl (λ z. absurd (omega (arith, z))) (r, moment, h) w
after-told b m r moment h wide run n m' w = told-refused (running b) run m n m' 2 refl (λ z. absurd (omega (arith, z))) (r, moment, h) w
after-told b m r moment h wide nothing n m' w = told-refused (running b) nothing m n m' 1 refl (λ z. absurd (omega (arith, z))) (r, moment, h) w
