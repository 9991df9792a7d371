-- After an accepted run the session was reached by the engine's calls alone: every line keeps this, whatever the line and the lent memory are.
use Prim.Native.Nat.{ℕ, ◌<◌, ◌≤◌}
use native.Mathlib.Omega.{arith}
use mathlib.Core.Path.{◌≡◌, refl, sym, ◌∙◌, ap, subst}
use mathlib.Core.Logic.{⊎_elim}
use mathlib.Core.Bool.{Bool, true, false}
use mathlib.Core.List.{List, [], ◌∷◌}
use lib.Dec.{leb}
use lib.ListN.{length, get_or}
use borrow.Author.Tests.{leb-false}
use Rattle.simulation.proofs.Search.{lt-or-le}
use Rattle.session.specs.Limits.{max_states, max_nodes}
use Rattle.promises.specs.Answers.{Outcome, Summary, told}
use Rattle.promises.specs.Rules.{verdict, load_rules}
use Rattle.promises.specs.OneMemory as reached
use Rattle.promises.specs.OneMemory.{ByCalls, load, call}
use Rattle.promises.proofs.Verdicts.{accepts-or}
use Rattle.frames.specs.Frames.{Frame, state, node, run, edit, walk, nothing, frame_of}
use Rattle.frames.specs.Machine.{Memory, states_read, nodes_read, Ready, read_so_far, moved, memory_rules, state_kept, node_kept, Prints, Ran, Before, After, Taken, Stepped}
use Rattle.frames.specs.Program.{Line, LineByLine, ended, taken, Fresh, Reaching, AllReaching}
use Rattle.frames.proofs.Kept.{state-moment, node-moment}
use Rattle.frames.proofs.Takes.{rules-passed}

-- a memory before an accepted run says nothing of its session
still_reading : (m : Memory) → get_or m.counts 0 0 ≡ 0 → Reaching m
still_reading m none = λ one. absurd (omega (arith, none, one))

-- bytes printed leave counts and session
prints-reading : (bytes : List ℕ) (m : Memory) (n : ℕ) (m' : Memory) → get_or m.counts 0 0 ≡ 0 → Prints bytes m n m' → Reaching m'
prints-reading bytes m n m' none w = still_reading m' (ap (λ (l : Memory). get_or l.counts 0 0) w.left ∙ none)

prints-reached : (bytes : List ℕ) (m : Memory) (n : ℕ) (m' : Memory) → ByCalls m.session → Prints bytes m n m' → Reaching m'
prints-reached bytes m n m' h w = λ one. subst ByCalls (sym (ap (λ (l : Memory). l.session) w.left)) h

module _ (m : Memory) (r : Ready m) (none : get_or m.counts 0 0 ≡ 0) (n : ℕ) (m' : Memory) where
  -- the run: its load, where that is accepted
  ran_reaches : Ran m n m' → Reaching m'
  ran_reaches w =
      let x = read_so_far m in
      let left : get_or m'.counts 0 0 ≡ get_or (moved (told w.answer) m.counts) 0 0 = ap (λ (l : Memory). get_or l.counts 0 0) w.prints.left in
      ⊎_elim
      (λ ok one. load ok w.loads)
      (λ bad. still_reading m' (left ∙ ap (λ (o : Outcome Summary). get_or (moved o m.counts) 0 0) (w.loads.refuses bad).answer ∙ none))
      (accepts-or (verdict (load_rules (length m.session) (length m.room) x)))

  before-reaches : (f : Frame) → Before f m n m' → Reaching m'
  before-reaches (state inverted mask value links) w = by (leb max_states (states_read m)) refl
    where
      by : (full : Bool) → leb max_states (states_read m) ≡ full → Reaching m'
      by true e = prints-reading _ m n m' none (rw e at w)
      by false e =
          prints-reading _ (state_kept m inverted mask value links) n m'
          (state-moment m r inverted mask value links (leb-false max_states (states_read m) e) ∙ none) (rw e at w)
  before-reaches (node sample) w = by (leb max_nodes (nodes_read m)) refl
    where
      by : (full : Bool) → leb max_nodes (nodes_read m) ≡ full → Reaching m'
      by true e = prints-reading _ m n m' none (rw e at w)
      by false e =
          prints-reading _ (node_kept m sample) n m' (node-moment m r sample (leb-false max_nodes (nodes_read m) e) ∙ none) (rw e at w)
  before-reaches run w = ran_reaches w
  before-reaches (edit k a b) w = prints-reading _ m n m' none w
  before-reaches walk w = prints-reading _ m n m' none w
  before-reaches nothing w = prints-reading _ m n m' none w

after-reaches : (m : Memory) → ByCalls m.session → (n : ℕ) (m' : Memory) (f : Frame) → After f m n m' → Reaching m'
after-reaches m h n m' (edit k a b) w = λ one. call h (reached.edit w.edits)
after-reaches m h n m' walk w = prints-reached _ m n m' h w.prints
after-reaches m h n m' (state inverted mask value links) w = prints-reached _ m n m' h w
after-reaches m h n m' (node sample) w = prints-reached _ m n m' h w
after-reaches m h n m' run w = prints-reached _ m n m' h w
after-reaches m h n m' nothing w = prints-reached _ m n m' h w

pub line-reaches : (m : Memory) (line : List ℕ) (r : Taken) (m' : Memory) → Stepped m line r m' → Reaching m → Reaching m'
line-reaches m line r m' s h =
    ⊎_elim
    (λ ok.
    let w = s.answers ok in
    let p = rules-passed m ok in
    ⊎_elim
    (λ (l : get_or m.counts 0 0 < 1).
    let none : get_or m.counts 0 0 ≡ 0 = omega arith in
    before-reaches m p.ready none w.0 m' (frame_of line) (w.2.before none))
    (λ (l : 1 ≤ get_or m.counts 0 0).
    let one : get_or m.counts 0 0 ≡ 1 = omega (arith, p.counted.0) in
    after-reaches m (h one) w.0 m' (frame_of line) (w.2.after one))
    (lt-or-le (get_or m.counts 0 0) 1))
    (λ bad. subst Reaching (sym (s.refuses bad).1) h)
    (accepts-or (verdict (memory_rules m)))

-- all lines from the start on
pub lines-reach : (m : Memory) (ls : List Line) → Fresh m → LineByLine m ls → AllReaching ls
lines-reach m ls f played = from m ls (still_reading m f.moment) played
  where
    from : (m : Memory) (ls : List Line) → Reaching m → LineByLine m ls → AllReaching ls
    from m [] h ended = tt
    from m (l ∷ ls) h (taken wide long s more) =
        let k = line-reaches _ l.bytes l.answer l.left s h in
        (k, from l.left ls k more)
