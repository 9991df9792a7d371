-- The whole program: what its lines print is what 01 says, and the demands hold throughout.
use Prim.Native.Nat.{ℕ, ◌≤◌}
use native.Mathlib.Nat.{mod-one}
use native.Mathlib.Omega.{arith}
use mathlib.Core.Path.{◌≡◌, refl, sym, ◌∙◌, ap, ap₂, subst}
use mathlib.Core.Logic.{◌⊎◌, ⊎_elim}
use mathlib.Core.Bool.{false}
use mathlib.Core.List.{List, [], ◌∷◌, ◌++◌}
use lib.ListN.{length, get_or, take, drop}
use lib.Seq.{take-append_seam}
use Rattle.session.specs.Limits.{max_changes}
use Rattle.promises.specs.Answers.{Outcome, accepted, outcome}
use Rattle.promises.specs.Rules.{insertion, deletion, Given, Rule, rule, verdict}
use Rattle.promises.specs.Model.{Model, load_summary}
use Rattle.promises.specs.Demands.{Faithful}
use Rattle.promises.specs.Demands as demands
use Rattle.promises.proofs.Verdicts.{Lacks, verdict_skip, verdict_lacks}
use Rattle.promises.proofs.Demands.{demand2, demand3, kept}
use Rattle.promises.proofs.Told.{same_load, load_told, load-list, edit-told, same_step}
use Rattle.frames.specs.Frames.{Frame, state, node, run, edit, walk, nothing, frame_of}
use Rattle.frames.specs.Outputs.{each}
use Rattle.frames.specs.Machine.{Memory, output_size, Ready, read_so_far, memory_rules, told_taken, Prints, Before, After, Stepped}
use Rattle.frames.specs.Moments.{Moment, reading, running, start, broken, printed, next, output}
use Rattle.frames.specs.Program.{
  Line,
  lent,
  LineByLine,
  ended,
  taken,
  filled,
  printed_by,
  Fresh,
  AtMoment,
  LineDemand1,
  call_of,
  Demanded,
  Whole,
}
use Rattle.frames.proofs.Takes.{passed-rules}
use Rattle.frames.proofs.Played.{printed-refused, printed-lines, holds_same, Told, before-told, after-told}

-- ---- a line: its bytes, and the demands

-- a memory that holds a moment breaks no rule of its own, in a room and an output that are long enough
fits : (m : Memory) → Ready m → get_or m.counts 0 0 ≤ 1 → max_changes ≤ length m.room → output_size ≤ length m.out
    → verdict (memory_rules m) ≡ 0
fits m r moment wide long =
    passed-rules m record { ready = r; counted = (moment, r.few_states, r.few_nodes); room = wide; out = long }

-- the bytes printed are the front of the output
filled-front : (l : Line) (n : ℕ) (bytes rest : List ℕ) → told_taken l.answer ≡ accepted n → n ≡ length bytes → l.left.out ≡ bytes ++ rest
    → printed_by l ≡ bytes
filled-front l n bytes rest says many out =
    ap (λ (o : Outcome ℕ). filled o l.left.out) says ∙ ap₂ take many out ∙ take-append_seam bytes rest

printed-bytes : (l : Line) (n : ℕ) (bytes : List ℕ) (m : Memory) → told_taken l.answer ≡ accepted n → Prints bytes m n l.left → printed_by l ≡ bytes
printed-bytes l n bytes m says p = filled-front l n bytes (drop (length bytes) m.out) says p.many (ap (λ (x : Memory). x.out) p.left)

-- the line l, taken in the memory m
module _ (m : Memory) (l : Line) (wide : max_changes ≤ length l.room) (n : ℕ) (says : told_taken l.answer ≡ accepted n) where
  abbrev mine : Memory
  mine = lent m l.room l.out

  before-demanded : Ready m → (f : Frame) → Before f (lent m l.room l.out) n l.left → Demanded (reading (read_so_far (lent m l.room l.out))) f l
  unfolding broken
  before-demanded r run w = λ ok.
      let x = read_so_far mine in
      let fine = same_load x m.session l.room r.session wide ∙ ok in
      record {
        answer = w.answer;
        tells = load_told x m.session l.room r.session wide w.answer l.left.session l.left.room w.loads
            ∙ ap (λ (v : ℕ). outcome v (load_summary x)) ok;
        list = load-list x m.session l.room r.session wide w.answer l.left.session l.left.room w.loads ok;
        prints = printed-bytes l n _ _ says w.prints;
        demand2 = demand2 x m.session l.room w.answer l.left.session l.left.room w.loads fine;
        demand3 = demand3 x m.session l.room w.answer l.left.session l.left.room w.loads fine;
      }
  before-demanded r (state inverted mask value links) w = tt
  before-demanded r (node sample) w = tt
  before-demanded r (edit k u v) w = tt
  before-demanded r walk w = tt
  before-demanded r nothing w = tt

  after-demanded : (b : Model) → Faithful b m.session → (f : Frame) → After f (lent m l.room l.out) n l.left → Demanded (running b) f l
  unfolding broken
  after-demanded b f (edit k u v) w =
      let c = call_of k u v l w.answer in
      record {
        answer = w.answer;
        tells = edit-told b m.session f k u v l.room w.answer l.left.session l.left.room wide w.edits;
        prints = printed-bytes l n _ _ says w.prints;
        kept = subst (λ (b' : Model). demands.Kept b b' c)
            (same_step b m.session f k u v l.room w.answer l.left.session l.left.room wide w.edits)
            (kept b m.session f c w.edits).0;
      }
  after-demanded b f walk w = tt
  after-demanded b f (state inverted mask value links) w = tt
  after-demanded b f (node sample) w = tt
  after-demanded b f run w = tt
  after-demanded b f nothing w = tt

-- what a line comes to at its moment
record Comes (p : Moment) (m : Memory) (l : Line) : Type 1 where
  pub count : ℕ
  pub says : told_taken l.answer ≡ accepted count
  pub told : Told p (frame_of l.bytes) (lent m l.room l.out) count l.left
  pub demanded : Demanded p (frame_of l.bytes) l

comes : (p : Moment) (m : Memory) (l : Line) → AtMoment p m → max_changes ≤ length l.room → output_size ≤ length l.out
    → Stepped (lent m l.room l.out) l.bytes l.answer l.left → Comes p m l
comes (reading x) m l h wide long s =
    let mine = lent m l.room l.out in
    let h' = holds_same (reading x) m l.room l.out h in
    let w = s.answers (fits mine h'.0 (omega (arith, h.1)) wide long) in
    let before = w.2.before h.1 in
    subst (λ (y : Given). Comes (reading y) m l) h'.2 record {
      count = w.0;
      says = w.1;
      told = before-told mine h'.0 h.1 wide (frame_of l.bytes) w.0 l.left before;
      demanded = before-demanded m l wide w.0 w.1 h.0 (frame_of l.bytes) before;
    }
comes (running b) m l h wide long s =
    let mine = lent m l.room l.out in
    let h' = holds_same (running b) m l.room l.out h in
    let w = s.answers (fits mine h'.0 (omega (arith, h.1)) wide long) in
    let after = w.2.after h.1 in
    record {
      count = w.0;
      says = w.1;
      told = after-told b mine h'.0 h.1 h.2 wide (frame_of l.bytes) w.0 l.left after;
      demanded = after-demanded m l wide w.0 w.1 b h.2 (frame_of l.bytes) after;
    }

module _ (p : Moment) (m : Memory) (l : Line) (c : Comes p m l) where
  line-prints : printed_by l ≡ printed p (frame_of l.bytes)
  line-prints =
      let bytes = printed p (frame_of l.bytes) in
      filled-front l c.count bytes (drop (length bytes) l.out) c.says c.told.many c.told.out

  line_demand1 : LineDemand1 p m l
  line_demand1 =
      let f = frame_of l.bytes in
      record {
        taken = c.says ∙ ap accepted c.told.many;
        carried = λ ok. (
          line-prints ∙ (printed-lines p f ok).0,
          subst (λ (q : Moment). AtMoment q l.left) (printed-lines p f ok).1 c.told.holds,
        );
        refused = λ bad. (line-prints ∙ (printed-refused p f (broken p f) refl bad).0, c.told.untouched bad);
      }

-- ---- all lines

whole_from : (p : Moment) (m : Memory) (ls : List Line) → AtMoment p m → LineByLine m ls → Whole p m ls
unfolding output each
whole_from p m [] h ended = record { prints = refl; demands = tt }
whole_from p m (l ∷ ls) h (taken wide long s more) =
    let c = comes p m l h wide long s in
    let rest = whole_from (next p (frame_of l.bytes)) l.left ls c.told.holds more in
    record {
      prints = ap₂ ◌++◌ (line-prints p m l c) rest.prints;
      demands = (line_demand1 p m l c, c.demanded, rest.demands);
    }

fresh_holds : (m : Memory) → Fresh m → AtMoment start m
unfolding read_so_far
fresh_holds m f = (
  record {
    counts = f.counts;
    words = f.words;
    session = f.session;
    few_states = omega (arith, f.states);
    few_nodes = omega (arith, f.nodes);
  },
  f.moment,
  rw (f.states, f.nodes, mod-one),
)

-- from the start, every byte and the demands
pub whole : (m : Memory) (ls : List Line) → Fresh m → LineByLine m ls → Whole start m ls
whole m ls f played = whole_from start m ls (fresh_holds m f) played

-- ---- rules 3 and 10 are never met

module _ (k : ℕ) (h : (k ≡ 3) ⊎ (k ≡ 10)) where
  lacking : (rs : List Rule) → Lacks 3 rs → Lacks 10 rs → verdict rs ≡ k → ⊥
  lacking rs a b =
      ⊎_elim
      (λ e. subst (λ (j : ℕ). verdict rs ≡ j → ⊥) (sym e) (verdict_lacks 3 rs (λ z. absurd (omega (arith, z))) a))
      (λ e. subst (λ (j : ℕ). verdict rs ≡ j → ⊥) (sym e) (verdict_lacks 10 rs (λ z. absurd (omega (arith, z))) b))
      h

  -- the program's memory and room are long enough for a load and an edit
  lacking_long : (rs : List Rule) → Lacks 3 rs → Lacks 10 rs → verdict (rule 3 false ∷ rs) ≡ k → ⊥
  lacking_long rs a b e = lacking rs a b (sym (verdict_skip 3 false rs refl) ∙ e)

  pub never : (p : Moment) (f : Frame) → broken p f ≡ k → ⊥
  unfolding broken
  never (reading x) (state inverted mask value links) = lacking _ (omega arith) (omega arith)
  never (reading x) (node sample) = lacking _ (omega arith) (omega arith)
  never (reading x) run = lacking_long _ (omega arith) (omega arith)
  never (reading x) (edit kind u v) = lacking _ (omega arith) (omega arith)
  never (reading x) walk = lacking _ (omega arith) (omega arith)
  never (reading x) nothing = lacking _ (omega arith) (omega arith)
  never (running b) (edit insertion u v) = lacking_long _ (omega arith) (omega arith)
  never (running b) (edit deletion u v) = lacking_long _ (omega arith) (omega arith)
  never (running b) walk = lacking [] (omega arith) (omega arith)
  never (running b) (state inverted mask value links) = lacking _ (omega arith) (omega arith)
  never (running b) (node sample) = lacking _ (omega arith) (omega arith)
  never (running b) run = lacking _ (omega arith) (omega arith)
  never (running b) nothing = lacking _ (omega arith) (omega arith)
