-- The walk over a block, a line at a time.
use Prim.Native.Nat.{ℕ, suc, ◌+◌, ◌-◌, ◌<◌, ◌≤◌}
use native.Mathlib.Omega.{arith}
use mathlib.Core.Path.{◌≡◌, refl, sym, ◌∙◌, ap, subst}
use mathlib.Core.Logic.{◌⊎◌, ⊎_elim}
use mathlib.Core.Bool.{Bool, true, false, ◌||◌, cond}
use mathlib.Core.List.{List, [], ◌∷◌, ◌++◌, append-nil}
use lib.Dec.{ltb, eqb}
use lib.ListN.{length, get_or, take, drop, length-append, length-take, length-drop, drop_of_length-le}
use lib.Seq.{take_all}
use borrow.Author.Tests.{ltb-false, le-ltb}
use Rattle.simulation.proofs.Sets.{clash}
use Rattle.std.specs.Prelude.{Ok}
use Rattle.frames.specs.declared.Progress.{Progress}
use Rattle.session.specs.Limits.{max_changes}
use Rattle.promises.specs.Answers.{accepted, refused}
use Rattle.promises.specs.Rules.{verdict}
use Rattle.promises.proofs.Verdicts.{accepts-or, verdict_pass, verdict_skip}
use Rattle.frames.specs.Frames.{Frame, state, node, run, edit, walk, nothing, frame_of}
use Rattle.frames.specs.Lines.{line_ends, line_in, front_size, Gathers}
use Rattle.frames.specs.Machine.{Memory, memory, output_size, memory_rules, Prints, Before, After, Answers, Stepped}
use Rattle.frames.specs.Program.{Fresh}
use Rattle.frames.specs.Blocks.{input_rules, Reached, written_of, at_of, Point, point, output_after, with_output, GoesOn, Passes, stops, begins, answers, BlockTaken, InputEnded}
use Rattle.frames.proofs.Fronts.{keeps-long}
use Rattle.frames.proofs.Takes.{Counted, Passed, rules-passed, passed-rules, answers-counted, taken-line}

-- ---- the rules of the lent memory

module _ (m : Memory) (front : List ℕ) where
  pub input_passed : verdict (input_rules m front) ≡ 0 → Passed m × (front_size ≤ length front)
  input_passed ok =
      let first = verdict_pass 3 (ltb (length front) front_size) (memory_rules m) (omega arith) ok in
      (rules-passed m first.1, ltb-false (length front) front_size first.0)

  pub passed_input : Passed m → front_size ≤ length front → verdict (input_rules m front) ≡ 0
  passed_input p long =
      verdict_skip 3 (ltb (length front) front_size) (memory_rules m) (le-ltb (length front) front_size long) ∙ passed-rules m p

-- memory at its start breaks none, with a room, an output and a front that are long enough
pub fresh-passed : (m : Memory) (front : List ℕ) → Fresh m → max_changes ≤ length m.room → output_size ≤ length m.out → front_size ≤ length front
    → verdict (input_rules m front) ≡ 0
fresh-passed m front f room out long =
    passed_input m front
    record {
      ready = record {
        counts = f.counts;
        words = f.words;
        session = f.session;
        few_states = omega (arith, f.states);
        few_nodes = omega (arith, f.nodes);
      };
      counted = (omega (arith, f.moment), omega (arith, f.states), omega (arith, f.nodes));
      room = room;
      out = out;
    }
    long

-- a memory that a line was answered in breaks no rule of its own
pub unrefused : (m : Memory) (line : List ℕ) (n : ℕ) (left : Memory) → Stepped m line (Ok n) left → verdict (memory_rules m) ≡ 0
unrefused m line n left s =
    ⊎_elim (λ ok. ok)
    (λ bad.
    let e : accepted n ≡ refused (verdict (memory_rules m)) = (s.refuses bad).0 in
    let z : ◌≡◌ {A = ℕ} 0 1 = cc (e) in
    absurd (omega arith))
    (accepts-or (verdict (memory_rules m)))

stepped_answers : (m : Memory) (line : List ℕ) (n : ℕ) (left : Memory) → Stepped m line (Ok n) left → Answers m line n left
stepped_answers m line n left s =
    let a = s.answers (unrefused m line n left s) in
    let e : accepted n ≡ accepted a.0 = a.1 in
    let same : n ≡ a.0 = cc (e) in
    rw same a.2

-- ---- an answer fits in the output that it was written

printed-fits : {bytes : List ℕ} {m m' : Memory} {n : ℕ} → Prints bytes m n m' → n ≤ length m'.out
printed-fits {bytes} {m} p =
    omega (arith, p.many, ap (λ (x : Memory). length x.out) p.left ∙ length-append bytes (drop (length bytes) m.out))

before-fits : (f : Frame) (m m' : Memory) (n : ℕ) → Before f m n m' → n ≤ length m'.out
before-fits (state inverted mask value links) m m' n p = printed-fits p
before-fits (node sample) m m' n p = printed-fits p
before-fits run m m' n p = printed-fits p.prints
before-fits (edit k a b) m m' n p = printed-fits p
before-fits walk m m' n p = printed-fits p
before-fits nothing m m' n p = printed-fits p

after-fits : (f : Frame) (m m' : Memory) (n : ℕ) → After f m n m' → n ≤ length m'.out
after-fits (state inverted mask value links) m m' n p = printed-fits p
after-fits (node sample) m m' n p = printed-fits p
after-fits run m m' n p = printed-fits p
after-fits (edit k a b) m m' n p = printed-fits p.prints
after-fits walk m m' n p = printed-fits p.prints
after-fits nothing m m' n p = printed-fits p

pub answers-fit : (m : Memory) (line : List ℕ) (n : ℕ) (m' : Memory) → Counted m.counts → Answers m line n m' → n ≤ length m'.out
answers-fit m line n m' c a =
    ⊎_elim
    (λ z. before-fits (frame_of line) m m' n (a.before z))
    (λ z. after-fits (frame_of line) m m' n (a.after (omega (arith, z, c.0))))
    (accepts-or (get_or m.counts 0 0))

-- ---- the walk so far

-- how long the lent memory is stays as it was
pub record SameLengths (m m' : Memory) : Type 0 where
  pub counts : length m'.counts ≡ length m.counts
  pub words : length m'.words ≡ length m.words
  pub session : length m'.session ≡ length m.session
  pub room : length m'.room ≡ length m.room
  pub out : length m'.out ≡ length m.out

still_passed : (m m' : Memory) → Passed m → SameLengths m m' → Counted m'.counts → Passed m'
still_passed m m' p s c = record {
  ready = record {
    counts = omega (arith, p.ready.counts, s.counts);
    words = omega (arith, p.ready.words, s.words);
    session = omega (arith, p.ready.session, s.session);
    few_states = c.1;
    few_nodes = c.2;
  };
  counted = c;
  room = omega (arith, p.room, s.room);
  out = omega (arith, p.out, s.out);
}

-- from the start to the present point: what a walk from here comes to, a walk from the start comes to
pub record Upto (block : List ℕ) (start p : Point) : Type 0 where
  pub goes : (q : Point) → Passes block p q → Passes block start q
  pub passed : Passed p.memory
  pub front : front_size ≤ length p.front
  pub inside : p.written ≤ length p.memory.out

module _ (block : List ℕ) where
  pub pass_start : (front : List ℕ) (begun : ℕ) (m : Memory) → verdict (input_rules m front) ≡ 0
      → Upto block (point front begun 0 0 m) (point front begun 0 0 m)
  pass_start front begun m ok =
      let i = input_passed m front ok in
      record { goes = λ q w. w; passed = i.0; front = i.1; inside = omega arith }

  module _ (start p : Point) (s : Upto block start p) (on : GoesOn block p) (front' : List ℕ) (begun' at' : ℕ) where
    front_stays : (e : Bool) → Gathers p.front p.begun block p.at front' begun' at' e → front_size ≤ length front'
    front_stays e g = let k = keeps-long p.front p.begun _ front' begun' g.front in omega (arith, k, s.front)

    pass_begins : Gathers p.front p.begun block p.at front' begun' at' false
        → Upto block start (point front' begun' at' p.written p.memory)
    pass_begins g = record {
      goes = λ q w. s.goes q (begins front' begun' at' on g w);
      passed = s.passed;
      front = front_stays false g;
      inside = s.inside;
    }

    pub pass_open : (e : Bool) → e ≡ false → Gathers p.front p.begun block p.at front' begun' at' e
        → Upto block start (point front' begun' at' p.written p.memory)
    pass_open e z g = pass_begins (subst (λ (b : Bool). Gathers p.front p.begun block p.at front' begun' at' b) z g)

    -- the memory that a line is answered in
    lent-passed : Passed (output_after p.written p.memory)
    lent-passed =
        let h = s.passed in
        record {
          ready = record {
            counts = h.ready.counts;
            words = h.ready.words;
            session = h.ready.session;
            few_states = h.ready.few_states;
            few_nodes = h.ready.few_nodes;
          };
          counted = h.counted;
          room = h.room;
          out = omega (arith, on.1, length-drop p.written p.memory.out);
        }

    module _ (n : ℕ) (left : Memory) (a : Answers (output_after p.written p.memory) (take begun' front') n left)
        (same : SameLengths (output_after p.written p.memory) left) where
      -- the whole output is as long as it was
      out-long : length (take p.written p.memory.out ++ left.out) ≡ length p.memory.out
      out-long =
          length-append (take p.written p.memory.out) left.out
          ∙ omega (arith, same.out, s.inside, length-take p.written p.memory.out, length-drop p.written p.memory.out)

      written-fits : p.written + n ≤ length p.memory.out
      written-fits =
          let f = answers-fit (output_after p.written p.memory) (take begun' front') n left lent-passed.counted a in
          omega (arith, f, same.out, s.inside, length-drop p.written p.memory.out)

      pass_answers : Gathers p.front p.begun block p.at front' begun' at' true
          → Upto block start (point front' 0 at' (p.written + n) (with_output (take p.written p.memory.out) left))
      pass_answers g =
          let mine = output_after p.written p.memory in
          let c = answers-counted mine left n lent-passed.ready lent-passed.counted (take begun' front') a in
          record {
            goes = λ q w. s.goes q (answers front' begun' at' n left on g (taken-line mine (take begun' front') n left (passed-rules mine lent-passed) a) w);
            passed = still_passed p.memory (with_output (take p.written p.memory.out) left) s.passed
                record { counts = same.counts; words = same.words; session = same.session; room = same.room; out = out-long } c;
            front = front_stays true g;
            inside = omega (arith, written-fits, out-long);
          }

    -- as the rest of the output is lent and written back
    abbrev pub part : Memory
    part =
        memory p.memory.counts p.memory.words p.memory.session p.memory.room
        (take (length p.memory.out - p.written) (drop p.written p.memory.out))

    part-is : part ≡ output_after p.written p.memory
    part-is =
        ap (memory p.memory.counts p.memory.words p.memory.session p.memory.room)
        (take_all (length p.memory.out - p.written) (drop p.written p.memory.out) (omega (arith, length-drop p.written p.memory.out)))

    pub part-passed : verdict (memory_rules part) ≡ 0
    part-passed = subst (λ (m : Memory). verdict (memory_rules m) ≡ 0) (sym part-is) (passed-rules (output_after p.written p.memory) lent-passed)

    module _ (n : ℕ) (left : Memory) (a : Answers part (take begun' front') n left) (same : SameLengths part left) where
      a' : Answers (output_after p.written p.memory) (take begun' front') n left
      a' = subst (λ (m : Memory). Answers m (take begun' front') n left) part-is a

      same' : SameLengths (output_after p.written p.memory) left
      same' = subst (λ (m : Memory). SameLengths m left) part-is same

      pub part-fits : p.written + n ≤ length p.memory.out
      part-fits = written-fits n left a' same'

      pub pass_line : (e : Bool) → e ≡ true → Gathers p.front p.begun block p.at front' begun' at' e
          → Upto block start (point front' 0 at' (p.written + n) (memory left.counts left.words left.session left.room
          (take p.written p.memory.out ++ (left.out ++ drop (length p.memory.out - p.written) (drop p.written p.memory.out)))))
      pass_line e z g =
          let none : left.out ++ drop (length p.memory.out - p.written) (drop p.written p.memory.out) ≡ left.out =
          ap (λ (w : List ℕ). left.out ++ w)
          (drop_of_length-le (drop p.written p.memory.out) {i = length p.memory.out - p.written} (omega (arith, length-drop p.written p.memory.out)))
          ∙ append-nil left.out in
          subst
          (λ (w : List ℕ). Upto block start (point front' 0 at' (p.written + n) (memory left.counts left.words left.session left.room (take p.written p.memory.out ++ w))))
          (sym none)
          (pass_answers n left a' same' (subst (λ (b : Bool). Gathers p.front p.begun block p.at front' begun' at' b) z g))

  pub pass_stops : (start p : Point) → Upto block start p → (length block ≤ p.at) ⊎ (length p.memory.out < p.written + output_size)
      → Passes block start p
  pass_stops start p s h = s.goes p (stops h)

-- ---- where the walk comes to

line_shorter : (bytes : List ℕ) → line_ends bytes ≡ true → length (line_in bytes) < length bytes
unfolding line_ends line_in
line_shorter [] h = clash h refl
line_shorter (c ∷ cs) h = by (eqb c 10) h (line_shorter cs)
  where
    by : (b : Bool) → (b || line_ends cs) ≡ true → (line_ends cs ≡ true → length (line_in cs) < length cs) → length (cond b [] (c ∷ line_in cs)) < suc (length cs)
    by true f more = omega arith
    by false f more = omega (arith, more f)

module _ (block : List ℕ) where
  -- the place after a line is past its first byte, and in the block
  pub gathered_at : (front : List ℕ) (begun at : ℕ) (front' : List ℕ) (begun' at' : ℕ) (e : Bool) → at < length block
      → Gathers front begun block at front' begun' at' e → (at < at') × (at' ≤ length block)
  gathered_at front begun at front' begun' at' true l g =
      let short = line_shorter (drop at block) (sym g.told) in
      (omega (arith, g.place), omega (arith, g.place, short, length-drop at block))
  gathered_at front begun at front' begun' at' false l g = (omega (arith, g.place), omega (arith, g.place))

  pub pass_at : {p q : Point} → Passes block p q → p.at ≤ length block → (p.at ≤ q.at) × (q.at ≤ length block)
  pass_at (stops h) l = (omega arith, l)
  pass_at {p} (begins front' begun' at' on g w) l =
      let here = gathered_at p.front p.begun p.at front' begun' at' false on.0 g in
      let rest = pass_at w here.1 in
      (omega (arith, here.0, rest.0), rest.1)
  pass_at {p} (answers front' begun' at' n left on g s w) l =
      let here = gathered_at p.front p.begun p.at front' begun' at' true on.0 g in
      let rest = pass_at w here.1 in
      (omega (arith, here.0, rest.0), rest.1)

  -- a walk that goes on takes a byte at least
  pass_goes : {p q : Point} → Passes block p q → GoesOn block p → p.at < q.at
  pass_goes (stops h) on = ⊎_elim (λ l. omega (arith, l, on.0)) (λ l. absurd (omega (arith, l, on.1))) h
  pass_goes {p} (begins front' begun' at' on g w) h =
      let here = gathered_at p.front p.begun p.at front' begun' at' false on.0 g in
      omega (arith, here.0, (pass_at w here.1).0)
  pass_goes {p} (answers front' begun' at' n left on g s w) h =
      let here = gathered_at p.front p.begun p.at front' begun' at' true on.0 g in
      omega (arith, here.0, (pass_at w here.1).0)

  -- the bytes given are in the output
  pass_written : {p q : Point} → Passes block p q → p.written ≤ length p.memory.out → q.written ≤ length q.memory.out
  pass_written (stops h) l = l
  pass_written (begins front' begun' at' on g w) l = pass_written w l
  pass_written {p} (answers front' begun' at' n left on g s w) l =
      let mine = output_after p.written p.memory in
      let fit = answers-fit mine (take begun' front') n left (rules-passed mine (unrefused mine (take begun' front') n left s)).counted
      (stepped_answers mine (take begun' front') n left s) in
      pass_written w (omega (arith, fit, l, length-append (take p.written p.memory.out) left.out, length-take p.written p.memory.out))

  pass_counted : {p q : Point} → Passes block p q → Counted p.memory.counts → Counted q.memory.counts
  pass_counted (stops h) c = c
  pass_counted (begins front' begun' at' on g w) c = pass_counted w c
  pass_counted {p} (answers front' begun' at' n left on g s w) c =
      let mine = output_after p.written p.memory in
      let h = rules-passed mine (unrefused mine (take begun' front') n left s) in
      pass_counted w (answers-counted mine left n h.ready h.counted (take begun' front') (stepped_answers mine (take begun' front') n left s))

-- what the caller of a block learns where the memory breaks no rule
module _ (m : Memory) (front : List ℕ) (begun : ℕ) (block : List ℕ) (r : Reached) (m' : Memory) (front' : List ℕ)
    (t : BlockTaken m front begun block r m' front') (ok : verdict (input_rules m front) ≡ 0) where
  pub block_at : at_of r ≤ length block
  block_at = (pass_at block (t.passes ok).1 (omega arith)).1

  pub block_goes : 0 < length block → 0 < at_of r
  block_goes l = pass_goes block (t.passes ok).1 (l, (input_passed m front ok).0.out)

  pub block_written : written_of r ≤ length m'.out
  block_written = pass_written block (t.passes ok).1 (omega arith)

  -- and it breaks none after the call
  pub block-passed : SameLengths m m' → length front' ≡ length front → verdict (input_rules m' front') ≡ 0
  block-passed same long =
      let i = input_passed m front ok in
      passed_input m' front' (still_passed m m' i.0 same (pass_counted block (t.passes ok).1 i.0.counted)) (omega (arith, long, i.1))

-- and of the end
pub end-written : (m : Memory) (front : List ℕ) (begun : ℕ) (r : Reached) (m' : Memory) → InputEnded m front begun r m'
    → verdict (input_rules m front) ≡ 0 → written_of r ≤ length m'.out
end-written m front begun r m' t ok =
    ⊎_elim
    (λ z. omega (arith, (t.none ok z).0))
    (λ some.
    answers-fit m (take begun front) (written_of r) m' (input_passed m front ok).0.counted (t.line ok (omega (arith, some))))
    (accepts-or begun)

-- what a call promises, of the progress that it tells
pub block-told : {m : Memory} {front : List ℕ} {begun : ℕ} {block : List ℕ} {r : Reached} {m' : Memory} {front' : List ℕ} {p : Progress}
    → r ≡ Ok p → BlockTaken m front begun block r m' front' → BlockTaken m front begun block (Ok p) m' front'
block-told {m} {front} {begun} {block} {r} {m'} {front'} e t = subst (λ (x : Reached). BlockTaken m front begun block x m' front') e t

pub end-told : {m : Memory} {front : List ℕ} {begun : ℕ} {r : Reached} {m' : Memory} {p : Progress}
    → r ≡ Ok p → InputEnded m front begun r m' → InputEnded m front begun (Ok p) m'
end-told {m} {front} {begun} {r} {m'} e t = subst (λ (x : Reached). InputEnded m front begun x m') e t
