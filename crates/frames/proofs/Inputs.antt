-- The input in blocks: however it is cut, and whatever is lent to each call, the outputs are those of its lines.
use Prim.Native.Nat.{ℕ, suc, ◌+◌, ◌-◌, ◌<◌, ◌≤◌}
use native.Mathlib.Omega.{arith}
use mathlib.Core.Path.{◌≡◌, refl, sym, ◌∙◌, ap, ap₂, subst}
use mathlib.Core.Logic.{inl, ⊎_elim}
use mathlib.Core.Bool.{Bool, true, false}
use mathlib.Core.List.{List, [], ◌∷◌, ◌++◌, map, append-nil, append_assoc}
use lib.IntN.{ℤ}
use lib.ListN.{length, take, drop, length-take, length-drop, drop_of_length-le}
use lib.Seq.{take_all, length-take-le, take-append-add, drop-drop, drop-length}
use Rattle.std.specs.Prelude.{Ok}
use Rattle.session.specs.Limits.{max_changes}
use Rattle.promises.specs.Answers.{first_broken}
use Rattle.promises.specs.Rules.{verdict}
use Rattle.promises.proofs.Verdicts.{accepts-or}
use Rattle.frames.specs.Frames.{Frame, frame_of}
use Rattle.frames.specs.Lines.{lines_after, line_in, front_size, Gathers}
use Rattle.frames.specs.Outputs.{each}
use Rattle.frames.specs.Machine.{Memory, output_size, Stepped}
use Rattle.frames.specs.Moments.{start, program}
use Rattle.frames.specs.Moments as moments
use Rattle.frames.specs.Program.{Line, lent, LineByLine, ended, taken, printed_by, bytes_of, Fresh}
use Rattle.frames.specs.Blocks.{input_rules, Reached, written_of, at_of, begun_of, Point, point, output_after, with_output, GoesOn, Passes, stops, begins, answers, BlockTaken, InputEnded, InputCalls, block, again, end, Leads, InputAnswered}
use Rattle.frames.proofs.Fronts.{Like, like_frame, like_more, keeps-front, keeps-long, line_open, lines_open, lines-ended}
use Rattle.frames.proofs.Takes.{rules-passed, passed-rules}
use Rattle.frames.proofs.Passing.{input_passed, unrefused}
use Rattle.frames.proofs.Programs.{whole}

-- ---- lines that make the output

-- the lines that are taken from the memory m on, where `begun` was read of the input before: after the bytes `before`, they print the output
pub record Taking (m : Memory) (begun input before output : List ℕ) : Type 0 where
  pub taken_lines : List Line
  pub goes : LineByLine m taken_lines
  pub prints : before ++ each printed_by taken_lines ≡ output
  pub frames : map frame_of (bytes_of taken_lines) ≡ map frame_of (lines_after begun input)

-- the lines ask nothing of the room and the output before them
lend : (m : Memory) (room : List ℤ) (out : List ℕ) (ls : List Line) → LineByLine (lent m room out) ls → LineByLine m ls
lend m room out [] ended = ended
lend m room out (l ∷ ls) (taken wide long s more) = taken wide long s more

-- a memory that a line was answered in was long enough
fitting : (m : Memory) (line : List ℕ) (n : ℕ) (left : Memory) → Stepped m line (Ok n) left
    → (max_changes ≤ length m.room) × (output_size ≤ length m.out)
fitting m line n left s = let p = rules-passed m (unrefused m line n left s) in (p.room, p.out)

-- ---- the walk over a block

module _ (bytes more output : List ℕ) where
  -- what a point of the walk comes to, with what follows the block
  abbrev From : Point → List ℕ → Type 0
  From p begun = Taking p.memory begun (drop p.at bytes ++ more) (take p.written p.memory.out) output

  module _ (p : Point) (begun front' : List ℕ) (begun' at' : ℕ) (like : Like (take p.begun p.front) begun) (long : front_size ≤ length p.front) where
    abbrev rest : List ℕ
    rest = drop p.at bytes

    like_line : (e : Bool) → Gathers p.front p.begun bytes p.at front' begun' at' e
        → Like (take begun' front') (begun ++ line_in (drop p.at bytes))
    like_line e g =
        subst (λ (w : List ℕ). Like w (begun ++ line_in rest))
        (sym (keeps-front p.front p.begun (line_in rest) front' begun' g.front))
        (like_more (length p.front) (take p.begun p.front) begun (line_in rest) long like)

    -- no line ends: the rest of the block is begun too
    from_open : Gathers p.front p.begun bytes p.at front' begun' at' false
        → From (point front' begun' at' p.written p.memory) (begun ++ line_in (drop p.at bytes)) → From p begun
    from_open g t =
        let none = sym g.told in
        let over : drop at' bytes ≡ [] = ap (λ (k : ℕ). drop k bytes) g.place ∙ drop-length bytes in
        record {
          taken_lines = t.taken_lines;
          goes = t.goes;
          prints = t.prints;
          frames =
              t.frames
              ∙ ap (map frame_of)
              (ap₂ lines_after (ap (λ (w : List ℕ). begun ++ w) (line_open rest none)) (ap (λ (w : List ℕ). w ++ more) over)
              ∙ sym (lines_open begun rest more none));
        }

    -- a line ends
    from-line : (n : ℕ) (left : Memory) → GoesOn bytes p → Gathers p.front p.begun bytes p.at front' begun' at' true
        → Stepped (output_after p.written p.memory) (take begun' front') (Ok n) left
        → From (point front' 0 at' (p.written + n) (with_output (take p.written p.memory.out) left)) [] → From p begun
    unfolding each
    from-line n left on g s t =
        let m = p.memory in
        let l : Line =
        record { bytes = take begun' front'; room = m.room; out = drop p.written m.out; answer = Ok n; left = left } in
        let fit = fitting (output_after p.written m) (take begun' front') n left s in
        let ls = t.taken_lines in
        let long : length (take p.written m.out) ≡ p.written = length-take-le p.written m.out (omega (arith, on.1)) in
        let printed : take (p.written + n) (take p.written m.out ++ left.out) ≡ take p.written m.out ++ take n left.out =
        ap (λ (k : ℕ). take (k + n) (take p.written m.out ++ left.out)) (sym long) ∙ take-append-add (take p.written m.out) left.out n in
        let place : drop at' bytes ≡ drop (suc (length (line_in rest))) rest =
        ap (λ (k : ℕ). drop k bytes) (g.place ∙ (let e : p.at + length (line_in rest) + 1 ≡ p.at + suc (length (line_in rest)) = omega arith in e))
        ∙ sym (drop-drop (suc (length (line_in rest))) p.at bytes) in
        record {
          taken_lines = l ∷ ls;
          goes = taken fit.0 fit.1 s (lend left left.room (take p.written m.out ++ left.out) ls t.goes);
          prints =
              sym (append_assoc (take p.written m.out) (take n left.out) (each printed_by ls))
              ∙ ap (λ (w : List ℕ). w ++ each printed_by ls) (sym printed)
              ∙ t.prints;
          frames =
              ap₂ (λ (x : Frame) (xs : List Frame). x ∷ xs) (like_frame (take begun' front') (begun ++ line_in rest) (like_line true g))
              (t.frames ∙ ap (λ (w : List ℕ). map frame_of (lines_after [] (w ++ more))) place)
              ∙ ap (map frame_of) (sym (lines-ended begun rest more (sym g.told)));
        }

  pass_takes : {p q : Point} → Passes bytes p q → (begun : List ℕ) → Like (take p.begun p.front) begun → front_size ≤ length p.front
      → ((begun' : List ℕ) → Like (take q.begun q.front) begun' → From q begun') → From p begun
  pass_takes (stops h) begun like long then = then begun like
  pass_takes {p} (begins front' begun' at' on g w) begun like long then =
      let k = keeps-long p.front p.begun _ front' begun' g.front in
      from_open p begun front' begun' at' like long g
      (pass_takes w _ (like_line p begun front' begun' at' like long false g) (omega (arith, k, long)) then)
  pass_takes {p} (answers front' begun' at' n left on g s w) begun like long then =
      let k = keeps-long p.front p.begun _ front' begun' g.front in
      from-line p begun front' begun' at' like long n left on g s (pass_takes w [] (inl refl) (omega (arith, k, long)) then)

-- ---- the calls one after the other

module _ (m : Memory) (begun input output : List ℕ) (room : List ℤ) (out front : List ℕ) (used : ℕ) (bytes more : List ℕ)
    (r : Reached) (m' : Memory) (front' : List ℕ) (begun-is : take used front ≡ begun) (input-is : bytes ++ more ≡ input)
    (t : BlockTaken (lent m room out) front used bytes r m' front')
    (then : (line' : List ℕ) → Like (take (begun_of used r) front') line' → Taking m' line' (drop (at_of r) bytes ++ more) [] output)
    (line : List ℕ) (like : Like begun line) where
  abbrev mine : Memory
  mine = lent m room out

  abbrev all : List ℕ
  all = take (written_of r) m'.out ++ output

  block-carried : verdict (input_rules (lent m room out) front) ≡ 0 → Taking m line input [] (take (written_of r) m'.out ++ output)
  block-carried ok =
      let w =
      pass_takes bytes more all (t.passes ok).1 line (subst (λ (x : List ℕ). Like x line) (sym begun-is) like) (input_passed mine front ok).1
      (λ line' k.
      let n = then line' k in
      record { taken_lines = n.taken_lines; goes = n.goes; prints = ap (λ (x : List ℕ). take (written_of r) m'.out ++ x) n.prints; frames = n.frames }) in
      record {
        taken_lines = w.taken_lines;
        goes = lend m room out w.taken_lines w.goes;
        prints = w.prints;
        frames = w.frames ∙ ap (λ (x : List ℕ). map frame_of (lines_after line x)) input-is;
      }

  block_refused : (verdict (input_rules (lent m room out) front) ≡ 0 → ⊥) → Taking m line input [] (take (written_of r) m'.out ++ output)
  block_refused bad =
      let u = t.refuses bad in
      let same : take (begun_of used r) front' ≡ begun = ap₂ take u.0.3 u.2 ∙ begun-is in
      let n = then line (subst (λ (x : List ℕ). Like x line) (sym same) like) in
      record {
        taken_lines = n.taken_lines;
        goes = lend m room out n.taken_lines (subst (λ (x : Memory). LineByLine x n.taken_lines) u.1 n.goes);
        prints = n.prints ∙ ap (λ (k : ℕ). take k m'.out ++ output) (sym u.0.1);
        frames =
            n.frames ∙ ap (λ (k : ℕ). map frame_of (lines_after line (drop k bytes ++ more))) u.0.2
            ∙ ap (λ (x : List ℕ). map frame_of (lines_after line x)) input-is;
      }

  block_takes : Taking m line input [] (take (written_of r) m'.out ++ output)
  block_takes = ⊎_elim block-carried block_refused (accepts-or (verdict (input_rules mine front)))

-- a line that was begun is the last one
last_line : (line : List ℕ) → 0 < length line → lines_after line [] ≡ line ∷ []
unfolding lines_after
last_line [] h = absurd (omega arith)
last_line (c ∷ cs) h = refl

module _ (m : Memory) (begun : List ℕ) (room : List ℤ) (out front : List ℕ) (used : ℕ) (r : Reached) (m' : Memory)
    (begun-is : take used front ≡ begun) (t : InputEnded (lent m room out) front used r m') (ok : verdict (input_rules (lent m room out) front) ≡ 0)
    (line : List ℕ) (like : Like begun line) where
  end_none : used ≡ 0 → Taking m line [] [] (take (written_of r) m'.out)
  unfolding each lines_after
  end_none z =
      let none : begun ≡ [] = sym begun-is ∙ ap (λ (k : ℕ). take k front) z in
      let empty : line ≡ [] = ⊎_elim (λ e. sym e ∙ none) (λ l. absurd (omega (arith, l.0, ap length none))) like in
      record {
        taken_lines = [];
        goes = ended;
        prints = ap (λ (k : ℕ). take k m'.out) (sym (t.none ok z).0);
        frames = ap (λ (x : List ℕ). map frame_of (lines_after x [])) (sym empty);
      }

  end_line : 0 < used → Taking m line [] [] (take (written_of r) m'.out)
  unfolding each
  end_line some =
      let mine = lent m room out in
      let l : Line = record { bytes = take used front; room = room; out = out; answer = Ok (written_of r); left = m' } in
      let s : Stepped mine (take used front) (Ok (written_of r)) m' =
      record { refuses = λ bad. absurd (bad (passed-rules mine (input_passed mine front ok).0)); answers = λ z. ((written_of r), refl, t.line ok some) } in
      let fit = fitting mine (take used front) (written_of r) m' s in
      let long : 0 < length line =
      ⊎_elim (λ e. omega (arith, ap length e, ap length begun-is, length-take used front, (input_passed mine front ok).1)) (λ l. omega (arith, l.1)) like in
      record {
        taken_lines = l ∷ [];
        goes = taken fit.0 fit.1 s ended;
        prints = append-nil (take (written_of r) m'.out);
        frames =
            ap (λ (x : Frame). x ∷ []) (ap frame_of begun-is ∙ like_frame begun line like) ∙ ap (map frame_of) (sym (last_line line long));
      }

  end_takes : Taking m line [] [] (take (written_of r) m'.out)
  end_takes = ⊎_elim end_none (λ some. end_line (omega (arith, some))) (accepts-or used)

-- the end that is not refused
end-passed : (m : Memory) (front : List ℕ) (used : ℕ) (r : Reached) (m' : Memory) → InputEnded m front used r m' → first_broken r ≡ 0
    → verdict (input_rules m front) ≡ 0
end-passed m front used r m' t told =
    ⊎_elim (λ ok. ok) (λ bad. absurd (bad (sym (t.refuses bad).0.0 ∙ told))) (accepts-or (verdict (input_rules m front)))

-- one that is refused takes nothing and prints nothing
again_takes : (m : Memory) (input output : List ℕ) (room : List ℤ) (out front : List ℕ) (used : ℕ) (r : Reached) (m' : Memory) (line : List ℕ)
    → InputEnded (lent m room out) front used r m' → (first_broken r ≡ 0 → ⊥) → Taking m' line input [] output
    → Taking m line input [] (take (written_of r) m'.out ++ output)
again_takes m input output room out front used r m' line t some n =
    let u = t.refuses (λ ok. some (t.told ok).0) in
    record {
      taken_lines = n.taken_lines;
      goes = lend m room out n.taken_lines (subst (λ (x : Memory). LineByLine x n.taken_lines) u.1 n.goes);
      prints = n.prints ∙ ap (λ (k : ℕ). take k m'.out ++ output) (sym u.0.1);
      frames = n.frames;
    }

pub calls-take : {m : Memory} {begun input output : List ℕ} → InputCalls m begun input output → (line : List ℕ) → Like begun line
    → Taking m line input [] output
calls-take {m} {begun} {input} (block {output = output} room out front used bytes more r m' front' begun-is input-is t w) line like =
    block_takes m begun input output room out front used bytes more r m' front' begun-is input-is t (λ line' k. calls-take w line' k) line like
calls-take {m} {input = input} (again {output = output} room out front used r m' begun-is t some w) line like =
    again_takes m input output room out front used r m' line t some (calls-take w line like)
calls-take {m} {begun} (end room out front used r m' begun-is t told) line like =
    end_takes m begun room out front used r m' begun-is t (end-passed (lent m room out) front used r m' t told) line like

-- ---- the theorem

-- the calls take the lines of the input one after the other, and the demands hold of these lines
pub input_answered : (m : Memory) (input output : List ℕ) → Fresh m → InputCalls m [] input output → InputAnswered m input output
input_answered m input output fresh calls =
    let t = calls-take calls [] (inl refl) in
    record { lines = t.taken_lines; taken = t.goes; prints = t.prints; frames = t.frames; whole = whole m t.taken_lines fresh t.goes }

-- so the outputs one after the other are those of the program
pub prints-program : (m : Memory) (input output : List ℕ) → Fresh m → InputCalls m [] input output → output ≡ program input
prints-program m input output fresh calls =
    let a = input_answered m input output fresh calls in
    sym a.prints ∙ a.whole.prints ∙ ap (moments.output start) a.frames

-- ---- a caller's sequence, call by call

pub leads-none : (m : Memory) (begun : List ℕ) → Leads m begun [] [] m begun
leads-none m begun _ _ c = c

pub leads_then : (m : Memory) (begun a o : List ℕ) (m' : Memory) (begun' b p : List ℕ) (m'' : Memory) (begun'' : List ℕ) → Leads m begun a o m' begun'
    → Leads m' begun' b p m'' begun'' → Leads m begun (a ++ b) (o ++ p) m'' begun''
leads_then m begun a o m' begun' b p m'' begun'' l k more rest c =
    rw (append_assoc a b more, append_assoc o p rest) (l (b ++ more) (p ++ rest) (k more rest c))

-- in a block, of which the bytes before the place `at` are taken, and answered by `out`
abbrev pub Within : Memory → List ℕ → List ℕ → List ℕ → Memory → List ℕ → ℕ → Type 0
Within m begun bytes out m' begun' at =
    (more rest : List ℕ) → InputCalls m' begun' (drop at bytes ++ more) rest → InputCalls m begun (bytes ++ more) (out ++ rest)

pub within-start : (m : Memory) (begun bytes : List ℕ) → Within m begun bytes [] m begun 0
within-start m begun bytes _ _ c = c

pub within_step : (m : Memory) (begun bytes out : List ℕ) (m₁ : Memory) (front : List ℕ) (used at : ℕ) (r : Reached) (m₂ : Memory) (front' : List ℕ)
    → Within m begun bytes out m₁ (take used front) at → BlockTaken m₁ front used (take (length bytes - at) (drop at bytes)) r m₂ front'
    → Within m begun bytes (out ++ take (written_of r) m₂.out) m₂ (take (begun_of used r) front') (at + at_of r)
within_step m begun bytes out m₁ front used at r m₂ front' w t more rest c =
    let part : take (length bytes - at) (drop at bytes) ≡ drop at bytes =
    take_all (length bytes - at) (drop at bytes) (omega (arith, length-drop at bytes)) in
    let t' : BlockTaken m₁ front used (drop at bytes) r m₂ front' =
    subst (λ (b : List ℕ). BlockTaken m₁ front used b r m₂ front') part t in
    rw (append_assoc out (take (written_of r) m₂.out) rest)
    (w more (take (written_of r) m₂.out ++ rest)
    (block m₁.room m₁.out front used (drop at bytes) more r m₂ front' refl refl t'
    (subst (λ (b : List ℕ). InputCalls m₂ (take (begun_of used r) front') (b ++ more) rest) (sym (drop-drop (at_of r) at bytes)) c)))

pub within_end : (m : Memory) (begun bytes out : List ℕ) (m' : Memory) (begun' : List ℕ) (at : ℕ) → length bytes ≤ at
    → Within m begun bytes out m' begun' at → Leads m begun bytes out m' begun'
within_end m begun bytes out m' begun' at l w more rest c =
    w more rest (subst (λ (b : List ℕ). InputCalls m' begun' (b ++ more) rest) (sym (drop_of_length-le bytes l)) c)

-- the end ends it
pub leads-end : (m : Memory) (begun bytes out : List ℕ) (m' : Memory) (front : List ℕ) (used : ℕ) (r : Reached) (m'' : Memory)
    → Leads m begun bytes out m' (take used front) → InputEnded m' front used r m'' → first_broken r ≡ 0
    → InputCalls m begun bytes (out ++ take (written_of r) m''.out)
leads-end m begun bytes out m' front used r m'' l t told =
    rw (append-nil bytes) at (l [] (take (written_of r) m''.out) (end m'.room m'.out front used r m'' refl t told))
