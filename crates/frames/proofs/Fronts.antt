-- The front of a line: it is enough to tell its frame, and it is kept byte by byte.
use Prim.Native.Nat.{ℕ, suc, ◌+◌, ◌-◌, ◌<◌, ◌≤◌}
use native.Mathlib.Omega.{arith}
use native.Mathlib.Numerals.{add-one}
use mathlib.Core.Path.{◌≡◌, refl, sym, ◌∙◌, ap, ap₂, subst}
use mathlib.Core.Logic.{◌⊎◌, inl, inr, ⊎_elim}
use mathlib.Core.Bool.{Bool, true, false, ◌&&◌, ◌||◌, cond}
use mathlib.Core.List.{List, [], ◌∷◌, ◌++◌, append-nil, append_assoc}
use lib.Dec.{leb, eqb}
use lib.ListN.{length, get_or, set, take, drop, length-append, length-take, length-drop, take-append-drop, drop_of_length-le}
use lib.Seq.{take_all, take-append-le, take-take, length-take-le, take-append_seam, drop-append_seam, take-suc-set, drop-set-lt, drop-length, drop-cons, drop-drop}
use borrow.Author.Tests.{eq-eqb, ne_eqb}
use Rattle.simulation.proofs.Sets.{clash, and_none}
use Rattle.simulation.proofs.Search.{lt-or-le}
use Rattle.frames.specs.Digits.{hexadecimal, number}
use Rattle.frames.specs.Frames.{nothing, spoken, frame_of}
use Rattle.frames.specs.Lines.{lines_after, line_ends, line_in, longest_frame, front_size, front_with, Keeps, Gathers}

-- ---- the front of a line tells its frame

-- more fields than any kind has
spoken-long : (kind : ℕ) (ds : List ℕ) → longest_frame < 2 + length ds → spoken kind ds ≡ nothing
unfolding spoken
spoken-long kind ds l =
    let other : (n : ℕ) → 2 + n ≤ longest_frame → eqb (length ds) n ≡ false = λ n h. ne_eqb (length ds) n (λ e. absurd (omega arith)) in
    let no : (k n : ℕ) → 2 + n ≤ longest_frame → (eqb kind k && eqb (length ds) n) ≡ false = λ k n h. and_none (eqb kind k) (other n h) in
    rw (
      no 1 12 (omega arith),
      no 2 4 (omega arith),
      no 3 0 (omega arith),
      no 4 8 (omega arith),
      no 5 8 (omega arith),
      no 6 0 (omega arith),
      no 7 12 (omega arith),
      no 10 18 (omega arith),
    )

-- a line longer than any frame is none
line-long : (line : List ℕ) → longest_frame < length line → frame_of line ≡ nothing
unfolding frame_of
line-long line l = by (leb 2 (length line) && hexadecimal line)
  where
    by : (b : Bool) → cond b (spoken (number (take 2 line)) (drop 2 line)) nothing ≡ nothing
    by true = spoken-long (number (take 2 line)) (drop 2 line) (omega (arith, length-drop 2 line))
    by false = refl

-- the front kept of a line, and the line: the same, or both longer than any frame
abbrev pub Like : List ℕ → List ℕ → Type 0
Like front line = (front ≡ line) ⊎ ((longest_frame < length front) × (longest_frame < length line))

pub like_frame : (front line : List ℕ) → Like front line → frame_of front ≡ frame_of line
like_frame front line h = ⊎_elim (λ e. ap frame_of e) (λ l. line-long front l.0 ∙ sym (line-long line l.1)) h

-- with the same bytes after both, and of the front no more than a memory holds
pub like_more : (n : ℕ) (front line bytes : List ℕ) → front_size ≤ n → Like front line → Like (take n (front ++ bytes)) (line ++ bytes)
like_more n front line bytes h k =
    ⊎_elim
    (λ e.
    ⊎_elim
    (λ l. inr (omega (arith, length-take n (front ++ bytes)), omega (arith, ap length (ap (λ (w : List ℕ). w ++ bytes) e))))
    (λ l. inl (take_all n (front ++ bytes) l ∙ ap (λ (w : List ℕ). w ++ bytes) e))
    (lt-or-le n (length (front ++ bytes))))
    (λ l. inr (omega (arith, l.0, length-take n (front ++ bytes), length-append front bytes), omega (arith, l.1, length-append line bytes)))
    k

-- of a line a front longer than any frame is enough
pub front_enough : (n : ℕ) (line : List ℕ) → front_size ≤ n → frame_of (take n line) ≡ frame_of line
front_enough n line h = like_frame (take n line) line (like_more n [] [] line h (inl refl))

-- ---- bytes kept after a front

take-front : (n : ℕ) (line bytes : List ℕ) → take n (take n line ++ bytes) ≡ take n (line ++ bytes)
take-front n line bytes =
    ⊎_elim
    (λ l.
    let long : length (take n line) ≡ n = length-take-le n line (omega arith) in
    take-append-le n (take n line) bytes (omega (arith, long))
    ∙ take-take n n line (omega arith)
    ∙ sym (take-append-le n line bytes (omega arith)))
    (λ l. ap (λ (w : List ℕ). take n (w ++ bytes)) (take_all n line l))
    (lt-or-le n (length line))

drop_more : (a b : List ℕ) (j k : ℕ) → j ≤ k → drop j a ≡ drop j b → drop k a ≡ drop k b
drop_more a b j k h e =
    let k-is : j + (k - j) ≡ k = omega arith in
    subst (λ (i : ℕ). drop i a ≡ drop i b) k-is (sym (drop-drop (k - j) j a) ∙ ap (drop (k - j)) e ∙ drop-drop (k - j) j b)

module _ (memory : List ℕ) (used : ℕ) where
  -- the whole front at first, or all of the memory
  pub keeps-part : used ≤ length memory → Keeps memory used [] memory used
  keeps-part l =
      let front : front_with memory used [] ≡ take used memory =
      ap (take (length memory)) (append-nil (take used memory)) ∙ take_all (length memory) (take used memory) (omega (arith, length-take used memory)) in
      let long : used ≡ length (take used memory) = sym (length-take-le used memory l) in
      record {
        many = long ∙ ap length (sym front);
        left = rw (front, ← long) (sym (take-append-drop used memory));
      }

  module _ (over : length memory ≤ used) (bytes : List ℕ) where
    pub keeps-full : Keeps memory used bytes memory (length memory)
    keeps-full =
        let front : front_with memory used bytes ≡ memory =
        ap (λ (w : List ℕ). take (length memory) (w ++ bytes)) (take_all used memory over) ∙ take-append_seam memory bytes in
        record {
          many = ap length (sym front);
          left = rw (front, drop-length memory) (sym (append-nil memory));
        }

  -- one byte more
  pub keeps_byte : (c : ℕ) → used < length memory → Keeps memory used (c ∷ []) (set memory used c) (used + 1)
  keeps_byte c l =
      let long : length (take used memory ++ (c ∷ [])) ≡ used + 1 =
      length-append (take used memory) (c ∷ []) ∙ ap (λ (k : ℕ). k + 1) (length-take-le used memory (omega arith)) in
      let front : front_with memory used (c ∷ []) ≡ take used memory ++ (c ∷ []) =
      take_all (length memory) (take used memory ++ (c ∷ [])) (omega (arith, long)) in
      record {
        many = sym (ap length front ∙ long);
        left = rw (front, long)
            (sym (take-append-drop (used + 1) (set memory used c))
            ∙ ap₂ ◌++◌ (ap (λ (k : ℕ). take k (set memory used c)) (add-one used) ∙ take-suc-set memory used c l)
            (drop-set-lt (used + 1) memory used c (omega arith)));
      }

-- the front is what it says, and no longer than its memory
module _ (memory : List ℕ) (used : ℕ) (bytes memory' : List ℕ) (used' : ℕ) (k : Keeps memory used bytes memory' used') where
  pub keeps-front : take used' memory' ≡ front_with memory used bytes
  keeps-front = ap₂ take k.many k.left ∙ take-append_seam (front_with memory used bytes) _

  pub keeps-inside : used' ≤ length memory
  keeps-inside = omega (arith, k.many, length-take (length memory) (take used memory ++ bytes))

  pub keeps-long : length memory' ≡ length memory
  keeps-long =
      ap length k.left
      ∙ length-append (front_with memory used bytes) (drop (length (front_with memory used bytes)) memory)
      ∙ omega (arith, k.many, keeps-inside, length-drop (length (front_with memory used bytes)) memory)

  keeps_beyond : drop used' memory' ≡ drop used' memory
  keeps_beyond = rw (k.many, k.left) (drop-append_seam (front_with memory used bytes) _)

  -- bytes kept, and then more bytes
  pub keeps-more : (more memory'' : List ℕ) (used'' : ℕ) → Keeps memory' used' more memory'' used'' → Keeps memory used (bytes ++ more) memory'' used''
  keeps-more more memory'' used'' n =
      let front : front_with memory' used' more ≡ front_with memory used (bytes ++ more) =
      rw (keeps-long, keeps-front)
      (take-front (length memory) (take used memory ++ bytes) more ∙ ap (take (length memory)) (append_assoc (take used memory) bytes more)) in
      let grows : used' ≤ used'' =
      omega (arith, n.many, keeps-inside, keeps-long, length-take (length memory') (take used' memory' ++ more), length-append (take used' memory') more, length-take used' memory') in
      record {
        many = n.many ∙ ap length front;
        left =
            n.left
            ∙ ap₂ ◌++◌ front
            (ap (λ (j : ℕ). drop j memory') (sym n.many)
            ∙ drop_more memory' memory used' used'' grows keeps_beyond
            ∙ ap (λ (j : ℕ). drop j memory) (n.many ∙ ap length front));
      }

-- nothing kept after it: the front as it was
pub keeps_same : (memory : List ℕ) (used used' : ℕ) → Keeps memory used [] memory used' → take used' memory ≡ take used memory
keeps_same memory used used' k =
    keeps-front memory used [] memory used' k
    ∙ ap (take (length memory)) (append-nil (take used memory))
    ∙ take_all (length memory) (take used memory) (omega (arith, length-take used memory))

-- ---- bytes gathered one by one

-- the bytes before the place `next` are taken, and no line ended in them
pub record Sofar (memory : List ℕ) (used : ℕ) (block : List ℕ) (at : ℕ) (memory' : List ℕ) (used' next : ℕ) : Type 0 where
  pub bytes : List ℕ
  pub keeps : Keeps memory used bytes memory' used'
  pub line : line_in (drop at block) ≡ bytes ++ line_in (drop next block)
  pub ends : line_ends (drop at block) ≡ line_ends (drop next block)
  pub place : next ≡ at + length bytes

module _ (memory : List ℕ) (used : ℕ) (block : List ℕ) (at : ℕ) where
  pub sofar_start : (used' : ℕ) → Keeps memory used [] memory used' → Sofar memory used block at memory used' at
  sofar_start used' k = record { bytes = []; keeps = k; line = refl; ends = refl; place = omega arith }

  module _ (memory' : List ℕ) (used' next : ℕ) (s : Sofar memory used block at memory' used' next) where
    rest-is : next < length block → drop next block ≡ get_or block next 0 ∷ drop (next + 1) block
    rest-is l = drop-cons block next 0 l ∙ ap (λ (k : ℕ). get_or block next 0 ∷ drop k block) (sym (add-one next))

    pub sofar_more : next < length block → (get_or block next 0 ≡ 10 → ⊥) → (memory'' : List ℕ) (used'' : ℕ)
        → Keeps memory' used' (get_or block next 0 ∷ []) memory'' used'' → Sofar memory used block at memory'' used'' (next + 1)
    unfolding line_in line_ends
    sofar_more l n memory'' used'' k =
        let c = get_or block next 0 in
        let other = ne_eqb (get_or block next 0) 10 n in
        record {
          bytes = s.bytes ++ (c ∷ []);
          keeps = keeps-more memory used s.bytes memory' used' s.keeps (c ∷ []) memory'' used'' k;
          line =
              s.line
              ∙ ap (λ (w : List ℕ). s.bytes ++ line_in w) (rest-is l)
              ∙ rw other (sym (append_assoc s.bytes (c ∷ []) (line_in (drop (next + 1) block))));
          ends = s.ends ∙ ap line_ends (rest-is l) ∙ rw other refl;
          place = omega (arith, s.place, length-append s.bytes (c ∷ []));
        }

    -- a line feed ends the line
    pub sofar_line : next < length block → get_or block next 0 ≡ 10 → Gathers memory used block at memory' used' (next + 1) true
    unfolding line_in line_ends
    sofar_line l e =
        let feed = eq-eqb (get_or block next 0) 10 e in
        let line : line_in (drop at block) ≡ s.bytes =
        s.line ∙ ap (λ (w : List ℕ). s.bytes ++ line_in w) (rest-is l) ∙ rw feed (append-nil s.bytes) in
        record {
          front = rw line s.keeps;
          told = sym (s.ends ∙ ap line_ends (rest-is l) ∙ rw feed refl);
          place = rw line (omega (arith, s.place));
        }

    -- the block is over
    pub sofar_over : length block ≤ next → Gathers memory used block at memory' used' (length block) false
    unfolding line_in line_ends
    sofar_over l =
        let over = drop_of_length-le block l in
        let line : line_in (drop at block) ≡ s.bytes =
        s.line ∙ ap (λ (w : List ℕ). s.bytes ++ line_in w) over ∙ append-nil s.bytes in
        record {
          front = rw line s.keeps;
          told = sym (s.ends ∙ ap line_ends over);
          place = refl;
        }

-- ---- the lines of an input, a block at a time

-- no line ends in the bytes: they are a front of the next
pub line_open : (bytes : List ℕ) → line_ends bytes ≡ false → line_in bytes ≡ bytes
unfolding line_ends line_in
line_open [] h = refl
line_open (c ∷ cs) h = by (eqb c 10) h (line_open cs)
  where
    by : (b : Bool) → (b || line_ends cs) ≡ false → (line_ends cs ≡ false → line_in cs ≡ cs) → cond b [] (c ∷ line_in cs) ≡ c ∷ cs
    by true f more = clash refl f
    by false f more = ap (λ (w : List ℕ). c ∷ w) (more f)

pub lines_open : (begun bytes more : List ℕ) → line_ends bytes ≡ false → lines_after begun (bytes ++ more) ≡ lines_after (begun ++ bytes) more
unfolding line_ends lines_after
lines_open begun [] more h = ap (λ (w : List ℕ). lines_after w more) (sym (append-nil begun))
lines_open begun (c ∷ cs) more h = by (eqb c 10) h (lines_open (begun ++ (c ∷ [])) cs more)
  where
    by : (b : Bool) → (b || line_ends cs) ≡ false
        → (line_ends cs ≡ false → lines_after (begun ++ (c ∷ [])) (cs ++ more) ≡ lines_after ((begun ++ (c ∷ [])) ++ cs) more)
        → cond b (begun ∷ lines_after [] (cs ++ more)) (lines_after (begun ++ (c ∷ [])) (cs ++ more)) ≡ lines_after (begun ++ (c ∷ cs)) more
    by true f next = clash refl f
    by false f next = next f ∙ ap (λ (w : List ℕ). lines_after w more) (append_assoc begun (c ∷ []) cs)

-- a line ends in them
pub lines-ended : (begun bytes more : List ℕ) → line_ends bytes ≡ true
    → lines_after begun (bytes ++ more) ≡ (begun ++ line_in bytes) ∷ lines_after [] (drop (suc (length (line_in bytes))) bytes ++ more)
unfolding line_ends line_in lines_after
lines-ended begun [] more h = clash h refl
lines-ended begun (c ∷ cs) more h = by (eqb c 10) h (lines-ended (begun ++ (c ∷ [])) cs more)
  where
    by : (b : Bool) → (b || line_ends cs) ≡ true
        → (line_ends cs ≡ true → lines_after (begun ++ (c ∷ [])) (cs ++ more)
        ≡ ((begun ++ (c ∷ [])) ++ line_in cs) ∷ lines_after [] (drop (suc (length (line_in cs))) cs ++ more))
        → cond b (begun ∷ lines_after [] (cs ++ more)) (lines_after (begun ++ (c ∷ [])) (cs ++ more))
        ≡ (begun ++ cond b [] (c ∷ line_in cs)) ∷ lines_after [] (drop (suc (length (cond b [] (c ∷ line_in cs)))) (c ∷ cs) ++ more)
    by true f next = ap (λ (w : List ℕ). w ∷ lines_after [] (cs ++ more)) (sym (append-nil begun))
    by false f next =
        next f
        ∙ ap (λ (w : List ℕ). w ∷ lines_after [] (drop (suc (length (line_in cs))) cs ++ more)) (append_assoc begun (c ∷ []) (line_in cs))
