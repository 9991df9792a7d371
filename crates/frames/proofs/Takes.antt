-- What the machine's functions use of its promises.
use Rattle.session.proofs.Tables.{part-from}
use Prim.Native.Nat.{ℕ, ◌+◌, ◌-◌, ◌≤◌}
use native.Mathlib.Nat.{zero-add}
use native.Mathlib.Omega.{arith}
use mathlib.Core.Path.{◌≡◌, refl, sym, ◌∙◌, ap, subst}
use mathlib.Core.Logic.{⊎_elim}
use mathlib.Core.Bool.{Bool, true, false, ◌||◌}
use mathlib.Core.List.{List, [], ◌∷◌, ◌++◌}
use lib.Dec.{ltb, leb}
use lib.IntN.{ℤ}
use lib.ListN.{length, get_or, set, take, drop}
use lib.Seq.{get_or-set_same, get_or-set_other}
use borrow.Author.Tests.{le-ltb, ltb-false, leb-false}
use Rattle.simulation.proofs.Sets.{or_false_l, or_false_r}
use Rattle.std.specs.Prelude.{Ok}
use Rattle.session.specs.Limits.{fixed_size, max_states, max_nodes, max_changes}
use Rattle.listing.specs.Placed.{Placed}
use Rattle.promises.specs.Answers.{Outcome, Summary, accepted, refused, told}
use Rattle.promises.specs.Rules.{rule, verdict, given}
use Rattle.promises.proofs.Verdicts.{accepts-or, verdict_pass}
use Rattle.frames.specs.Frames.{Frame, state, node, run, edit, walk, nothing, frame_of}
use Rattle.frames.specs.Machine.{
  Memory,
  memory,
  links_in,
  counts_size,
  values_in,
  samples_in,
  words_size,
  output_size,
  states_read,
  nodes_read,
  Ready,
  inverted_read,
  read_so_far,
  moved,
  too_small,
  miscounted,
  memory_rules,
  Prints,
  Before,
  After,
  Answers,
  Stepped,
}
use Rattle.frames.proofs.Kept.{state-moment, state-ready, node-moment, node-ready}

-- bytes placed at the front of the output are printed
pub printed-front : (counts words s : List ℕ) (c : List ℤ) {out bytes out' : List ℕ} {n : ℕ} → Placed out 0 bytes out' n
    → Prints bytes (memory counts words s c out) n (memory counts words s c out')
printed-front counts words s c {out} {bytes} {out'} {n} p = record {
  many = p.past ∙ zero-add (length bytes);
  left = ap (memory counts words s c) (p.written ∙ ap (λ (k : ℕ). bytes ++ drop k out) (zero-add (length bytes)));
}

-- what the run loads is what was read so far
pub read_parts : (m : Memory) (inverted : ℕ) → inverted ≡ inverted_read m → let n = states_read m in
    given (take n m.words) (take (values_in + n - values_in) (drop values_in m.words)) (take (links_in + n - links_in) (drop links_in m.counts))
    inverted (take (samples_in + nodes_read m - samples_in) (drop samples_in m.words)) [] []
    ≡ read_so_far m
unfolding read_so_far
read_parts m inverted e =
    rw (
      e,
      part-from m.words values_in (states_read m),
      part-from m.counts links_in (states_read m),
      part-from m.words samples_in (nodes_read m),
    )

-- ---- a memory that breaks no rule of its own

-- the counts are some that lines leave
abbrev pub Counted : List ℕ → Type 0
Counted counts = (get_or counts 0 0 ≤ 1) × (get_or counts 1 0 ≤ max_states) × (get_or counts 2 0 ≤ max_nodes)

-- long enough, room and output too
pub record Passed (m : Memory) : Type 0 where
  pub ready : Ready m
  pub counted : Counted m.counts
  pub room : max_changes ≤ length m.room
  pub out : output_size ≤ length m.out

pub long_enough : (m : Memory) → too_small m ≡ false
    → (counts_size ≤ length m.counts) × (words_size ≤ length m.words) × (fixed_size ≤ length m.session) × (max_changes ≤ length m.room)
    × (output_size ≤ length m.out)
long_enough m z =
    let first = ltb (length m.counts) counts_size in
    let second = ltb (length m.words) words_size in
    let third = ltb (length m.session) fixed_size in
    let fourth = ltb (length m.room) max_changes in
    let fifth = ltb (length m.out) output_size in
    let front = or_false_l (first || second) (third || (fourth || fifth)) z in
    let back = or_false_r (first || second) (third || (fourth || fifth)) z in
    let last = or_false_r third (fourth || fifth) back in (
      ltb-false (length m.counts) counts_size (or_false_l first second front),
      ltb-false (length m.words) words_size (or_false_r first second front),
      ltb-false (length m.session) fixed_size (or_false_l third (fourth || fifth) back),
      ltb-false (length m.room) max_changes (or_false_l fourth fifth last),
      ltb-false (length m.out) output_size (or_false_r fourth fifth last),
    )

counts-right : (m : Memory) → miscounted m ≡ false → Counted m.counts
counts-right m z =
    let first = ltb 1 (get_or m.counts 0 0) in
    let second = ltb max_states (states_read m) in
    let third = ltb max_nodes (nodes_read m) in
    let back = or_false_r first (second || third) z in (
      ltb-false 1 (get_or m.counts 0 0) (or_false_l first (second || third) z),
      ltb-false max_states (states_read m) (or_false_l second third back),
      ltb-false max_nodes (nodes_read m) (or_false_r second third back),
    )

pub rules-passed : (m : Memory) → verdict (memory_rules m) ≡ 0 → Passed m
rules-passed m ok =
    let first = verdict_pass 3 (too_small m) (rule 10 (miscounted m) ∷ []) (omega arith) ok in
    let long = long_enough m first.0 in
    let right = counts-right m (verdict_pass 10 (miscounted m) [] (omega arith) first.1).0 in
    record {
      ready = record { counts = long.0; words = long.1; session = long.2; few_states = right.1; few_nodes = right.2 };
      counted = right;
      room = long.3;
      out = long.4;
    }

pub passed-rules : (m : Memory) → Passed m → verdict (memory_rules m) ≡ 0
unfolding verdict
passed-rules m p =
    rw (
      le-ltb (length m.counts) counts_size p.ready.counts,
      le-ltb (length m.words) words_size p.ready.words,
      le-ltb (length m.session) fixed_size p.ready.session,
      le-ltb (length m.room) max_changes p.room,
      le-ltb (length m.out) output_size p.out,
      le-ltb 1 (get_or m.counts 0 0) p.counted.0,
      le-ltb max_states (get_or m.counts 1 0) p.counted.1,
      le-ltb max_nodes (get_or m.counts 2 0) p.counted.2,
    )

-- ---- a line leaves such counts again

module _ (m m' : Memory) (n : ℕ) (r : Ready m) (c : Counted m.counts) where
  same-counts : (cs : List ℕ) → m'.counts ≡ cs → Counted cs → Counted m'.counts
  same-counts cs e h = subst Counted (sym e) h

  moved-counted : (o : Outcome Summary) → Counted (moved o m.counts)
  moved-counted (accepted s) =
      let other : (i : ℕ) → (i ≡ 0 → ⊥) → get_or (set m.counts 0 1) i 0 ≡ get_or m.counts i 0 = λ i ne. get_or-set_other m.counts 0 i 1 0 ne in (
        omega (arith, get_or-set_same m.counts 0 1 0 (omega (arith, r.counts))),
        omega (arith, c.1, other 1 (λ e. absurd (omega (arith, e)))),
        omega (arith, c.2, other 2 (λ e. absurd (omega (arith, e)))),
      )
  moved-counted (refused k) = c

  before-counted : (f : Frame) → Before f m n m' → Counted m'.counts
  before-counted (state inverted mask value links) w = by (leb max_states (states_read m)) refl
    where
      by : (full : Bool) → leb max_states (states_read m) ≡ full → Counted m'.counts
      by true e = let p = rw e at w in same-counts _ (ap (λ (x : Memory). x.counts) p.left) c
      by false e =
          let p = rw e at w in
          let room = leb-false max_states (states_read m) e in
          let more = state-ready m r inverted mask value links room in
          same-counts _ (ap (λ (x : Memory). x.counts) p.left)
          (omega (arith, c.0, state-moment m r inverted mask value links room), more.few_states, more.few_nodes)
  before-counted (node sample) w = by (leb max_nodes (nodes_read m)) refl
    where
      by : (full : Bool) → leb max_nodes (nodes_read m) ≡ full → Counted m'.counts
      by true e = let p = rw e at w in same-counts _ (ap (λ (x : Memory). x.counts) p.left) c
      by false e =
          let p = rw e at w in
          let room = leb-false max_nodes (nodes_read m) e in
          let more = node-ready m r sample room in
          same-counts _ (ap (λ (x : Memory). x.counts) p.left)
          (omega (arith, c.0, node-moment m r sample room), more.few_states, more.few_nodes)
  before-counted run w = same-counts _ (ap (λ (x : Memory). x.counts) w.prints.left) (moved-counted (told w.answer))
  before-counted (edit k a b) w = same-counts _ (ap (λ (x : Memory). x.counts) w.left) c
  before-counted walk w = same-counts _ (ap (λ (x : Memory). x.counts) w.left) c
  before-counted nothing w = same-counts _ (ap (λ (x : Memory). x.counts) w.left) c

  after-counted : (f : Frame) → After f m n m' → Counted m'.counts
  after-counted (edit k a b) w = same-counts _ (ap (λ (x : Memory). x.counts) w.prints.left) c
  after-counted walk w = same-counts _ (ap (λ (x : Memory). x.counts) w.prints.left) c
  after-counted (state inverted mask value links) w = same-counts _ (ap (λ (x : Memory). x.counts) w.left) c
  after-counted (node sample) w = same-counts _ (ap (λ (x : Memory). x.counts) w.left) c
  after-counted run w = same-counts _ (ap (λ (x : Memory). x.counts) w.left) c
  after-counted nothing w = same-counts _ (ap (λ (x : Memory). x.counts) w.left) c

  pub answers-counted : (line : List ℕ) → Answers m line n m' → Counted m'.counts
  answers-counted line a =
      ⊎_elim
      (λ z. before-counted (frame_of line) (a.before z))
      (λ z. after-counted (frame_of line) (a.after (omega (arith, z, c.0))))
      (accepts-or (get_or m.counts 0 0))

-- ---- a line in such a memory

pub taken-line : (m : Memory) (line : List ℕ) (n : ℕ) (m' : Memory) → verdict (memory_rules m) ≡ 0 → Answers m line n m' → Stepped m line (Ok n) m'
taken-line m line n m' ok w = record { refuses = λ bad. absurd (bad ok); answers = λ z. (n, refl, w) }
