-- `half_admitted` meets its contract: the halves that are compared hold the marks of these states.
use Prim.Native.Nat.{ℕ, ◌+◌, ◌/◌, ◌^◌}
use native.Mathlib.Omega.{arith}
use mathlib.Core.Path.{◌≡◌, sym, ap, subst, ◌∙◌}
use mathlib.Core.Bool.{Bool}
use mathlib.Core.List.{List, ◌++◌}
use lib.ListN.{length, get_or, take, drop, replicate}
use lib.Seq.{length-take-le}
use Rattle.simulation.specs.Sets.{Set, all_below}
use Rattle.simulation.proofs.Sets.{all_make}
use Rattle.simulation.proofs.Edges.{all_same}
use Rattle.bits.specs.Word.{members}
use Rattle.bits.proofs.Words.{zero-members, shifted_members}
use Rattle.bits.proofs.Gathers.{gathers}
use Rattle.session.specs.Limits.{word_bits, max_nodes}
use Rattle.session.specs.Trigger.{matches}
use Rattle.session.specs.Tests.{sparse, halves}
use Rattle.section_tests.proofs.Unadmitted.{sparse-none, halves_long, sparse-half, used_half, admitted}
use Rattle.sections.proofs.Fills.{front_read, front-inside}
use Rattle.section_tests.proofs.half_admitted.Goals as goal
use Rattle.section_tests.proofs.half_admitted.Goals.{After-narrow, Start}

abbrev zeros : List ℕ
zeros = replicate max_nodes 0

-- the array has room for them
room : (c : Start) → let n = length c.args.marked.now.marks.now in n ≡ length (take n zeros)
room c = sym (length-take-le (length c.args.marked.now.marks.now) zeros c.args.marked.now.few)

-- what is read of the array
signs_read : (c : After-narrow)
    → let a = c.args in
    let n = length a.marked.now.marks.now in
    take n (c.narrow.new.place ++ drop n zeros) ≡ halves a.first a.marked.now.marks.now
signs_read c =
    let a = c.args in
    front_read zeros c.narrow.new.place (halves a.first a.marked.now.marks.now) (length a.marked.now.marks.now) c.narrow.ensures
    (halves_long a.marked.now.marks.now a.first)

pub returns-then-some-eq0 : goal.returns-then-some-eq0
returns-then-some-eq0 c =
    let a = c.args in
    let first = a.first in
    sym
    (all_make (length a.patterns.now.masks.now) (admitted a.marked.now.samples.now a.marked.now.marks.now a.turned a.patterns.now.masks.now a.patterns.now.values.now first)
    (λ u l.
    sparse-none a.marked.now.samples.now a.marked.now.marks.now (matches word_bits (members a.turned (first + u)) (get_or a.patterns.now.masks.now u 0) (get_or a.patterns.now.values.now u 0))
    (first + u)
    (ap (λ (X : Set). X (first + u)) (sym c.args.marked.now.gathered)
    ∙ sym (shifted_members first a.marked.now.used u)
    ∙ ap (λ (w : ℕ). members w u) c.if-some-eq0.true
    ∙ zero-members u)))

pub slice_bounds-narrow-end : goal.slice_bounds-narrow-end
slice_bounds-narrow-end c =
    room (goal.at.slice_bounds-narrow-end c).Start

pub narrow-requires : goal.narrow-requires
narrow-requires c =
    (room (goal.at.narrow-requires c).Start, omega (arith, c.requires.1))

pub slice_bounds-signs-end-2 : goal.slice_bounds-signs-end-2
slice_bounds-signs-end-2 c =
    let a = c.args in
    front-inside c.narrow.new.place (halves a.first a.marked.now.marks.now) (drop (length a.marked.now.marks.now) zeros) (length a.marked.now.marks.now) c.narrow.ensures
    (halves_long a.marked.now.marks.now a.first)

pub slice_bounds-all_sparse-end : goal.slice_bounds-all_sparse-end
slice_bounds-all_sparse-end c =
    let a = c.args in
    sym (ap length (signs_read (goal.at.slice_bounds-all_sparse-end c).After-narrow) ∙ halves_long a.marked.now.marks.now a.first)

pub all_sparse-requires : goal.all_sparse-requires
all_sparse-requires c =
    let a = c.args in record {
      samples_len = (c.args.marked.now.paired ∙ sym (ap length (signs_read (goal.at.all_sparse-requires c).After-narrow) ∙ halves_long a.marked.now.marks.now a.first), c.requires.0);
      by_index = λ u l.
          subst (λ (ms : List ℕ). members (a.marked.now.used / 2 ^ a.first) u ≡ gathers (length ms) (λ v. members (get_or ms v 0)) u) (sym (signs_read (goal.at.all_sparse-requires c).After-narrow))
          (used_half a.marked.now.marks.now a.first a.marked.now.used c.args.marked.now.gathered u l);
    }

pub returns : goal.returns
returns c =
    let a = c.args in
    let first = a.first in
    let test : ℕ → ℕ → Set = λ turned u. matches word_bits (members turned u) (get_or a.patterns.now.masks.now u 0) (get_or a.patterns.now.values.now u 0) in
    c.all_sparse.ensures
    ∙ ap (λ (ms : List ℕ). all_below (length a.patterns.now.masks.now) (λ u. sparse a.marked.now.samples.now ms (test (a.turned / 2 ^ first) u) u)) (signs_read (goal.at.returns c).After-narrow)
    ∙ all_same (length a.patterns.now.masks.now) (λ u. sparse a.marked.now.samples.now (halves first a.marked.now.marks.now) (test (a.turned / 2 ^ first) u) u)
    (admitted a.marked.now.samples.now a.marked.now.marks.now a.turned a.patterns.now.masks.now a.patterns.now.values.now first)
    (λ u l.
    sparse-half a.marked.now.marks.now first a.marked.now.samples.now (test (a.turned / 2 ^ first) u) u (omega (arith, c.requires.0))
    ∙ ap (λ (b : Bool). sparse a.marked.now.samples.now a.marked.now.marks.now (matches word_bits b (get_or a.patterns.now.masks.now u 0) (get_or a.patterns.now.values.now u 0)) (first + u))
    (shifted_members first a.turned u))
