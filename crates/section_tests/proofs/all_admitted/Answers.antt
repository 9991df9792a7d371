-- `all_admitted` meets its contract: the halves that are compared hold the samples.
use Prim.Native.Nat.{ℕ}
use native.Mathlib.Omega.{arith}
use mathlib.Core.Path.{◌≡◌, refl, sym, ap, ◌∙◌}
use mathlib.Core.List.{List, ◌++◌}
use lib.ListN.{length, get_or, take, drop, replicate}
use lib.Seq.{length-take-le}
use Rattle.simulation.specs.Sets.{Set, all_below}
use Rattle.simulation.proofs.Sets.{all_make}
use Rattle.bits.specs.Word.{members}
use Rattle.session.specs.Limits.{word_bits, max_nodes}
use Rattle.session.specs.Trigger.{matches, accepts}
use Rattle.session.specs.Tests.{sparse}
use Rattle.bits.proofs.Words.{zero-members}
use Rattle.section_tests.proofs.Unadmitted.{sparse-none, halves_small, sparse-turned}
use Rattle.sections.proofs.Fills.{front_read, front-inside}
use Rattle.section_tests.proofs.all_admitted.Goals as goal
use Rattle.section_tests.proofs.all_admitted.Goals.{After-narrow, Start}

abbrev nodes : Start → ℕ
nodes c = length c.args.marked.now.marks.now

abbrev zeros : List ℕ
zeros = replicate max_nodes 0

-- the array has room for them
room : (c : Start) → nodes c ≡ length (take (nodes c) zeros)
room c = sym (length-take-le (nodes c) zeros c.args.marked.now.few)

-- the array holds the samples, and they are what is read of it
held : (c : After-narrow) → c.narrow.new.place ≡ c.args.marked.now.samples.now
held c = c.narrow.ensures ∙ halves_small c.args.marked.now.samples.now 0 refl c.requires

samples-read : (c : After-narrow)
    → let n = length c.args.marked.now.marks.now in
    take n (c.narrow.new.place ++ drop n zeros) ≡ c.args.marked.now.samples.now
samples-read c =
    front_read zeros c.narrow.new.place c.args.marked.now.samples.now (length c.args.marked.now.marks.now) (held c) c.args.marked.now.paired

pub returns-then-marked-eq0 : goal.returns-then-marked-eq0
returns-then-marked-eq0 c =
    let a = c.args in
    let test : ℕ → Set = λ u. accepts word_bits (members a.inverted u) (get_or a.patterns.now.masks.now u 0) (get_or a.patterns.now.values.now u 0) in
    sym
    (all_make (length a.patterns.now.masks.now) (λ u. sparse a.marked.now.samples.now a.marked.now.marks.now (test u) u)
    (λ u l.
    sparse-none a.marked.now.samples.now a.marked.now.marks.now (test u) u
    (ap (λ (X : Set). X u) (sym c.args.marked.now.gathered) ∙ ap (λ (w : ℕ). members w u) c.if-marked-eq0.true ∙ zero-members u)))

pub slice_bounds-narrow-end : goal.slice_bounds-narrow-end
slice_bounds-narrow-end c =
    room (goal.at.slice_bounds-narrow-end c).Start

pub narrow-requires : goal.narrow-requires
narrow-requires c =
    (c.args.marked.now.paired ∙ room (goal.at.narrow-requires c).Start, omega arith)

pub slice_bounds-words-end-2 : goal.slice_bounds-words-end-2
slice_bounds-words-end-2 c =
    front-inside c.narrow.new.place c.args.marked.now.samples.now (drop (nodes (goal.at.slice_bounds-words-end-2 c).Start) zeros) (nodes (goal.at.slice_bounds-words-end-2 c).Start) (held (goal.at.slice_bounds-words-end-2 c).After-narrow) c.args.marked.now.paired

pub slice_bounds-halves-end : goal.slice_bounds-halves-end
slice_bounds-halves-end c =
    sym (ap length (samples-read (goal.at.slice_bounds-halves-end c).After-narrow) ∙ c.args.marked.now.paired)

pub invariant_of-halves : goal.invariant_of-halves
invariant_of-halves c =
    record {
      paired = ap length (samples-read (goal.at.invariant_of-halves c).After-narrow) ∙ c.args.marked.now.paired;
      few = c.args.marked.now.few;
      gathered = c.args.marked.now.gathered;
    }

pub returns : goal.returns
returns c =
    let a = c.args in
    c.both_admitted.ensures
    ∙ ap
    (λ (ss : List ℕ).
    all_below (length a.patterns.now.masks.now) (λ u. sparse ss a.marked.now.marks.now (matches word_bits (members c.turned_states.result u) (get_or a.patterns.now.masks.now u 0) (get_or a.patterns.now.values.now u 0)) u))
    (samples-read (goal.at.returns c).After-narrow)
    ∙ sparse-turned a.marked.now.samples.now a.marked.now.marks.now a.patterns.now.masks.now a.patterns.now.values.now a.inverted c.turned_states.result c.turned_states.ensures
