-- The counts and the inverted states are stored, the five sections filled with the lists, one after the other, and the marks cleared.
use native.Mathlib.Omega.{arith}
use Prim.Native.Nat.{◌≤◌}
use mathlib.Core.Path.{◌≡◌, ◌∙◌}
use lib.ListN.{length, length-set}
use borrow.Rule.Slice.PartMut.{same_len_mid}
use Rattle.session.specs.Limits.{fixed_size, max_changes, max_edges, max_nodes, max_states}
use Rattle.promises.specs.Rules.{Given, given_by}
use Rattle.promises.proofs.Loads.{load-counts, load-edges}
use Rattle.loading.proofs.Sections.{sections_written}
use Rattle.sections.proofs.Fills.{section_zeros}
use Rattle.loading.proofs.write_sections.Goals as goal
use Rattle.loading.proofs.write_sections.Goals.{Start}

abbrev loaded : Start → Given
loaded c = given_by c.args.lists.now

-- the memory is long enough, and the lists are short
bounds : (c : Start) → (fixed_size ≤ length c.args.session.now) × (length c.args.lists.now.masks.now ≤ max_states)
    × (length c.args.lists.now.values.now ≡ length c.args.lists.now.masks.now) × (length c.args.lists.now.links.now ≡ length c.args.lists.now.masks.now)
    × (length c.args.lists.now.samples.now ≤ max_nodes) × (length c.args.lists.now.starts.now ≤ max_edges) × (length c.args.lists.now.ends.now ≡ length c.args.lists.now.starts.now)
bounds c = load-counts (length c.args.session.now) max_changes (loaded c) c.requires

pub overflow_cast-session : goal.overflow_cast-session
overflow_cast-session c =
    omega (arith, bounds (goal.at.overflow_cast-session c).Start)

pub bounds-session-0 : goal.bounds-session-0
bounds-session-0 c =
    omega (arith, bounds (goal.at.bounds-session-0 c).Start)

pub overflow_cast-session-2 : goal.overflow_cast-session-2
overflow_cast-session-2 c =
    omega (arith, bounds (goal.at.overflow_cast-session-2 c).Start)

pub bounds-session-1 : goal.bounds-session-1
bounds-session-1 c =
    simp length-set (omega (arith, bounds (goal.at.bounds-session-1 c).Start))

pub overflow_cast-session-3 : goal.overflow_cast-session-3
overflow_cast-session-3 c =
    omega (arith, bounds (goal.at.overflow_cast-session-3 c).Start)

pub bounds-session-2 : goal.bounds-session-2
bounds-session-2 c =
    simp length-set (omega (arith, bounds (goal.at.bounds-session-2 c).Start))

pub bounds-session-3 : goal.bounds-session-3
bounds-session-3 c =
    simp length-set (omega (arith, bounds (goal.at.bounds-session-3 c).Start))

pub slice_bounds-fill_halves-end : goal.slice_bounds-fill_halves-end
slice_bounds-fill_halves-end c =
    simp length-set (omega (arith, bounds (goal.at.slice_bounds-fill_halves-end c).Start))

pub fill_halves-requires : goal.fill_halves-requires
fill_halves-requires c =
    omega (arith, bounds (goal.at.fill_halves-requires c).Start)

pub slice_bounds-fill_halves-end-2 : goal.slice_bounds-fill_halves-end-2
slice_bounds-fill_halves-end-2 c =
    let p = c.fill_halves.auto.place in
    simp (same_len_mid, length-set) (omega (arith, bounds (goal.at.slice_bounds-fill_halves-end-2 c).Start))

pub fill_halves-requires-2 : goal.fill_halves-requires-2
fill_halves-requires-2 c =
    omega (arith, bounds (goal.at.fill_halves-requires-2 c).Start)

pub slice_bounds-fill_words-end : goal.slice_bounds-fill_words-end
slice_bounds-fill_words-end c =
    let p = c.fill_halves.auto.place in
    let q = c.fill_halves-2.auto.place in
    simp (same_len_mid, length-set) (omega (arith, bounds (goal.at.slice_bounds-fill_words-end c).Start))

pub fill_words-requires : goal.fill_words-requires
fill_words-requires c =
    omega (arith, bounds (goal.at.fill_words-requires c).Start)

pub slice_bounds-fill_halves-end-3 : goal.slice_bounds-fill_halves-end-3
slice_bounds-fill_halves-end-3 c =
    let p = c.fill_halves.auto.place in
    let q = c.fill_halves-2.auto.place in
    let r = c.fill_words.auto.place in
    simp (same_len_mid, length-set) (omega (arith, bounds (goal.at.slice_bounds-fill_halves-end-3 c).Start))

pub fill_halves-requires-3 : goal.fill_halves-requires-3
fill_halves-requires-3 c =
    omega (arith, bounds (goal.at.fill_halves-requires-3 c).Start)

pub slice_bounds-fill_edges-end : goal.slice_bounds-fill_edges-end
slice_bounds-fill_edges-end c =
    let p = c.fill_halves.auto.place in
    let q = c.fill_halves-2.auto.place in
    let r = c.fill_words.auto.place in
    let t = c.fill_halves-3.auto.place in
    simp (same_len_mid, length-set) (omega (arith, bounds (goal.at.slice_bounds-fill_edges-end c).Start))

pub fill_edges-requires : goal.fill_edges-requires
fill_edges-requires c =
    record {
      starts_value = load-edges (length c.args.session.now) max_changes (loaded (goal.at.fill_edges-requires c).Start) c.requires;
      ends_len = (bounds (goal.at.fill_edges-requires c).Start).6;
      starts_in_bounds = omega (arith, bounds (goal.at.fill_edges-requires c).Start);
    }

pub slice_bounds-fill-end : goal.slice_bounds-fill-end
slice_bounds-fill-end c =
    let p = c.fill_halves.auto.place in
    let q = c.fill_halves-2.auto.place in
    let r = c.fill_words.auto.place in
    let t = c.fill_halves-3.auto.place in
    let u = c.fill_edges.auto.place in
    simp (same_len_mid, length-set) (omega (arith, bounds (goal.at.slice_bounds-fill-end c).Start))

pub shape_of-session : goal.shape_of-session
shape_of-session c =
    let p = c.fill_halves.auto.place in
    let q = c.fill_halves-2.auto.place in
    let r = c.fill_words.auto.place in
    let t = c.fill_halves-3.auto.place in
    let u = c.fill_edges.auto.place in
    let v = c.fill.auto.self in
    simp (same_len_mid, length-set)

pub returns : goal.returns
returns c =
    sections_written (loaded (goal.at.returns c).Start) c.args.session.now (bounds (goal.at.returns c).Start).0
    c.fill_halves.new.place c.fill_halves-2.new.place c.fill_words.new.place c.fill_halves-3.new.place c.fill_edges.new.place c.fill.new.self
    c.fill_halves.ensures c.fill_halves-2.ensures c.fill_words.ensures c.fill_halves-3.ensures c.fill_edges.ensures (c.fill.ensures.after (λ y e. e) ∙ section_zeros _)
