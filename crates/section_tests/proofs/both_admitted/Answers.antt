-- `both_admitted` meets its contract: the states are those of the two parts.
use Prim.Native.Nat.{ℕ}
use native.Mathlib.Omega.{arith}
use mathlib.Core.Path.{◌≡◌, sym, ap, ap₂, ◌∙◌}
use mathlib.Core.Bool.{Bool, ◌&&◌}
use mathlib.Core.List.{List}
use lib.ListN.{length, take, drop}
use Rattle.simulation.specs.Sets.{all_below}
use Rattle.bits.specs.Word.{half_bits}
use Rattle.section_tests.proofs.Unadmitted.{admitted, admitted-whole, admitted_parts}
use Rattle.section_tests.proofs.both_admitted.Goals as goal
use Rattle.section_tests.proofs.both_admitted.Goals.{After-half_admitted-2}

-- the test of the states from k on, whose masks and values these are
abbrev part : After-half_admitted-2 → List ℕ → List ℕ → ℕ → Bool
part c masks values k = all_below (length masks) (admitted c.args.marked.now.samples.now c.args.marked.now.marks.now c.args.turned masks values k)

low : (c : After-half_admitted-2) → c.half_admitted-2.result ≡ part c (take half_bits c.args.patterns.now.masks.now) (take half_bits c.args.patterns.now.values.now) 0
low c = rw (c.split_at.ensures.front.0, c.split_at.ensures.front.1) at c.half_admitted-2.ensures

pub returns-then-patterns-le-HALF_BITS : goal.returns-then-patterns-le-HALF_BITS
returns-then-patterns-le-HALF_BITS c =
    let a = c.args in
    c.half_admitted.ensures ∙ admitted-whole a.marked.now.samples.now a.marked.now.marks.now a.turned a.patterns.now.masks.now a.patterns.now.values.now

pub returns-then-half_admitted : goal.returns-then-half_admitted
returns-then-half_admitted c =
    let a = c.args in
    let b = (goal.at.returns-then-half_admitted c).After-half_admitted-2 in
    let high = rw (c.split_at.ensures.back.0, c.split_at.ensures.back.1) at c.half_admitted-then-half_admitted.ensures in
    ap (λ (t : Bool). t && c.half_admitted-then-half_admitted.result) (sym c.if-half_admitted.true)
    ∙ ap₂ ◌&&◌ (low b) high
    ∙ admitted_parts a.marked.now.samples.now a.marked.now.marks.now a.turned a.patterns.now.masks.now a.patterns.now.values.now half_bits (omega arith)

pub returns-else-half_admitted : goal.returns-else-half_admitted
returns-else-half_admitted c =
    let a = c.args in
    let b = (goal.at.returns-else-half_admitted c).After-half_admitted-2 in
    let high = part b (drop half_bits a.patterns.now.masks.now) (drop half_bits a.patterns.now.values.now) half_bits in
    c.if-half_admitted.false
    ∙ ap (λ (t : Bool). t && high) (sym c.if-half_admitted.false ∙ low b)
    ∙ admitted_parts a.marked.now.samples.now a.marked.now.marks.now a.turned a.patterns.now.masks.now a.patterns.now.values.now half_bits (omega arith)
