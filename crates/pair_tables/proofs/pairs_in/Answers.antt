use Prim.Native.Nat.{ℕ, ◌<◌}
use native.Mathlib.Omega.{arith}
use mathlib.Core.Path.{◌≡◌, ap, ◌∙◌}
use lib.ListN.{get_or}
use lib.Seq.{length-take-le, get_or-take}
use Rattle.simulation.specs.Sets.{count}
use Rattle.bits.specs.Word.{members, set_bits}
use Rattle.pair_tables.proofs.Tabling.{pairs_to, pairs-none, row-few, pairs-more}
use Rattle.pair_tables.proofs.pairs_in.Goals as goal
use Rattle.pair_tables.proofs.pairs_in.Goals.{After-size-count}

-- the word is that of the node
sized : (c : After-size-count) → c.size-count.result ≡ count set_bits (members (get_or c.args.table.now c.loop-word.word-index 0))
sized c =
    let a = c.args in
    let l = c.loop-word.word-index in
    let near : l < a.nodes = omega (arith, length-take-le a.nodes a.table.now c.requires.2) in
    c.size-count.ensures ∙ ap (λ (w : ℕ). count set_bits (members w)) (get_or-take a.nodes a.table.now l 0 near)

pub loop-word-init : goal.loop-word-init
loop-word-init c =
    let a = c.args in (omega arith, pairs-none a.table.now a.states)

pub overflow_add-count : goal.overflow_add-count
overflow_add-count c =
    let a = c.args in
    omega (arith, row-few a.table.now a.states c.requires.0 c.requires.3 c.loop-word.word-index, sized c, length-take-le a.nodes a.table.now c.requires.2)

pub loop-word-preserved : goal.loop-word-preserved
loop-word-preserved c =
    let a = c.args in
    let l = c.loop-word in
    let few = row-few a.table.now a.states c.requires.0 c.requires.3 l.word-index in
    let more = pairs-more a.table.now a.states c.requires.0 c.requires.3 l.word-index in
    (omega (arith, few, sized c), omega (arith, more, sized c))

pub returns : goal.returns
returns c =
    let a = c.args in
    let l = c.loop-word in
    l.invariant.1 ∙ ap (pairs_to a.table.now a.states) (omega (arith, length-take-le a.nodes a.table.now c.requires.2))
