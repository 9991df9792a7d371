use Prim.Native.Nat.{◌^◌}
use native.Mathlib.Omega.{arith}
use borrow.Author.Rules.{rules}
use mathlib.Core.Path.{◌≡◌}
use lib.ListN.{length, get_or}
use Rattle.bits.specs.Word.{members}
use Rattle.session.specs.Limits.{word_bits}
use Rattle.session.proofs.Tables.{below-take}
use Rattle.pair_tables.specs.Tables.{Admits}
use Rattle.pair_tables.proofs.Admitting.{admits-few, filled-start, filled_more, filled-end}
use Rattle.pair_tables.proofs.Patterns.admitted.Goals as goal
use Rattle.pair_tables.proofs.Patterns.admitted.Goals.{After-admit-count}

-- what the call leaves, of the state u
put : (c : After-admit-count)
    → let a = c.args in
    Admits a.samples.now (members a.turned c.loop-u.u) (get_or a.self.now.masks.now c.loop-u.u 0) (get_or a.self.now.values.now c.loop-u.u 0) c.loop-u.u
    c.loop-u.table c.admit-count.result c.admit-count.new.table
put c = rw c.has.ensures at c.admit-count.ensures

pub loop-u-init : goal.loop-u-init
loop-u-init c =
    let a = c.args in
    (search rules, filled-start a.self.now.masks.now a.self.now.values.now a.turned a.samples.now (search rules) c.requires.2)

pub admit-count-requires : goal.admit-count-requires
admit-count-requires c =
    let l = c.loop-u in
    (below-take (2 ^ word_bits) c.args.self.now.masks.now c.args.self.now.masks_fit l.u (search rules), search rules, omega (arith, l.invariant.1.long, c.requires), search rules)

pub overflow_add-count : goal.overflow_add-count
overflow_add-count c =
    let a = c.args in
    omega (arith, admits-few a.self.now.masks.now a.self.now.values.now a.turned a.samples.now (put (goal.at.overflow_add-count c).After-admit-count))

pub loop-u-preserved : goal.loop-u-preserved
loop-u-preserved c =
    let a = c.args in
    let e = put (goal.at.loop-u-preserved c).After-admit-count in (
      omega (arith, admits-few a.self.now.masks.now a.self.now.values.now a.turned a.samples.now e),
      filled_more a.self.now.masks.now a.self.now.values.now a.turned a.samples.now c.loop-u.invariant.1 e,
    )

pub returns : goal.returns
returns c =
    let a = c.args in
    let end : c.loop-u.u ≡ length a.self.now.masks.now = omega arith in
    filled-end a.self.now.masks.now a.self.now.values.now a.turned a.samples.now (rw end at c.loop-u.invariant.1)
