-- `call_one` meets its contract: the start is put in where the edge ends at the node and the table passes.
use Rattle.bits.specs.Word.{overlaps}
use Rattle.worklist.proofs.CalledIn.{one_in}
use Rattle.simulation.specs.Sets.{Set}
use lib.ListN.{get_or}
use mathlib.Core.Path.{sym, ◌∙◌}
use Rattle.worklist.proofs.call_one.Goals as goal
use Rattle.worklist.proofs.call_one.Goals.{Start}

-- the table has a state of the word
abbrev test : Start → Set
test c = λ w. overlaps (get_or c.args.table.now w 0) c.args.word

pub returns-then-meet : goal.returns-then-meet
returns-then-meet c =
    let a = c.args in
    let P = test (goal.at.returns-then-meet c).Start in
    let put = c.put_in in
    (put.ensures.0, one_in a.edge a.node P a.waiting.now put.new.waiting c.if-edge-node.true (sym c.meet.ensures ∙ c.if-meet.true) put.ensures.1)
