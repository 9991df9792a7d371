-- The node is taken out, and its word kept or cleared: the two laws of `Turns` make what is ensured.
use Rattle.refinement.proofs.Turns.{sound_below, turned_cleared, turned_stayed}
use mathlib.Core.Path.{sym, ◌∙◌}
use native.Mathlib.Omega.{arith}
use Rattle.refinement.proofs.turn.Goals as goal

pub call_in-requires-clause-edges_value : goal.call_in-requires-clause-edges_value
call_in-requires-clause-edges_value c =
    let net = c.args.net.now in (sound_below _ _ _ net.sound, net.indexed)

pub returns-then-left-word : goal.returns-then-left-word
returns-then-left-word c =
    let a = c.args in
    let t = c.take_out in
    let called = c.call_in in
    turned_cleared a.net.now.links.now a.net.now.edges.now a.settled.now a.tentative.now a.waiting.now a.v (omega (arith, c.requires))
    t.new.waiting (t.ensures.0 ∙ sym c.requires.2) t.ensures.1 c.left_at-left.result c.left_at-left.ensures
    called.new.waiting c.difference.result c.calling-shaken.result (called.ensures.0 ∙ sym c.requires.2) c.difference.ensures c.calling-shaken.ensures called.ensures.1

pub returns-else-left-word : goal.returns-else-left-word
returns-else-left-word c =
    let a = c.args in
    let t = c.take_out in
    turned_stayed a.net.now.links.now a.net.now.edges.now a.settled.now a.tentative.now a.waiting.now a.v (omega (arith, c.requires))
    t.new.waiting (t.ensures.0 ∙ sym c.requires.2) t.ensures.1 c.left_at-left.result c.left_at-left.ensures
    c.if-left-word.false
