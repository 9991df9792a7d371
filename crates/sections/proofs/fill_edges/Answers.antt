-- `fill_edges` meets its contract: the numbers are those of the edges, which fit a word as their nodes are few.
use Prim.Native.Nat.{◌<◌}
use native.Mathlib.Omega.{arith}
use borrow.Author.Rules.{rules}
use mathlib.Core.Path.{◌≡◌, sym, ◌∙◌}
use lib.ListN.{length, get_or}
use Rattle.session.specs.Limits.{max_nodes}
use Rattle.session.specs.Layout.{numbered}
use Rattle.session.specs.Trigger.{edge_number}
use Rattle.session.proofs.Tables.{below-take, length-numbered, get_or-table}
use Rattle.sections.proofs.Fills.{section_filled}
use Rattle.sections.proofs.fill_edges.Goals as goal

pub fill_by-requires-clause-callable : goal.fill_by-requires-clause-callable
fill_by-requires-clause-callable c =
    λ i l.
    let a = c.args in
    let start : get_or a.starts.now i 0 < max_nodes = below-take max_nodes a.starts.now c.requires.starts_value.0 i l in
    let end : get_or a.ends.now i 0 < max_nodes = below-take max_nodes a.ends.now c.requires.starts_value.1 i (omega (arith, l, c.requires.ends_len)) in
    search rules

pub returns : goal.returns
returns c =
    let a = c.args in
    let starts = a.starts.now in
    let ends = a.ends.now in
    section_filled (length a.place.now) (length starts) (numbered starts ends) c.fill_by.new.place c.fill_by.auto.place (length-numbered starts ends)
    (λ i l.
    let made : get_or c.fill_by.new.place i 0 ≡ edge_number (get_or starts i 0) (get_or ends i 0) = let h = c.fill_by.ensures.front i l in search rules in
    made ∙ sym (get_or-table (length starts) (λ k. edge_number (get_or starts k 0) (get_or ends k 0)) i l))
    c.fill_by.ensures.rest
