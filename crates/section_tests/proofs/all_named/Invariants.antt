-- `all_named` meets its contract: the last start is tested, and whether the ends so far are nodes is kept.
use mathlib.Core.Path.{◌≡◌}
use Rattle.simulation.specs.Sets.{all_below}
use Rattle.section_tests.proofs.Named.{ending}
use Rattle.section_tests.proofs.all_named.Given as goal

abbrev pub invariant-loop-edge : goal.invariant-loop-edge
invariant-loop-edge l =
    l.all ≡ all_below l.edge-index (ending l.nodes l.edges)
