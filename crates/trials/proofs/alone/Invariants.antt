-- `alone` meets its contract: none of the edges gone through leads to the start from a node with a fresh state of the word.
use Rattle.trials.proofs.Lonely.{alone_to}
use Rattle.session.specs.Layout.{in_layout}
use mathlib.Core.Bool.{true}
use mathlib.Core.Path.{◌≡◌}
use Rattle.trials.proofs.alone.Given as goal

abbrev pub invariant-loop-edge : goal.invariant-loop-edge
invariant-loop-edge l =
    (h : in_layout l.session ≡ true) → alone_to l.session h l.start l.word l.edge-index ≡ true
