-- `strays` meets its contract: each call knows its turn.
use Rattle.section_tests.proofs.strays.Goals as goal

pub returns-then-turned : goal.returns-then-turned
returns-then-turned c =
    rw c.if-turned.true c.strays_turned.ensures

pub returns-else-turned : goal.returns-else-turned
returns-else-turned c =
    rw c.if-turned.false c.strays_turned-else-turned.ensures
