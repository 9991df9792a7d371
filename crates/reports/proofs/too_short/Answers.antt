-- `too_short` meets its contract.
use borrow.Author.Tests.{lt-ltb, le-ltb}
use Rattle.session.specs.Limits.{fixed_size}
use Rattle.reports.proofs.too_short.Goals as goal

pub returns-then-memory-lt-FIXED_SIZE : goal.returns-then-memory-lt-FIXED_SIZE
returns-then-memory-lt-FIXED_SIZE c =
    rw (lt-ltb c.args.memory fixed_size c.if-memory-lt-FIXED_SIZE.true)

pub returns-else-memory-lt-FIXED_SIZE : goal.returns-else-memory-lt-FIXED_SIZE
returns-else-memory-lt-FIXED_SIZE c =
    rw (le-ltb c.args.memory fixed_size c.if-memory-lt-FIXED_SIZE.false)
