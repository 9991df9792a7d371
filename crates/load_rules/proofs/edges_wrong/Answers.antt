-- `edges_wrong` meets its contract.
use borrow.Author.Tests.{lt-ltb, le-ltb}
use Rattle.session.specs.Limits.{max_edges}
use Rattle.load_rules.proofs.edges_wrong.Goals as goal

pub returns-then-starts-gt-MAX_EDGES : goal.returns-then-starts-gt-MAX_EDGES
returns-then-starts-gt-MAX_EDGES c =
    rw (lt-ltb max_edges c.args.starts c.if-starts-gt-MAX_EDGES.true)

pub returns-else-starts-gt-MAX_EDGES : goal.returns-else-starts-gt-MAX_EDGES
returns-else-starts-gt-MAX_EDGES c =
    rw (le-ltb max_edges c.args.starts c.if-starts-gt-MAX_EDGES.false)
