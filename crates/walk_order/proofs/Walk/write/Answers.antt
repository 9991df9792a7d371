-- `write` meets its contract.
use borrow.Author.Rules.{rules}
use Rattle.walk_order.proofs.Walks.{written-holds}
use Rattle.walk_order.proofs.Walk.write.Goals as goal

pub returns : goal.returns
returns c =
    record {
      seen = c.added-self.ensures;
      long = search rules;
      holds = λ xs h. written-holds c.args.state c.added-self.result c.args.self.now xs c.added-self.ensures c.requires.0 h;
    }
