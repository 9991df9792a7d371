-- `load_rule` meets its contract: the rules are tested in their sequence.
use Rattle.std.proofs.Common.{sym, ◌∙◌}
use Rattle.load_rules.proofs.Given.{few_states, ends-given}
use Rattle.load_rules.proofs.load_rule.Goals as goal

pub links_wrong-requires : goal.links_wrong-requires
links_wrong-requires c =
    few_states _ _ (sym c.states_wrong.ensures ∙ c.if-states_wrong.false)

pub order_wrong-requires : goal.order_wrong-requires
order_wrong-requires c =
    ends-given _ _ (sym c.edges_wrong.ensures ∙ c.if-edges_wrong.false)
