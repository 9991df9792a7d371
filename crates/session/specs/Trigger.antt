-- 01, "Trigger, graph, session". A state is known by its index: state u + 1 of 01 has the index u.
use Rattle.std.specs.Prelude.{ℕ, ◌+◌, ◌*◌, Bool, not, ◌||◌, cond, List, eqb, length, get_or}
use Rattle.simulation.specs.Sets.{all_below}
use Rattle.simulation.specs.Ordered.{insert, remove, joins}
use Rattle.simulation.specs.Pattern.{Pattern, plain}
use Rattle.bits.specs.Word.{bit, members}
use Rattle.session.specs.Limits.{max_nodes, word_bits}

-- "A state has a mask and a value, 16 bits each, and a set of links to states": one entry a state in each list; link set bit i is for index i.
-- 02, Job 1, "A state may be inverted": the set of those that are, bit i for index i
pub record Trigger : Type 0 where
  pub masks : List ℕ
  pub values : List ℕ
  pub links : List ℕ
  pub inverted : ℕ

-- "A graph has .. nodes, .. each with a 16-bit sample word": one sample a node; edges as numbers, ascending
pub record Graph : Type 0 where
  pub samples : List ℕ
  pub edges : List ℕ

-- a mark for each state and node
abbrev pub Marks : Type 0
Marks = ℕ → ℕ → Bool

abbrev pub states : Trigger → ℕ
states t = length t.masks

abbrev pub nodes : Graph → ℕ
nodes g = length g.samples

-- there is a link from the state u to the state u'
unfoldable pub linked : Trigger → ℕ → ℕ → Bool
linked t u u' = members (get_or t.links u 0) u'

-- "An edge is an ordered pair (start, end)": the number of the edge from v to w, and whether the graph has it
abbrev pub edge_number : ℕ → ℕ → ℕ
edge_number v w = v * max_nodes + w

unfoldable pub edge : Graph → ℕ → ℕ → Bool
edge g v w = joins max_nodes g.edges v w

-- the graph with the edge from a to b put in, or taken out
abbrev pub with_edge : Graph → ℕ → ℕ → Graph
with_edge g a b = record { samples = g.samples; edges = insert (edge_number a b) g.edges }

abbrev pub without_edge : Graph → ℕ → ℕ → Graph
without_edge g a b = record { samples = g.samples; edges = remove (edge_number a b) g.edges }

-- "value and sample agree in every bit that is 1 in the mask", for words of k bits
unfoldable pub agrees : ℕ → ℕ → ℕ → ℕ → Bool
agrees k mask value sample = all_below k (λ i. not (members mask i) || eqb (bit value i) (bit sample i))

-- 02, Job 1, an inverted state "then admits exactly the nodes that its plain form does not": the agreement, turned round or not
unfoldable pub matches : ℕ → Bool → ℕ → ℕ → ℕ → Bool
matches k turned mask value sample = cond turned (not (agrees k mask value sample)) (agrees k mask value sample)

-- 02, Job 9, "A mask of zero admits every node, inverted or not, which is the one exception to Job 1"
unfoldable pub accepts : ℕ → Bool → ℕ → ℕ → ℕ → Bool
accepts k inverted mask value sample = eqb mask 0 || matches k inverted mask value sample

-- "State u admits node v"
unfoldable pub admits : Trigger → Graph → ℕ → ℕ → Bool
admits t g u v = accepts word_bits (members t.inverted u) (get_or t.masks u 0) (get_or t.values u 0) (get_or g.samples v 0)

-- what is simulated: a link is carried by one edge
abbrev pub pattern : Trigger → Graph → Pattern
pattern t g = plain (states t) (nodes g) (linked t) (admits t g) (edge g)
