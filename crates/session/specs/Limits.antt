-- The limits of 01, "Trigger, graph, session", and the places of the session's sections.
use Rattle.std.specs.Prelude.{ℕ, ◌+◌, ◌*◌}

-- 02, Job 6: "Rule 4 reads 32"; 01: "0 to 512 nodes", "at most 2,048 edges", "16 bits each"
abbrev pub max_states : ℕ
max_states = 32

abbrev pub max_nodes : ℕ
max_nodes = 512

abbrev pub max_edges : ℕ
max_edges = 2048

abbrev pub word_bits : ℕ
word_bits = 16

-- the numbers of edges are below this
abbrev pub edge_numbers : ℕ
edge_numbers = max_nodes * max_nodes

-- rule 3, by 02, Job 6: "the change room of rule 3 reads 16,384 places"
abbrev pub max_changes : ℕ
max_changes = max_nodes * max_states

-- the numbers of states, nodes and edges, the inverted states, then the sections. Each list of the trigger has a place for each state: k places in
-- general, and max_states in a session
abbrev pub inverted_at : ℕ
inverted_at = 3

abbrev pub masks_at : ℕ
masks_at = inverted_at + 1

abbrev pub values_for : ℕ → ℕ
values_for k = masks_at + k

abbrev pub links_for : ℕ → ℕ
links_for k = values_for k + k

abbrev pub samples_for : ℕ → ℕ
samples_for k = links_for k + k

abbrev pub edges_for : ℕ → ℕ
edges_for k = samples_for k + max_nodes

abbrev pub marks_for : ℕ → ℕ
marks_for k = edges_for k + max_edges

abbrev pub values_at : ℕ
values_at = values_for max_states

abbrev pub links_at : ℕ
links_at = links_for max_states

abbrev pub samples_at : ℕ
samples_at = samples_for max_states

abbrev pub edges_at : ℕ
edges_at = edges_for max_states

abbrev pub marks_at : ℕ
marks_at = marks_for max_states

-- rule 3: "the fixed size"
abbrev pub fixed_size : ℕ
fixed_size = marks_at + max_nodes
