-- What a table of marks for a session may hold.
use Rattle.std.specs.Prelude.{ℕ, ◌<◌, ◌≡◌, true, List}
use Rattle.session.specs.Trigger.{states, nodes}
use Rattle.session.specs.Layout.{trigger_of, graph_of}
use Rattle.pair_tables.specs.Tables.{marked}

-- a table has marks at states and nodes of what the memory holds alone
abbrev pub Inside : List ℕ → List ℕ → Type 0
Inside xs ts = (u v : ℕ) → marked ts u v ≡ true → (u < states (trigger_of xs)) × (v < nodes (graph_of xs))
