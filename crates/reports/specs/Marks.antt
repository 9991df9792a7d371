-- What an answer tells of the marks that a memory holds.
use Rattle.std.specs.Prelude.{ℕ, ◌≡◌, List}
use Rattle.session.specs.Layout.{trigger_of, graph_of, marks_of}
use Rattle.promises.specs.Standing.{fires}
use Rattle.promises.specs.Answers.{Answer, accepted, told}

-- an answer that tells firing by the marks that the memory holds, and two counts
abbrev pub Tells : List ℕ → ℕ → ℕ → Answer → Type 0
Tells xs trials n r = told r ≡ accepted record { fires = fires (trigger_of xs) (graph_of xs) (marks_of xs); trials = trials; changes = n }
