-- 01, "Output kinds": the answers as lines. "Each output line ends with a line feed."
use Rattle.std.specs.Prelude.{ℕ, ◌-◌, Bool, cond, List, [], ◌∷◌, ◌++◌, ℤ, pos, negsuc, take}
use Rattle.promises.specs.Answers as A
use Rattle.frames.specs.Digits.{digits}

-- a kind, what follows it, and the line feed
abbrev pub line : ℕ → List ℕ → List ℕ
line kind ds = digits 2 kind ++ (ds ++ (10 ∷ []))

-- "`8F` refused (number 2)"
unfoldable pub refusal : ℕ → List ℕ
refusal n = line 0x8F (digits 2 n)

-- "`80` accepted (fires 2, `01` or `00`; trial count 4; number of changes 4)"
unfoldable pub report_line : Bool → ℕ → ℕ → List ℕ
report_line fires trials changes = line 0x80 (digits 2 (cond fires 1 0) ++ (digits 4 trials ++ digits 4 changes))

-- a report's line has so many bytes
abbrev pub report_size : ℕ
report_size = 13

-- "then `81` for each change (8 digits, two's complement)"
unfoldable pub complement : ℤ → ℕ
complement (pos n) = n
complement (negsuc n) = 4294967295 - n

unfoldable pub changed : ℤ → List ℕ
changed z = line 0x81 (digits 8 (complement z))

-- and a change's
abbrev pub change_size : ℕ
change_size = 11

-- what is written for each of a list, one after the other
unfoldable pub each : {A : Type 0} → (A → List ℕ) → List A → List ℕ
each f [] = []
each f (x ∷ xs) = f x ++ each f xs

-- "`82` walk order (2 digits a state)"
unfoldable pub walked : List ℕ → List ℕ
walked states = line 0x82 (each (digits 2) states)

-- an answer of the library with the list that it hands back, and an order of states
abbrev pub answered : A.Outcome A.Summary → List ℤ → List ℕ
answered (A.accepted s) list = report_line s.fires s.trials s.changes ++ each changed list
answered (A.refused n) list = refusal n

abbrev pub ordered : A.Outcome ℕ → List ℕ → List ℕ
ordered (A.accepted n) states = walked (take n states)
ordered (A.refused n) states = refusal n
