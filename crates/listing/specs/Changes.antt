-- 01, "A change is a signed 32-bit number", and the change list.
use Rattle.std.specs.Prelude.{ℕ, zero, suc, ◌+◌, ◌*◌, ◌/◌, ◌%◌, Bool, true, false, List, [], ◌∷◌, ◌++◌, ℤ, pos, neg_ℤ}
use Rattle.session.specs.Trigger.{Trigger, Graph, Marks, states, nodes}

-- "of size node times 64 plus state": the state u of index u has the number u + 1, so no change is zero
abbrev pub node_span : ℕ
node_span = 64

abbrev pub size_of : ℕ → ℕ → ℕ
size_of u v = v * node_span + (u + 1)

-- "positive for a pair that began to stand, negative for one that ceased"
abbrev pub signed : Bool → ℕ → ℤ
signed true n = pos n
signed false n = neg_ℤ (pos n)

-- of a mark before and after, and a size
abbrev pub change : Bool → Bool → ℕ → List ℤ
change false true n = signed true n ∷ []
change true false n = signed false n ∷ []
change true true n = []
change false false n = []

-- f 0, then f 1, .. , n lists in all
unfoldable pub join_to : ℕ → (ℕ → List ℤ) → List ℤ
join_to zero f = []
join_to (suc n) f = join_to n f ++ f n

-- "The list ascends by size": the pairs by node, then by state
unfoldable pub changes : Trigger → Graph → Marks → Marks → List ℤ
changes t g before after =
    join_to (nodes g * states t)
    (λ p. let u = p % states t in let v = p / states t in change (before u v) (after u v) (size_of u v))
