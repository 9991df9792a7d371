-- Strictly ascending lists as sets, and a graph held as one: the edge from v to w is the number v * width + w.
use Rattle.std.specs.Prelude.{ℕ, zero, suc, ◌+◌, ◌-◌, ◌*◌, ◌%◌, Bool, false, ◌&&◌, ◌||◌, cond, List, [], ◌∷◌, ◌++◌, ltb, leb, eqb, length, get_or}
use Rattle.simulation.specs.Sets.{Set, all_below}
use Rattle.simulation.specs.Search.{first, found}

unfoldable pub elem : ℕ → List ℕ → Bool
elem x [] = false
elem x (y ∷ ys) = eqb x y || elem x ys

-- each entry is below the next
unfoldable pub ascends : List ℕ → Bool
ascends xs = all_below (length xs - 1) (λ k. ltb (get_or xs k 0) (get_or xs (k + 1) 0))

-- the members of X below n
unfoldable pub list_of : ℕ → Set → List ℕ
list_of zero X = []
list_of (suc n) X = list_of n X ++ cond (X n) (n ∷ []) []

-- an ascending list with x put in, or taken out
unfoldable pub insert : ℕ → List ℕ → List ℕ
insert x [] = x ∷ []
insert x (y ∷ ys) = cond (ltb x y) (x ∷ y ∷ ys) (y ∷ insert x ys)

unfoldable pub remove : ℕ → List ℕ → List ℕ
remove x [] = []
remove x (y ∷ ys) = cond (eqb x y) (remove x ys) (y ∷ remove x ys)

-- there is an edge from v to w
unfoldable pub joins : ℕ → List ℕ → ℕ → ℕ → Bool
joins width es v w = ltb w width && elem (v * width + w) es

-- the index of the first edge that starts at v or after it: the edges from v lie between that of v and that of v + 1
unfoldable pub from : ℕ → List ℕ → ℕ → ℕ
from width es v = first (λ k. leb (v * width) (get_or es k 0)) 0 (length es)

-- some edge from v ends at a node of X
unfoldable pub leads : ℕ → List ℕ → ℕ → Set → Bool
leads width es v X = found (λ k. X (get_or es k 0 % width)) (from width es v) (from width es (v + 1))
