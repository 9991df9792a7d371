-- 02, Job 8, "for every pair the additions less the removals listed": what change lists, one after the other, tell of one pair.
use Rattle.std.specs.Prelude.{ℕ, suc, ◌≡◌, Bool, true, false, not, cond, List, [], ◌∷◌, eqb, ℤ, pos, negsuc, nat_abs, ◌-ℤ◌}
use Rattle.listing.specs.Changes.{size_of, signed}

-- two integers are the same
abbrev pub equal : ℤ → ℤ → Bool
equal (pos a) (pos b) = eqb a b
equal (negsuc a) (negsuc b) = eqb a b
equal (pos a) (negsuc b) = false
equal (negsuc a) (pos b) = false

-- how often the list has this number
unfoldable pub times : ℤ → List ℤ → ℕ
times z [] = 0
times z (x ∷ xs) = cond (equal x z) (suc (times z xs)) (times z xs)

-- "the additions less the removals listed" of the state u at the node v
unfoldable pub ledger : ℕ → ℕ → List ℤ → ℤ
ledger u v list = pos (times (signed true (size_of u v)) list) -ℤ pos (times (signed false (size_of u v)) list)

-- "its standing .. (1 or 0)"
abbrev pub standing : Bool → ℕ
standing true = 1
standing false = 0

-- the entries of a pair of this size, in order, whatever their sign
unfoldable pub entries : ℕ → List ℤ → List ℤ
entries n [] = []
entries n (z ∷ zs) = cond (eqb (nat_abs z) n) (z ∷ entries n zs) (entries n zs)

-- Signs alternate: the first of a pair that did not stand is positive, of one that stood negative, and each next one has the other sign.
abbrev pub Alternate : Bool → ℕ → List ℤ → Type 0
Alternate stood n [] = Unit {0}
Alternate stood n (z ∷ zs) = (z ≡ signed (not stood) n) × Alternate (not stood) n zs
