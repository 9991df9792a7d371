-- 01, "upper-case hexadecimal, most significant digit first": bytes, digits and numbers.
use Rattle.std.specs.Prelude.{ℕ, zero, suc, ◌+◌, ◌-◌, ◌*◌, Bool, ◌&&◌, cond, List, [], ◌∷◌, ltb, leb, length, get_or}
use Rattle.simulation.specs.Sets.{all_below}
use Rattle.bits.specs.Word.{members, word}

-- the value of a byte that is a digit, 0 to 9 and A to F; 16 for any other byte
unfoldable pub digit : ℕ → ℕ
digit c = cond (leb 48 c && leb c 57) (c - 48) (cond (leb 65 c && leb c 70) (c - 55) 16)

-- "a lower-case letter .. meets 1": every byte is a digit
unfoldable pub hexadecimal : List ℕ → Bool
hexadecimal bs = all_below (length bs) (λ i. ltb (digit (get_or bs i 0)) 16)

-- the number that digits write after the number n
unfoldable pub number_from : ℕ → List ℕ → ℕ
number_from n [] = n
number_from n (c ∷ cs) = number_from (n * 16 + digit c) cs

abbrev pub number : List ℕ → ℕ
number = number_from 0

-- the byte of a digit
unfoldable pub letter : ℕ → ℕ
letter d = cond (ltb d 10) (48 + d) (55 + d)

-- the digit at the place i of a number, from the right: its four bits
unfoldable pub place : ℕ → ℕ → ℕ
place x i = word 4 (λ j. members x (i * 4 + j))

-- the number x in n digits
unfoldable pub digits : ℕ → ℕ → List ℕ
digits zero x = []
digits (suc n) x = letter (place x n) ∷ digits n x
