-- What a copy of the entries of a list over itself, by one place up or down, leaves of it; and such a copy from a place on, of the whole list.
use Prim.Native.Nat.{ℕ, zero, suc, ◌+◌, ◌-◌, ◌<◌}
use native.Mathlib.Numerals.{add-one}
use native.Mathlib.Omega.{arith}
use mathlib.Core.Path.{◌≡◌, refl, sym, ◌∙◌, ap}
use mathlib.Core.List.{List, [], ◌∷◌, ◌++◌, append_assoc, append-nil}
use lib.ListN.{length, get_or, set, take, drop, length-drop, drop_of_length-le}
use lib.Seq.{take_all, drop-drop}
use borrow.Rule.Slice.PartMut.{put_mid}

-- a zero at the end is not seen, for past the end zero is read
pub zero-end : (xs : List ℕ) (i : ℕ) → get_or (xs ++ (0 ∷ [])) i 0 ≡ get_or xs i 0
zero-end [] zero = refl
zero-end [] (suc i) = refl
zero-end (x ∷ xs) zero = refl
zero-end (x ∷ xs) (suc i) = zero-end xs i

-- ---- the entries from a place on are moved, and put back

-- an entry stored over the one that stayed
stored : (x : ℕ) (xs : List ℕ) (p m n : ℕ) → p < length xs → m ≡ p + n
    → set (take p xs ++ (take 1 (drop p xs) ++ take n (drop p xs))) p x ≡ take p (take m xs) ++ (x ∷ drop p (take m xs))
stored x [] p m n l e = absurd (omega arith)
stored x (y ∷ ys) zero m n l e = let s : m ≡ n = omega arith in rw s refl
stored x (y ∷ ys) (suc p) zero n l e = absurd (omega arith)
stored x (y ∷ ys) (suc p) (suc m) n l e = ap (λ (r : List ℕ). y ∷ r) (stored x ys p m n (omega arith) (omega arith))

module _ (xs : List ℕ) (p k : ℕ) (l : p < length xs) (e : k ≡ length xs - p) where
  -- all that stands there is moved
  pub to_end : take k (drop p xs) ≡ drop p xs
  to_end = take_all k (drop p xs) (omega (arith, length-drop p xs))

  put_back : (ps : List ℕ) → put_mid p k xs ps ≡ take p xs ++ ps
  put_back ps =
      ap (λ (r : List ℕ). take p xs ++ r)
      (ap (λ (r : List ℕ). ps ++ r) (drop_of_length-le (drop p xs) {i = k} (omega (arith, length-drop p xs))) ∙ append-nil ps)

  pub dropped : (ps : List ℕ) → ps ≡ drop 1 (take k (drop p xs)) ++ (0 ∷ []) → put_mid p k xs ps ≡ (take p xs ++ drop (suc p) xs) ++ (0 ∷ [])
  dropped ps d =
      put_back ps
      ∙ ap (λ (r : List ℕ). take p xs ++ r)
      (d ∙ ap (λ (r : List ℕ). drop 1 r ++ (0 ∷ [])) to_end ∙ ap (λ (r : List ℕ). r ++ (0 ∷ [])) (drop-drop 1 p xs ∙ ap (λ (j : ℕ). drop j xs) (add-one p)))
      ∙ sym (append_assoc (take p xs) (drop (suc p) xs) (0 ∷ []))

  pub put_in : (x : ℕ) (ps : List ℕ)
      → ps ≡ take 1 (take k (drop p xs)) ++ take (length (take k (drop p xs)) - 1) (take k (drop p xs))
      → set (put_mid p k xs ps) p x ≡ take p (take (length xs - 1) xs) ++ (x ∷ drop p (take (length xs - 1) xs))
  put_in x ps d =
      ap (λ (r : List ℕ). set r p x)
      (put_back ps ∙ ap (λ (r : List ℕ). take p xs ++ r) (d ∙ ap (λ (r : List ℕ). take 1 r ++ take (length r - 1) r) to_end))
      ∙ stored x xs p (length xs - 1) (length (drop p xs) - 1) l (omega (arith, length-drop p xs))
