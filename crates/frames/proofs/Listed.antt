-- What is written for each of a list, one after the other.
use Prim.Native.Nat.{ℕ, ◌+◌, ◌*◌, ◌<◌, ◌≤◌}
use native.Mathlib.Nat.{suc-mul, add_comm}
use native.Mathlib.Numerals.{add-one}
use native.Mathlib.Omega.{arith}
use mathlib.Core.Path.{◌≡◌, refl, sym, ◌∙◌, ap, ap₂, subst}
use mathlib.Core.Bool.{Bool, cond}
use mathlib.Core.List.{List, [], ◌∷◌, ◌++◌, append_assoc, append-nil}
use lib.IntN.{ℤ}
use lib.ListN.{length, get_or, take, length-append}
use lib.Seq.{take-suc, take_all, length-take-le}
use Rattle.listing.specs.Placed.{Placed}
use Rattle.listing.proofs.Placing.{placed-start, placed-append, placed-long}
use Rattle.frames.specs.Digits.{digits}
use Rattle.frames.specs.Outputs.{complement, report_line, report_size, changed, change_size, each}
use Rattle.frames.proofs.Written.{digits_long, pair-long}

module _ {A : Type 0} (f : A → List ℕ) where
  each_append : (xs ys : List A) → each f (xs ++ ys) ≡ each f xs ++ each f ys
  unfolding each
  each_append [] ys = refl
  each_append (x ∷ xs) ys = ap (λ (l : List ℕ). f x ++ l) (each_append xs ys) ∙ sym (append_assoc (f x) (each f xs) (each f ys))

  each_more : (xs : List A) (k : ℕ) (d : A) → k < length xs → each f (take (k + 1) xs) ≡ each f (take k xs) ++ f (get_or xs k d)
  unfolding each
  each_more xs k d l =
      ap (λ (j : ℕ). each f (take j xs)) (add-one k)
      ∙ ap (each f) (take-suc xs k d l)
      ∙ each_append (take k xs) (get_or xs k d ∷ [])
      ∙ ap (λ (l : List ℕ). each f (take k xs) ++ l) (append-nil (f (get_or xs k d)))

  each_long : (n : ℕ) → ((x : A) → length (f x) ≡ n) → (xs : List A) → length (each f xs) ≡ length xs * n
  unfolding each
  each_long n h [] = omega arith
  each_long n h (x ∷ xs) = length-append (f x) (each f xs) ∙ ap₂ ◌+◌ (h x) (each_long n h xs) ∙ add_comm n (length xs * n) ∙ sym (suc-mul (length xs) n)

  -- the first k are written
  pub record Listing (xs : List A) (entry : List ℕ) (at : ℕ) (out : List ℕ) (next k : ℕ) : Type 0 where
    pub inside : k ≤ length xs
    pub placed : Placed entry at (each f (take k xs)) out next

  module _ (n : ℕ) (sizes : (x : A) → length (f x) ≡ n) (xs : List A) (entry : List ℕ) (at : ℕ) (near : at ≤ length entry) where
    pub listing_start : Listing xs entry at entry at 0
    unfolding each
    listing_start = record { inside = omega arith; placed = placed-start entry at }

    -- where the next one goes, and that there is room for it
    pub listing_next : (out : List ℕ) (next k : ℕ) → Listing xs entry at out next k → next ≡ at + k * n
    listing_next out next k l =
        l.placed.past ∙ ap (λ (m : ℕ). at + m) (each_long n sizes (take k xs) ∙ ap (λ (m : ℕ). m * n) (length-take-le k xs l.inside))

    pub listing_long : (out : List ℕ) (next k : ℕ) → Listing xs entry at out next k → at + k * n ≤ length entry → length out ≡ length entry
    listing_long out next k l room = placed-long l.placed (subst (λ (m : ℕ). m ≤ length entry) (sym (listing_next out next k l)) room)

    pub listing_more : (out : List ℕ) (next k : ℕ) (d : A) (out' : List ℕ) (next' : ℕ) → Listing xs entry at out next k → k < length xs
        → Placed out next (f (get_or xs k d)) out' next' → Listing xs entry at out' next' (k + 1)
    listing_more out next k d out' next' l less p = record {
      inside = omega arith;
      placed = subst (λ (w : List ℕ). Placed entry at w out' next') (sym (each_more xs k d less)) (placed-append near l.placed p);
    }

    pub listing_end : (out : List ℕ) (next k : ℕ) → Listing xs entry at out next k → length xs ≤ k → Placed entry at (each f xs) out next
    listing_end out next k l all = subst (λ (w : List A). Placed entry at (each f w) out next) (take_all k xs all) l.placed

-- the bytes of a change
pub changed-long : (z : ℤ) → length (changed z) ≡ change_size
unfolding changed
changed-long z =
    length-append (digits 2 129) (digits 8 (complement z) ++ (10 ∷ []))
    ∙ ap₂ ◌+◌ (digits_long 2 129) (length-append (digits 8 (complement z)) (10 ∷ []) ∙ ap (λ (m : ℕ). m + 1) (digits_long 8 (complement z)))

-- two bytes a state, after the kind
pub states-long : (kind : ℕ) (us : List ℕ) → length (digits 2 kind ++ each (digits 2) us) ≡ 2 + length us * 2
states-long kind us = length-append (digits 2 kind) (each (digits 2) us) ∙ ap₂ ◌+◌ (digits_long 2 kind) (each_long (digits 2) 2 (digits_long 2) us)

-- and of a report
pub report-long : (fires : Bool) (trials changes : ℕ) → length (report_line fires trials changes) ≡ report_size
unfolding report_line
report-long fires trials changes =
    let counts = digits 4 trials ++ digits 4 changes in
    let fields = digits 2 (cond fires 1 0) ++ counts in
    length-append (digits 2 128) (fields ++ (10 ∷ []))
    ∙ ap₂ ◌+◌ (digits_long 2 128)
    (length-append fields (10 ∷ [])
    ∙ ap (λ (m : ℕ). m + 1)
    (length-append (digits 2 (cond fires 1 0)) counts ∙ ap₂ ◌+◌ (digits_long 2 (cond fires 1 0)) (pair-long 4 trials changes)))
