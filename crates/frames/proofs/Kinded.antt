-- What a line says, kind by kind.
use Prim.Native.Nat.{ℕ, ◌+◌, ◌<◌, ◌≤◌}
use native.Mathlib.Omega.{arith}
use mathlib.Core.Path.{◌≡◌, ◌∙◌, ap}
use mathlib.Core.Bool.{Bool, true, false, cond}
use mathlib.Core.List.{List}
use lib.Dec.{ltb, eqb}
use lib.ListN.{length, get_or, take, drop, length-take, length-drop}
use lib.Seq.{get_or-take, get_or-drop}
use borrow.Author.Tests.{eq-eqb, le-leb, lt-leb, lt-ltb}
use Rattle.simulation.proofs.Sets.{all_make}
use Rattle.frames.specs.Digits.{digit, hexadecimal}
use Rattle.frames.specs.Frames.{state, nothing, field, wide, spoken}
use Rattle.frames.proofs.Hex.{digit-fits}

-- a front of digits, and what follows one, is of digits
pub hex_front : (bs : List ℕ) (n : ℕ) → hexadecimal bs ≡ true → hexadecimal (take n bs) ≡ true
unfolding hexadecimal
hex_front bs n h =
    all_make (length (take n bs)) (λ i. ltb (digit (get_or (take n bs) i 0)) 16)
    (λ i l.
    ap (λ (c : ℕ). ltb (digit c) 16) (get_or-take n bs i 0 (omega (arith, length-take n bs)))
    ∙ lt-ltb (digit (get_or bs i 0)) 16 (digit-fits bs h i (omega (arith, length-take n bs))))

pub hex_rest : (bs : List ℕ) (at : ℕ) → hexadecimal bs ≡ true → hexadecimal (drop at bs) ≡ true
unfolding hexadecimal
hex_rest bs at h =
    all_make (length (drop at bs)) (λ i. ltb (digit (get_or (drop at bs) i 0)) 16)
    (λ i l.
    ap (λ (c : ℕ). ltb (digit c) 16) (get_or-drop at bs i 0)
    ∙ lt-ltb (digit (get_or bs (at + i) 0)) 16 (digit-fits bs h (at + i) (omega (arith, length-drop at bs))))

module _ (ds : List ℕ) where
  -- ---- fields of the right length

  pub state-right : (b : Bool) → length ds ≡ 12 → state b (field 4 ds 0) (field 4 ds 4) (field 4 ds 8) ≡ spoken (cond b 7 1) ds
  unfolding spoken
  state-right true e = rw (eq-eqb (length ds) 12 e)
  state-right false e = rw (eq-eqb (length ds) 12 e)

  -- an inversion byte that is neither 00 nor 01, and one that is
  pub wide_other : length ds ≡ 18 → 1 < field 2 ds 0 → nothing ≡ spoken 10 ds
  unfolding spoken wide
  wide_other e l = rw (eq-eqb (length ds) 18 e, lt-leb (field 2 ds 0) 1 l)

  pub wide-right : length ds ≡ 18 → field 2 ds 0 ≤ 1 → state (eqb (field 2 ds 0) 1) (field 4 ds 2) (field 4 ds 6) (field 8 ds 10) ≡ spoken 10 ds
  unfolding spoken wide
  wide-right e l = rw (eq-eqb (length ds) 18 e, le-leb (field 2 ds 0) 1 l)
