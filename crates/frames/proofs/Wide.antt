-- Lines `0A`: what meets rule 1, and what the older lines of a state, `01` and `07`, are beside them.
use Prim.Native.Nat.{ℕ, ◌+◌, ◌^◌, ◌<◌, ◌≤◌}
use native.Mathlib.Omega.{arith}
use mathlib.Core.Path.{◌≡◌, refl, sym, ◌∙◌, ap}
use mathlib.Core.Bool.{Bool, true, false, cond}
use mathlib.Core.List.{List, ◌∷◌, ◌++◌}
use lib.Dec.{eqb}
use lib.ListN.{length, take, drop, length-append, length-take}
use lib.Seq.{take_all, take-append_seam, drop-append_seam, drop-drop}
use Rattle.bits.specs.Word.{half_bits}
use Rattle.promises.specs.Rules.{verdict}
use Rattle.frames.specs.Digits.{digit, hexadecimal, number_from, number}
use Rattle.frames.specs.Frames.{state, nothing, field, spoken}
use Rattle.frames.specs.Moments.{Moment, reading, running, broken}
use Rattle.frames.proofs.Hex.{number_fits}
use Rattle.frames.proofs.Kinded.{hex_front, hex_rest, state-right, wide_other, wide-right}

-- "any other inversion byte meets 1", at every moment
pub third_inversion : (p : Moment) (ds : List ℕ) → length ds ≡ 18 → 1 < field 2 ds 0 → broken p (spoken 10 ds) ≡ 1
unfolding broken verdict
third_inversion p ds e l = ap (broken p) (sym (wide_other ds e l)) ∙ by p
  where
    by : (p : Moment) → broken p nothing ≡ 1
    by (reading x) = refl
    by (running m) = refl

-- ---- the older lines

-- the fields of a state: mask, value, and its links or what else follows
abbrev pub fields : List ℕ → List ℕ → List ℕ → List ℕ
fields mask value rest = mask ++ (value ++ rest)

-- digits after four zeros
abbrev pub padded : List ℕ → List ℕ
padded ds = 48 ∷ 48 ∷ 48 ∷ 48 ∷ ds

-- the inversion byte and what follows it
abbrev pub inversion : Bool → List ℕ → List ℕ
inversion b ds = 48 ∷ cond b 49 48 ∷ ds

padded-number : (ds : List ℕ) → number (padded ds) ≡ number ds
unfolding number_from digit
padded-number ds = refl

inversion_byte : (b : Bool) (ds : List ℕ) → field 2 (inversion b ds) 0 ≡ cond b 1 0
unfolding number_from digit
inversion_byte true ds = refl
inversion_byte false ds = refl

one_bit : (b : Bool) → eqb (cond b 1 0) 1 ≡ b
one_bit true = refl
one_bit false = refl

few : (b : Bool) → cond b 1 0 ≤ 1
few true = omega arith
few false = omega arith

module _ (mask value : List ℕ) (m : length mask ≡ 4) (v : length value ≡ 4) where
  fields-long : (rest : List ℕ) → length (fields mask value rest) ≡ 8 + length rest
  fields-long rest = omega (arith, length-append mask (value ++ rest), length-append value rest)

  mask_is : (rest : List ℕ) → field 4 (fields mask value rest) 0 ≡ number mask
  mask_is rest = ap number (ap (λ (k : ℕ). take k (fields mask value rest)) (sym m) ∙ take-append_seam mask (value ++ rest))

  after-mask : (rest : List ℕ) → drop 4 (fields mask value rest) ≡ value ++ rest
  after-mask rest = ap (λ (k : ℕ). drop k (fields mask value rest)) (sym m) ∙ drop-append_seam mask (value ++ rest)

  value_is : (rest : List ℕ) → field 4 (fields mask value rest) 4 ≡ number value
  value_is rest =
      ap number (ap (take 4) (after-mask rest) ∙ ap (λ (k : ℕ). take k (value ++ rest)) (sym v) ∙ take-append_seam value rest)

  after_value : (rest : List ℕ) → drop 8 (fields mask value rest) ≡ rest
  after_value rest =
      sym (drop-drop 4 4 (fields mask value rest)) ∙ ap (drop 4) (after-mask rest) ∙ ap (λ (k : ℕ). drop k (value ++ rest)) (sym v) ∙ drop-append_seam value rest

  links_are : (n : ℕ) (rest : List ℕ) → length rest ≡ n → field n (fields mask value rest) 8 ≡ number rest
  links_are n rest e = ap number (ap (take n) (after_value rest) ∙ take_all n rest (omega arith))

  -- "`01` and `07` are still read": they say what `0A` says with their inversion and the upper half of its link digits zero
  pub older_wide : (b : Bool) (links : List ℕ) → length links ≡ 4 → spoken (cond b 7 1) (fields mask value links) ≡ spoken 10 (inversion b (fields mask value (padded links)))
  older_wide b links l =
      let zeros = padded links in
      let wide = inversion b (fields mask value zeros) in
      let byte = inversion_byte b (fields mask value zeros) in
      let same : state b (field 4 (fields mask value links) 0) (field 4 (fields mask value links) 4) (field 4 (fields mask value links) 8)
      ≡ state (eqb (field 2 wide 0) 1) (field 4 wide 2) (field 4 wide 6) (field 8 wide 10) =
      rw (
        mask_is links,
        value_is links,
        links_are 4 links l,
        byte,
        one_bit b,
        mask_is zeros,
        value_is zeros,
        links_are 8 zeros (omega arith),
        padded-number links,
      ) in
      sym (state-right (fields mask value links) b (omega (arith, fields-long links)))
      ∙ same
      ∙ wide-right wide (omega (arith, fields-long zeros)) (omega (arith, byte, few b))

-- their links are in the lower half
pub older_links : (ds : List ℕ) → hexadecimal ds ≡ true → length ds ≡ 12 → field 4 ds 8 < 2 ^ half_bits
older_links ds h e = number_fits (take 4 (drop 8 ds)) 4 (hex_front (drop 8 ds) 4 (hex_rest ds 8 h)) (omega (arith, length-take 4 (drop 8 ds)))
