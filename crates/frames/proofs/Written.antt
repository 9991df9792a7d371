-- A number written digit by digit.
use Prim.Native.Nat.{ℕ, zero, suc, ◌+◌, ◌-◌, ◌*◌, ◌/◌, ◌%◌, ◌^◌, ◌<◌, ◌≤◌}
use native.Mathlib.Omega.{arith}
use mathlib.Core.Path.{◌≡◌, refl, sym, ◌∙◌, ap, ap₂, fun_ext}
use mathlib.Core.Logic.{⊎_elim}
use mathlib.Core.Bool.{Bool, true, false, ◌&&◌, cond}
use mathlib.Core.List.{List, [], ◌∷◌, ◌++◌, append_assoc, append-nil}
use lib.Dec.{ltb, eqb}
use lib.ListN.{length, set, length-append}
use lib.IntN.{ℤ, pos, negsuc, nat_abs}
use lib.Signed.{non_neg}
use mir.Val.{bool_byte}
use borrow.Author.Tests.{lt-ltb, le-ltb}
use Rattle.simulation.proofs.Sets.{clash}
use Rattle.simulation.proofs.Search.{lt-or-le}
use Rattle.bits.specs.Word.{members, word}
use Rattle.bits.proofs.Bits.{bit_above}
use Rattle.bits.proofs.Words.{same-members, word-members, part-members}
use Rattle.listing.specs.Placed.{Placed}
use Rattle.listing.proofs.Placing.{placed-start, placed-append, placed_one, placed-long}
use Rattle.frames.specs.Digits.{letter, place, digits}
use Rattle.frames.specs.Outputs.{complement}

-- four bits of a number are a digit of it
pub place_is : (x i : ℕ) → x / 2 ^ (i * 4) % 16 ≡ place x i
unfolding place
place_is x i =
    same-members (x / 2 ^ (i * 4) % 16) (word 4 (λ j. members x (i * 4 + j)))
    (fun_ext
    (λ j.
    ⊎_elim (near j) (far j) (lt-or-le j 4) ∙ sym (word-members 4 (λ j. members x (i * 4 + j)) j)))
  where
    near : (j : ℕ) → j < 4 → members (x / 2 ^ (i * 4) % 16) j ≡ (ltb j 4 && members x (i * 4 + j))
    near j l =
        part-members 4 (i * 4) x j l
        ∙ ap (λ (t : Bool). t && members x (i * 4 + j)) (sym (lt-ltb j 4 l))

    far : (j : ℕ) → 4 ≤ j → members (x / 2 ^ (i * 4) % 16) j ≡ (ltb j 4 && members x (i * 4 + j))
    far j l =
        ap (λ (b : ℕ). eqb b 1) (bit_above 4 (x / 2 ^ (i * 4) % 16) j (omega arith) l)
        ∙ ap (λ (t : Bool). t && members x (i * 4 + j)) (sym (le-ltb j 4 l))

pub place-fits : (x i : ℕ) → place x i < 16
place-fits x i = omega (arith, place_is x i)

pub letter_low : (d : ℕ) → d < 10 → 48 + d ≡ letter d
unfolding letter
letter_low d l = rw (lt-ltb d 10 l)

pub letter_high : (d : ℕ) → 10 ≤ d → 55 + d ≡ letter d
unfolding letter
letter_high d l = rw (le-ltb d 10 l)

-- ---- the digits, one after the other

pub digits_long : (n x : ℕ) → length (digits n x) ≡ n
unfolding digits
digits_long zero x = refl
digits_long (suc n) x = ap suc (digits_long n x)

-- so many digits are left, and those before them are written
pub record Writing (entry : List ℕ) (at count x : ℕ) (out : List ℕ) (next left : ℕ) : Type 0 where
  pub done : List ℕ
  pub whole : done ++ digits left x ≡ digits count x
  pub few : length done + left ≡ count
  pub placed : Placed entry at done out next

module _ (entry : List ℕ) (at count x : ℕ) (room : at + count ≤ length entry) where
  pub writing_start : Writing entry at count x entry at count
  writing_start = record { done = []; whole = refl; few = omega arith; placed = placed-start entry at }

  pub writing_next : (out : List ℕ) (next left : ℕ) → Writing entry at count x out next left → (next + left ≡ at + count) × (length out ≡ length entry)
  writing_next out next left w =
      let past : next + left ≡ at + count = omega (arith, w.placed.past, w.few) in
      (past, placed-long w.placed (omega (arith, past)))

  pub writing_more : (out : List ℕ) (next left : ℕ) → Writing entry at count x out next left → 0 < left
      → Writing entry at count x (set out next (letter (place x (left - 1)))) (next + 1) (left - 1)
  unfolding digits
  writing_more out next zero w l = absurd (omega arith)
  writing_more out next (suc left) w l =
      let c = letter (place x left) in
      let s = writing_next out next (suc left) w in
      let less : suc left - 1 ≡ left = omega arith in
      rw less record {
        done = w.done ++ (c ∷ []);
        whole = append_assoc w.done (c ∷ []) (digits left x) ∙ w.whole;
        few = omega (arith, w.few, length-append w.done (c ∷ []));
        placed = placed-append (omega arith) w.placed (placed_one out next c (omega (arith, s)));
      }

  pub writing_end : (out : List ℕ) (next left : ℕ) → Writing entry at count x out next left → left ≤ 0 → Placed entry at (digits count x) out next
  unfolding digits
  writing_end out next zero w l = rw (← w.whole, append-nil) w.placed
  writing_end out next (suc left) w l = absurd (omega arith)

-- ---- one after the other

module _ (entry : List ℕ) (at : ℕ) where
  -- what is written leaves so much room after it
  pub room_after : (l out : List ℕ) (next k : ℕ) → at + (length l + k) ≤ length entry → Placed entry at l out next → next + k ≤ length out
  room_after l out next k room p = omega (arith, p.past, placed-long p (omega (arith, p.past)))

-- two numbers side by side
pub pair-long : (n x y : ℕ) → length (digits n x ++ digits n y) ≡ n + n
pair-long n x y = length-append (digits n x) (digits n y) ∙ ap₂ ◌+◌ (digits_long n x) (digits_long n y)

-- four parts, however they were put together
pub four_parts : (a b x y : List ℕ) → (a ++ b) ++ (x ++ y) ≡ a ++ ((b ++ x) ++ y)
four_parts a b x y = append_assoc a b (x ++ y) ∙ ap (λ (l : List ℕ). a ++ l) (sym (append_assoc b x y))

-- a Boolean as a number
pub bool_number : (b : Bool) → bool_byte b ≡ cond b 1 0
bool_number true = refl
bool_number false = refl

-- ---- two's complement

pub complement_nonneg : (z : ℤ) (n : ℕ) (b : Bool) → n ≡ nat_abs z → b ≡ non_neg z → b ≡ true → n ≡ complement z
unfolding complement
complement_nonneg (pos k) n b e h t = e
complement_nonneg (negsuc k) n b e h t = clash t h

pub complement_ceases : (z : ℤ) (n : ℕ) (b : Bool) → n ≡ nat_abs z → b ≡ non_neg z → b ≡ false → (1 ≤ n) × (4294967295 - (n - 1) ≡ complement z)
unfolding complement
complement_ceases (pos k) n b e h f = clash h f
complement_ceases (negsuc k) n b e h f = (omega arith, omega arith)
