-- Digits written four at a time.
use Prim.Native.Nat.{ℕ, zero, suc, ◌+◌, ◌*◌, ◌/◌, ◌%◌, ◌^◌, ◌<◌, ◌≤◌}
use native.Mathlib.Nat.{zero-add, suc-add}
use native.Mathlib.Omega.{arith}
use mathlib.Core.Path.{◌≡◌, refl, sym, ap, ap₂, ◌∙◌}
use mathlib.Core.List.{List, ◌∷◌, ◌++◌, append_assoc}
use lib.ListN.{length, get_or, length-append}
use lib.Seq.{drop-drop}
use lib.Pow.{shr-shr}
use mir.Syntax.{w32}
use borrow.Rule.Slice.PartMut.{put_mid}
use Rattle.std.specs.Int.{to_le_bytes}
use Rattle.std.proofs.lemmas.Nat.{le_bytes_4}
use Rattle.listing.specs.Placed.{Placed}
use Rattle.listing.proofs.Placing.{placed-append}
use Rattle.frames.specs.Digits.{letter, place, digits}
use Rattle.frames.proofs.Written.{place_is, place-fits, digits_long, Writing}
use Rattle.digits.proofs.Sums.{letter-fits, word}

-- the digits of a number without its last l
place-before : (x l i : ℕ) → place (x / 2 ^ (l * 4)) i ≡ place x (i + l)
place-before x l i =
    let added : l * 4 + i * 4 ≡ (i + l) * 4 = omega arith in
    sym (place_is (x / 2 ^ (l * 4)) i) ∙ ap (λ (n : ℕ). n % 16) (shr-shr x (l * 4) (i * 4) ∙ ap (λ (n : ℕ). x / 2 ^ n) added) ∙ place_is x (i + l)

digits-apart : (n l x : ℕ) → digits (n + l) x ≡ digits n (x / 2 ^ (l * 4)) ++ digits l x
unfolding digits
digits-apart zero l x = rw zero-add
digits-apart (suc n) l x = rw suc-add (ap₂ ◌∷◌ (ap letter (sym (place-before x l n))) (digits-apart n l x))

letters-fit : (n x i : ℕ) → get_or (digits n x) i 0 < 256
unfolding digits
letters-fit zero x i = omega arith
letters-fit (suc n) x zero = letter-fits (place x n) (place-fits x n)
letters-fit (suc n) x (suc i) = letters-fit n x i

-- the bytes of the word that has four letters
pub bytes_of : (x r : ℕ) → r ≡ word x → to_le_bytes w32 r ≡ digits 4 x
unfolding digits
bytes_of x r is = le_bytes_4 (digits 4 x) r refl (letters-fit 4 x) (is ∙ omega arith)

-- n digits at once
pub writing_part : (entry : List ℕ) (at count x : ℕ) → at + count ≤ length entry → (out : List ℕ) (next m n left k : ℕ) (ys : List ℕ)
    → Writing entry at count x out next m → m ≡ n + left → k ≡ n → ys ≡ digits n (x / 2 ^ (left * 4))
    → Writing entry at count x (put_mid next k out ys) (next + n) left
writing_part entry at count x room out next m n left k ys w are few is =
    let long : length ys ≡ n = ap length is ∙ digits_long n (x / 2 ^ (left * 4)) in
    record {
      done = w.done ++ ys;
      whole = append_assoc w.done ys (digits left x)
          ∙ ap (λ (l : List ℕ). w.done ++ (l ++ digits left x)) is
          ∙ ap (λ (l : List ℕ). w.done ++ l) (sym (digits-apart n left x))
          ∙ ap (λ (j : ℕ). w.done ++ digits j x) (sym are)
          ∙ w.whole;
      few = omega (arith, w.few, length-append w.done ys);
      placed = placed-append (omega (arith, room)) w.placed (record { written = rw (few, long, drop-drop) refl; past = omega arith });
    }

-- those that are left, written after those before them
pub writing_rest : (entry : List ℕ) (at count x : ℕ) → at + count ≤ length entry → (out : List ℕ) (next left : ℕ) → Writing entry at count x out next left
    → (final : List ℕ) (past : ℕ) → Placed out next (digits left x) final past → Placed entry at (digits count x) final past
writing_rest entry at count x room out next left w final past p = rw (← w.whole) (placed-append (omega (arith, room)) w.placed p)
