-- A loop that fills a list from the front with the entries of a table, one store a turn: how it begins, goes on and ends. A list and zeros after it.
use Prim.Native.Nat.{ℕ, zero, suc, ◌+◌, ◌-◌, ◌<◌, ◌≤◌}
use native.Mathlib.Numerals.{add-one}
use native.Mathlib.Omega.{arith}
use mathlib.Core.Path.{◌≡◌, refl, sym, ap, ap₂, ◌∙◌}
use mathlib.Core.Logic.{⊎_elim}
use mathlib.Core.List.{List, [], ◌∷◌, ◌++◌, append-nil}
use lib.ListN.{length, get_or, replicate, take, drop, set, length-append, length-take, length-drop, length-set, drop_of_length-le, get_or-eq_default}
use lib.Seq.{take_at, drop_at, ext_get_or}
use Rattle.session.specs.Layout.{table, section}
use Rattle.session.proofs.Tables.{section-longer, length-section, get_or-section}
use Rattle.std.proofs.lemmas.Bool.{cases_lt}

-- the first i places hold the table of f, the others what they held at entry
pub record Filled (f : ℕ → ℕ) (entry place : List ℕ) (i : ℕ) : Type 0 where
  pub inside : i ≤ length entry
  pub long : length place ≡ length entry
  pub holds : place ≡ table i f ++ drop i entry

store : (i : ℕ) (f : ℕ → ℕ) (entry : List ℕ) → i < length entry
    → set (table i f ++ drop i entry) i (f i) ≡ table (suc i) f ++ drop (suc i) entry
unfolding table
store i f [] l = absurd (omega arith)
store zero f (x ∷ xs) l = refl
store (suc i) f (x ∷ xs) l = ap (λ (r : List ℕ). f 0 ∷ r) (store i (λ j. f (suc j)) xs (omega arith))

module _ (f : ℕ → ℕ) (entry : List ℕ) where
  pub fill_start : Filled f entry entry 0
  unfolding table
  fill_start = record { inside = omega arith; long = refl; holds = refl }

  pub fill_step : (place : List ℕ) (i x : ℕ) → Filled f entry place i → i < length entry → x ≡ f i
      → Filled f entry (set place i x) (i + 1)
  fill_step place i x h l e = record {
    inside = omega arith;
    long = length-set place i x ∙ h.long;
    holds = rw (add-one, e, h.holds) (store i f entry l);
  }

  pub fill_end : (place : List ℕ) (i : ℕ) → Filled f entry place i → length entry ≤ i → place ≡ table (length entry) f
  fill_end place i h l =
      let whole : i ≡ length entry = omega (arith, h.inside) in
      h.holds
      ∙ ap (λ (r : List ℕ). table i f ++ r) (drop_of_length-le entry l)
      ∙ append-nil (table i f)
      ∙ ap (λ (n : ℕ). table n f) whole

-- zeros alone
pub section_zeros : (n : ℕ) → replicate n 0 ≡ section n []
unfolding section table
section_zeros zero = refl
section_zeros (suc n) = ap (λ (r : List ℕ). 0 ∷ r) (section_zeros n)

-- a list whose first entries are those of another, and the others zero, is its section
pub section_filled : (n used : ℕ) (source place : List ℕ) → length place ≡ n → length source ≡ used
    → ((i : ℕ) → i < used → get_or place i 0 ≡ get_or source i 0)
    → ((i : ℕ) → used ≤ i → get_or place i 0 ≡ 0)
    → place ≡ section n source
section_filled n used source place long few front rest =
    ext_get_or 0 place (section n source) (long ∙ sym (length-section n source))
    (λ i l.
    ⊎_elim (λ (h : i < used). front i h) (λ (h : used ≤ i). rest i h ∙ sym (get_or-eq_default source 0 (omega arith))) (cases_lt i used)
    ∙ sym (get_or-section n source i (omega arith)))

-- a list is stored at the front of one that is no shorter, and zeros in the places after it
pub fill_parts : (place source front rest : List ℕ) (n k : ℕ)
    → length source ≡ n
    → n ≤ length place
    → front ≡ source
    → k ≡ length (front ++ drop n place) - n
    → rest ≡ replicate (length (take k (drop n (front ++ drop n place)))) 0
    → take n (front ++ drop n place) ++ (rest ++ drop k (drop n (front ++ drop n place))) ≡ section (length place) source
fill_parts place source front rest n k whole l e size zeros =
    let long : length front ≡ n = ap length e ∙ whole in
    let past : drop n (front ++ drop n place) ≡ drop n place = drop_at front (drop n place) n long in
    let left : k ≡ length (drop n place) = omega (arith, size, long, length-append front (drop n place)) in
    let cleared : rest ≡ section (length place - length source) [] =
    zeros
    ∙ section_zeros (length (take k (drop n (front ++ drop n place))))
    ∙ ap (λ (r : List ℕ). section (length (take k r)) []) past
    ∙ ap (λ (m : ℕ). section m []) (omega (arith, length-take k (drop n place), length-drop n place)) in
    ap₂ ◌++◌ (take_at front (drop n place) n long ∙ e)
    (ap₂ ◌++◌ cleared (ap (drop k) past ∙ drop_of_length-le (drop n place) {i = k} (omega (arith, left)))
    ∙ append-nil (section (length place - length source) []))
    ∙ section-longer (length place) source (omega arith)

-- what is stored at the front of a list is read there
pub front_read : (zs front source : List ℕ) (n : ℕ) → front ≡ source → length source ≡ n → take n (front ++ drop n zs) ≡ source
front_read zs front source n e l = take_at front (drop n zs) n (ap length e ∙ l) ∙ e

pub front-inside : (front source rest : List ℕ) (n : ℕ) → front ≡ source → length source ≡ n → n ≤ length (front ++ rest)
front-inside front source rest n e l = omega (arith, ap length e, length-append front rest)
