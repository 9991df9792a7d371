-- The order has as many places as the front, and is copied whole.
use Prim.Native.Nat.{ℕ}
use native.Mathlib.Omega.{arith}
use mathlib.Core.Path.{◌≡◌, sym, ap, ◌∙◌}
use mathlib.Core.List.{List, ◌++◌}
use lib.ListN.{length, drop, length-take}
use Rattle.session.specs.Layout.{section}
use Rattle.session.specs.Limits.{max_states}
use Rattle.session.proofs.Tables.{table_of}
use Rattle.answer_numbers.proofs.fill_front.Goals as goal

section_whole : (n : ℕ) (xs : List ℕ) → length xs ≡ n → section n xs ≡ xs
unfolding section
section_whole n xs long = ap (λ (k : ℕ). section k xs) (sym long) ∙ table_of xs

pub copy_from_slice-requires : goal.copy_from_slice-requires
copy_from_slice-requires c =
    omega (arith, c.requires, c.told-order, length-take 32 c.args.places.now)

pub returns : goal.returns
returns c =
    let whole = sym (section_whole max_states c.args.order.now c.told-order) in
    ap (λ (front : List ℕ). front ++ drop max_states c.args.places.now) (c.copy_from_slice.ensures.after ∙ whole)
