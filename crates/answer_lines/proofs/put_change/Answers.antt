-- The kind, the eight digits and the line feed.
use native.Mathlib.Omega.{arith}
use mathlib.Core.List.{[], ◌∷◌, ◌++◌, append_assoc}
use mathlib.Core.Path.{◌≡◌, ◌∙◌, ap, ap₂}
use lib.IntN.{ℤ}
use mir.Syntax.{w32}
use mir.ValLaws.{to_z-of_z}
use Prim.Native.Nat.{ℕ, ◌+◌}
use lib.ListN.{length, length-append}
use Rattle.listing.proofs.Placing.{placed-append}
use Rattle.frames.specs.Digits.{digits}
use Rattle.frames.specs.Outputs.{complement, changed}
use Rattle.frames.proofs.Written.{digits_long, room_after}
use Rattle.answer_lines.proofs.put_change.Goals as goal

-- the line, from the digits that were computed
lined : (z : ℤ) (x : ℕ) → x ≡ complement z → (digits 2 129 ++ digits 8 x) ++ (10 ∷ []) ≡ changed z
unfolding changed
lined z x e = append_assoc (digits 2 129) (digits 8 x) (10 ∷ []) ∙ ap (λ (y : ℕ). digits 2 129 ++ (digits 8 y ++ (10 ∷ []))) e

pub put_digits-next-requires : goal.put_digits-next-requires
put_digits-next-requires c =
    let k = c.put_digits-kind in (
      omega arith,
      room_after c.args.out.now c.args.at (digits 2 129) k.new.out k.result 8 (omega (arith, c.requires, digits_long 2 129)) k.ensures,
    )

pub put_byte-requires : goal.put_byte-requires
put_byte-requires c =
    let k = c.put_digits-next in
    let x = c.complement-bits.result in
    let long : length (digits 2 129 ++ digits 8 x) ≡ 2 + 8 = length-append (digits 2 129) (digits 8 x) ∙ ap₂ ◌+◌ (digits_long 2 129) (digits_long 8 x) in
    omega (
      arith,
      room_after c.args.out.now c.args.at (digits 2 129 ++ digits 8 x) k.new.out k.result 1 (omega (arith, c.requires, long))
          (placed-append (omega (arith, c.requires)) c.put_digits-kind.ensures k.ensures),
    )

pub returns : goal.returns
returns c =
    let x = c.complement-bits in
    rw (← lined c.args.change x.result (x.ensures ∙ ap complement (to_z-of_z w32 c.args.change c.ranges.change)))
    (placed-append (omega (arith, c.requires)) (placed-append (omega (arith, c.requires)) c.put_digits-kind.ensures c.put_digits-next.ensures) c.put_byte.ensures)
