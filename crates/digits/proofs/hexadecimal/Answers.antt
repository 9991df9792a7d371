use Prim.Native.Nat.{ℕ, ◌+◌}
use native.Mathlib.Numerals.{add-one}
use mathlib.Core.Path.{◌≡◌, refl, ap, ◌∙◌}
use mathlib.Core.Bool.{Bool, true, false, cond, ◌&&◌, and_comm}
use native.Mathlib.Omega.{arith}
use lib.Dec.{ltb}
use lib.ListN.{length, get_or}
use Rattle.std.proofs.Common.{Some, None}
use Rattle.std.specs.Option.{is_some}
use Rattle.simulation.specs.Sets.{Set, all_below}
use Rattle.frames.specs.Digits as d
use Rattle.digits.proofs.hexadecimal.Goals as goal

is-some : {A : Type 0} (b : Bool) (v : A) → is_some (cond b (Some v) None) ≡ b
is-some true v = refl
is-some false v = refl

-- one byte more
all-more : (n : ℕ) (X : Set) (b : Bool) → b ≡ X n → (all_below n X && b) ≡ all_below (n + 1) X
unfolding all_below
all-more n X b is = rw (add-one, is) (and_comm (all_below n X) (X n))

pub loop-byte-init : goal.loop-byte-init
unfolding all_below
loop-byte-init c =
    refl

pub loop-byte-preserved : goal.loop-byte-preserved
loop-byte-preserved c =
    let bs = c.args.line.now in
    let k = c.loop-byte.byte-index in
    let v = d.digit (get_or bs k 0) in
    let here = c.is_some-all.ensures ∙ ap is_some c.digit.ensures ∙ is-some (ltb v 16) v in
    rw c.loop-byte.invariant (all-more k (λ i. ltb (d.digit (get_or bs i 0)) 16) c.is_some-all.result here)

pub returns : goal.returns
unfolding d.hexadecimal
returns c =
    let over : c.loop-byte.byte-index ≡ length c.args.line.now = omega arith in
    rw over at c.loop-byte.invariant
