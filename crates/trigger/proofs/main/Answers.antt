-- The memory is long enough, and zero.
use Prim.Native.Nat.{ℕ, ◌≤◌}
use native.Mathlib.Omega.{arith}
use mathlib.Core.Path.{refl, sym, subst}
use lib.IntN.{pos}
use lib.ListN.{length, replicate, length-replicate}
use Rattle.frames.specs.Lines.{front_size}
use Rattle.frames.specs.Machine.{counts_size, words_size, output_size}
use Rattle.session.specs.Limits.{fixed_size, max_changes}
use Rattle.trigger.proofs.main.Goals as goal

-- the code's OUTPUT_LENT
abbrev lent : ℕ
lent = 524288

-- of a list of n zeros nothing is computed but its length: there are too many
enough : (n : ℕ) → output_size ≤ n → output_size ≤ length (replicate {A = ℕ} n 0)
enough n l = subst (λ (k : ℕ). output_size ≤ k) (sym (length-replicate {A = ℕ} n 0)) l

pub slice_bounds-answer_input-end-7 : goal.slice_bounds-answer_input-end-7
slice_bounds-answer_input-end-7 c = sym (length-replicate {A = ℕ} lent 0)

pub answer_input-requires : goal.answer_input-requires
answer_input-requires c = (
  record {
    counts = omega (arith, length-replicate {A = ℕ} counts_size 0);
    words = omega (arith, length-replicate {A = ℕ} words_size 0);
    session = omega (arith, length-replicate {A = ℕ} fixed_size 0);
    moment = refl;
    states = refl;
    nodes = refl;
  },
  omega (arith, length-replicate max_changes (pos 0)),
  enough lent (omega arith),
  omega (arith, length-replicate {A = ℕ} front_size 0),
)
