-- Both parts keep what the patterns keep.
use Prim.Native.Nat.{◌+◌, ◌^◌}
use native.Mathlib.Omega.{arith}
use lib.ListN.{drop, length-drop}
use lib.Seq.{get_or-drop}
use Rattle.session.specs.Limits.{word_bits}
use Rattle.session.proofs.Tables.{below-take, below_make, whole_below}
use Rattle.pair_tables.proofs.Patterns.split_at.Goals as goal

pub invariant_of-front-clause-masks_fit : goal.invariant_of-front-clause-masks_fit
invariant_of-front-clause-masks_fit c =
    rw c.split_at.ensures.front (whole_below c.args.self.now.masks.now 0 c.args.k (2 ^ word_bits) (omega (arith, c.requires)) c.args.self.now.masks_fit)

pub invariant_of-back-clause-masks_fit : goal.invariant_of-back-clause-masks_fit
invariant_of-back-clause-masks_fit c =
    let masks = c.args.self.now.masks.now in
    rw c.split_at.ensures.back
    (below_make (2 ^ word_bits) (drop c.args.k masks)
    (λ i l. rw get_or-drop (below-take (2 ^ word_bits) masks c.args.self.now.masks_fit (c.args.k + i) (omega (arith, l, length-drop c.args.k masks)))))
