-- Without an index the looks are few; where nodes wait after them, the refinement goes on with one.
use Prim.Native.Nat.{ℕ}
use mathlib.Core.Path.{◌≡◌, refl, sym, ◌∙◌}
use mathlib.Core.Bool.{false}
use Rattle.std.specs.Prelude.{Option, Some, None}
use Rattle.std.specs.Option.{MatchOption, is_some}
use Rattle.simulation.proofs.Sets.{clash}
use Rattle.refinement.proofs.Settling.{refining_end}
use Rattle.refinement.proofs.refine_few.Goals as goal

unstopped : (r : Option ℕ) (P : Type 0) (Q : ℕ → Type 0) → is_some r ≡ false → MatchOption r P Q → P
unstopped None P Q e h = h
unstopped (Some v) P Q e h = clash refl e

pub returns-else-is_some : goal.returns-else-is_some
returns-else-is_some c =
    let r = c.refine-left in
    refining_end _ _ _ c.args.net.now.sound _ _ _ _ _ _ r.ensures.refining
    (unstopped r.result _ _ (sym c.is_some.ensures ∙ c.if-is_some.false) r.ensures.lowest) c.requires.inside c.requires.settled_len.1
