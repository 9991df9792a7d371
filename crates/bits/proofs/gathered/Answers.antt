use native.Mathlib.Omega.{arith}
use mathlib.Core.Path.{◌≡◌, refl}
use lib.ListN.{length, get_or}
use Rattle.bits.specs.Word.{members}
use Rattle.bits.proofs.Gathers.{gather_none, gather_more}
use Rattle.bits.proofs.gathered.Goals as goal

pub loop-word-init : goal.loop-word-init
loop-word-init c =
    gather_none (λ j. members (get_or c.args.words.now j 0))

pub loop-word-preserved : goal.loop-word-preserved
loop-word-preserved c =
    let words = c.args.words.now in
    let l = c.loop-word in
    gather_more (λ j. members (get_or words j 0)) l.all (get_or words l.word-index 0) l.word-index l.invariant refl

pub returns : goal.returns
returns c =
    let end : c.loop-word.word-index ≡ length c.args.words.now = omega arith in
    rw (← end) c.loop-word.invariant
