-- A refusal names a rule: its number is no 0.
use native.Mathlib.Omega.{arith}
use mathlib.Core.Path.{◌≡◌}
use Rattle.promises.specs.declared.Refusal.{Refusal}
use Rattle.promises.specs.declared.Refusal.TheVariants as R
use Rattle.promises.specs.Answers.{number}

pub number-some : (rule : Refusal) → number rule ≡ 0 → ⊥
number-some R.NoFrame e = omega (arith, e)
number-some R.NotNow e = omega (arith, e)
number-some R.MemoryShort e = omega (arith, e)
number-some R.StatesWrong e = omega (arith, e)
number-some R.LinkWrong e = omega (arith, e)
number-some R.NodesWrong e = omega (arith, e)
number-some R.EdgesWrong e = omega (arith, e)
number-some R.EdgeNodeWrong e = omega (arith, e)
number-some R.EdgesUnordered e = omega (arith, e)
number-some R.NotInLayout e = omega (arith, e)
number-some R.NameWrong e = omega (arith, e)
number-some R.EdgePresent e = omega (arith, e)
number-some R.EdgesFull e = omega (arith, e)
number-some R.EdgeAbsent e = omega (arith, e)
