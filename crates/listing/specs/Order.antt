-- 01, "The walk order of a trigger": the depth-first order.
use Rattle.std.specs.Prelude.{ℕ, zero, suc, ◌+◌, cond, List, [], ◌∷◌, ◌++◌, map}
use Rattle.simulation.specs.Ordered.{elem}
use Rattle.session.specs.Trigger.{Trigger, states, linked}

-- n steps, for 0, 1, .. in turn
unfoldable pub fold : ℕ → (ℕ → List ℕ → List ℕ) → List ℕ → List ℕ
fold zero step xs = xs
fold (suc n) step xs = step n (fold n step xs)

-- "a visit writes the state, then goes along its links in ascending order and visits each target not yet visited": xs has what is written
-- so far, which is what was visited; the depth falls with the states not yet visited
unfoldable pub visit : Trigger → ℕ → ℕ → List ℕ → List ℕ
visit t zero u xs = xs
visit t (suc depth) u xs =
    cond (elem u xs) xs
    (fold (states t) (λ u' ys. cond (linked t u u') (visit t depth u' ys) ys) (xs ++ (u ∷ [])))

-- "visit State One"; "States that the visit of State One does not reach follow in ascending number, without visits of their own".
-- What that visit writes is `reached` of session: `visited-reached` in proofs/Orders.
unfoldable pub order : Trigger → List ℕ
order t =
    map (λ u. u + 1)
    (fold (states t) (λ u xs. cond (elem u xs) xs (xs ++ (u ∷ []))) (visit t (states t) 0 []))
