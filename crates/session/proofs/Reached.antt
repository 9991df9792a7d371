-- The computed set of reached states: it has just the states to which a chain of links leads from State One.
use Prim.Native.Nat.{ℕ, ◌<◌}
use mathlib.Core.Path.{◌≡◌, refl, ap₂}
use mathlib.Core.Logic.{⊎_elim, ◌↔◌}
use mathlib.Core.Bool.{true, ◌&&◌, ◌||◌}
use mathlib.Core.List.{List}
use lib.Dec.{eqb}
use lib.ListN.{get_or}
use borrow.Author.Tests.{eqb-true}
use Rattle.simulation.specs.Sets.{Set, In, any_below, grown}
use Rattle.simulation.proofs.Sets.{and_make, and_l, and_r, or_l, or_r, or-take, any_make, any_take, grown_least, grown-inside, grown_closed}
use Rattle.bits.specs.Word.{members}
use Rattle.session.specs.Trigger.{Trigger, states, linked}
use Rattle.session.specs.Reached.{Reached, one, link, reached}

module _ (t : Trigger) where
  -- the states with a link from X, and State One
  abbrev led : Set → Set
  led X u' = eqb u' 0 || any_below (states t) (λ u. linked t u u' && X u)

  led-more : (X Y : Set) → ((u : ℕ) → In X u → In Y u) → (u' : ℕ) → In (led X) u' → In (led Y) u'
  led-more X Y sub u' h =
      ⊎_elim
      (λ e. or_l (any_below (states t) (λ u. linked t u u' && Y u)) e)
      (λ e.
      let w = any_take (states t) (λ u. linked t u u' && X u) e in
      let u = w.0 in
      or_r (eqb u' 0)
      (any_make (states t) (λ u. linked t u u' && Y u) u w.1
      (and_make (and_l (linked t u u') (X u) w.2) (sub u (and_r (linked t u u') (X u) w.2)))))
      (or-take (eqb u' 0) (any_below (states t) (λ u. linked t u u' && X u)) h)

  pub reached-inside : (u : ℕ) → reached t u ≡ true → u < states t
  unfolding reached
  reached-inside = grown-inside (states t) led

  closed : (u' : ℕ) → u' < states t → In (led (reached t)) u' → reached t u' ≡ true
  unfolding reached
  closed = grown_closed (states t) led led-more

  -- State One is reached, and so is what a reached state links to
  pub reached-one : 0 < states t → reached t 0 ≡ true
  reached-one l = closed 0 l (or_l (any_below (states t) (λ u. linked t u 0 && reached t u)) refl)

  pub reached-link : (u u' : ℕ) → u' < states t → reached t u ≡ true → linked t u u' ≡ true → reached t u' ≡ true
  reached-link u u' l h k =
      closed u' l
      (or_r (eqb u' 0) (any_make (states t) (λ u. linked t u u' && reached t u) u (reached-inside u h) (and_make k h)))

  -- and nothing else
  pub reached_least : (R : ℕ → Type 0) → (0 < states t → R 0) → ((u u' : ℕ) → R u → u' < states t → linked t u u' ≡ true → R u')
      → (u : ℕ) → reached t u ≡ true → R u
  unfolding reached
  reached_least R first next =
      grown_least (states t) led R
      (λ X sub u' l h.
      ⊎_elim
      (λ (e : eqb u' 0 ≡ true). let z = eqb-true u' 0 e in rw z (first (rw z at l)))
      (λ e.
      let w = any_take (states t) (λ u. linked t u u' && X u) e in
      let u = w.0 in
      next u u' (sub u (and_r (linked t u u') (X u) w.2)) l (and_l (linked t u u') (X u) w.2))
      (or-take (eqb u' 0) (any_below (states t) (λ u. linked t u u' && X u)) h))

  chain-reached : {u : ℕ} → Reached t u → reached t u ≡ true
  chain-reached (one l) = reached-one l
  chain-reached (link {u} u' c l k) = reached-link u u' l (chain-reached c) k

  pub reached_iff : (u : ℕ) → (reached t u ≡ true) ↔ Reached t u
  reached_iff u = (
    reached_least (Reached t) one (λ u u' c l k. link u' c l k) u,
    chain-reached,
  )

-- it depends on the count and the links alone
pub reached-same : (t t' : Trigger) → states t ≡ states t' → t.links ≡ t'.links → reached t ≡ reached t'
unfolding reached linked
reached-same t t' count links =
    ap₂
    (λ (n : ℕ) (ls : List ℕ). grown n (λ X u'. eqb u' 0 || any_below n (λ u. members (get_or ls u 0) u' && X u))) count links
