-- One edge more or less in plain simulation: the pairs that it touches, and the two changes of the greatest simulation.
use Prim.Native.Nat.{ℕ, ◌+◌, ◌*◌, ◌/◌, ◌%◌, ◌<◌}
use native.Mathlib.Nat.{div-add-mod'}
use lib.Dec.{eqb}
use borrow.Author.Tests.{eqb-true, eq-eqb}
use mathlib.Core.Path.{◌≡◌, sym, ◌∙◌, ap, fun_ext}
use mathlib.Core.Logic.{⊎_elim}
use mathlib.Core.Bool.{Bool, true, false, not, ◌&&◌, or-false, and-true}
use Rattle.simulation.specs.Sets.{Set, In, none, union, minus, any_below}
use Rattle.simulation.specs.System.{System, supported, greatest, refined, closure}
use Rattle.simulation.specs.Pattern.{Pattern, pair, system, best, plain}
use Rattle.simulation.proofs.Terms.{Chain, meeting, touched, changed, joined, parted}
use Rattle.simulation.proofs.Sets.{clash, split, refuted, and_make, and_l, and_r, or_l, or_r, or-take, any_make}
use Rattle.simulation.proofs.System.{reaches-take}
use Rattle.simulation.proofs.Change.{minus_l, minus_r, chain-map, greatest_grows, shrinks, untouched, chain, inserted}
use Rattle.simulation.proofs.Pattern.{paired-pair, meets-take, meets_make, best-state, best-pair, best_make}

-- an edge of the larger graph that the smaller lacks is the one joined
pub joined-new : (e : ℕ → ℕ → Bool) (a b v w : ℕ) → joined e a b v w ≡ true → e v w ≡ false → (v ≡ a) × (w ≡ b)
joined-new e a b v w h k =
    ⊎_elim (λ d. clash d k)
    (λ d. (eqb-true v a (and_l (eqb v a) (eqb w b) d), eqb-true w b (and_r (eqb v a) (eqb w b) d)))
    (or-take (e v w) (eqb v a && eqb w b) h)

-- an edge of the graph, taken out and put in again
pub joined-parted : (e : ℕ → ℕ → Bool) (a b : ℕ) → e a b ≡ true → e ≡ joined (parted e a b) a b
joined-parted e a b h =
    fun_ext
    (λ v.
    fun_ext
    (λ w.
    ⊎_elim
    (λ (d : (eqb v a && eqb w b) ≡ true).
    let p = eqb-true v a (and_l (eqb v a) (eqb w b) d) in
    let q = eqb-true w b (and_r (eqb v a) (eqb w b) d) in
    (rw (p, q) h) ∙ sym (or_r (e v w && not (eqb v a && eqb w b)) d))
    (λ (d : (eqb v a && eqb w b) ≡ false). rw (d, and-true (e v w), or-false (e v w)))
    (split (eqb v a && eqb w b))))

-- the pairs at the edge's start that have a link to a state which its end admits
abbrev pub plain-seeds : ℕ → (ℕ → ℕ → Bool) → (ℕ → ℕ → Bool) → ℕ → ℕ → Set
plain-seeds n linked admits a b p = eqb (p / n) a && any_below n (λ o. linked (p % n) o && admits o b)

-- the pairs that are admitted and not in the greatest simulation
abbrev pub fresh : System → Set
fresh s = minus s.admitted (greatest s)

module _ (n m : ℕ) (linked admits e : ℕ → ℕ → Bool) (a b : ℕ) where
  abbrev A : Pattern
  A = plain n m linked admits e

  abbrev B : Pattern
  B = plain n m linked admits (joined e a b)

  pub plain-meets : (p o q : ℕ) → In ((system A).meets p o) q → In ((system B).meets p o) q
  plain-meets p o q h =
      let w = meets-take A p o q h in
      meets_make B p o q w.0 (or_l (eqb (p / n) a && eqb (q / n) b) w.1)

  -- a pair is touched at the edge's start, by a link to a pair of X at its end
  pub plain-touched : (X : Set) (p : ℕ) → In (touched (system A) (system A).meets (system B).meets X) p
      → (o : ℕ) × (o < n) × (linked (p % n) o ≡ true) × (p / n ≡ a) × In X (b * n + o)
  unfolding touched
  plain-touched X p h =
      let less = (system A).meets in
      let more = (system B).meets in
      let r = reaches-take (meeting (system A) (λ p o. minus (more p o) (less p o))) X p h in
      let o = r.0 in
      let q = r.3.0 in
      let new = meets-take B p o q (minus_l (more p o) (less p o) q r.3.2) in
      let old = refuted (e (p / n) (q / n)) (λ d. clash (meets_make A p o q new.0 d) (minus_r (more p o) (less p o) q r.3.2)) in
      let k = joined-new e a b (p / n) (q / n) new.1 old in
      let whole : b * n + o ≡ q = ap (λ (x : ℕ). x * n + o) (sym k.1) ∙ ap (λ (x : ℕ). q / n * n + x) new.0 ∙ div-add-mod' q n in
      (o, r.1, r.2, k.0, rw whole r.3.3)

  pub plain_grows : (u v : ℕ) → best A u v ≡ true → best B u v ≡ true
  plain_grows u v h =
      best_make B u v (best-state A u v h)
      (greatest_grows (system A) (system A).meets (system B).meets plain-meets (pair A u v) (best-pair A u v h))

  -- insertion: what is reached from the seeds among the fresh pairs, refined beside the old simulation
  pub plain_inserted : union (greatest (system A)) (refined (system B) (greatest (system A)) (closure (system B) (fresh (system A)) (plain-seeds n linked admits a b)))
      ≡ greatest (system B)
  plain_inserted =
      inserted (system A) (system A).meets (system B).meets plain-meets (system B).meets plain-meets (plain-seeds n linked admits a b)
      (λ p f t.
      let w = plain-touched (system A).admitted p t in
      let o = w.0 in
      and_make (eq-eqb (p / n) a w.3)
      (any_make n (λ o. linked (p % n) o && admits o b) o w.1 (and_make w.2 (rw (paired-pair A admits o b w.1) at w.4))))

  -- deletion: the old simulation refined, with nothing settled
  pub plain_deleted : refined (system A) none (greatest (system B)) ≡ greatest (system A)
  plain_deleted = shrinks (system A) (system A).meets (system B).meets plain-meets

  -- away from the edge's start all keep their support
  pub plain-first : (p : ℕ) → In (greatest (system B)) p → (p / n ≡ a → ⊥) → In (supported (system A) (greatest (system B))) p
  plain-first p h away =
      untouched (system A) (system A).meets (system B).meets plain-meets p h
      (refuted (touched (system A) (system A).meets (system B).meets (greatest (system B)) p)
      (λ t. away (plain-touched (greatest (system B)) p t).3))

  -- what changed has a chain of changed pairs to one at the edge's start
  pub plain-chain : (p : ℕ) → In (changed (system A) (system A).meets (system B).meets) p
      → Chain (system B) (changed (system A) (system A).meets (system B).meets) (λ q. eqb (q / n) a) p
  plain-chain p h =
      let less = (system A).meets in
      let more = (system B).meets in
      chain-map (system B) (changed (system A) less more) (touched (system A) less more (greatest (system B))) (λ q. eqb (q / n) a)
      (λ q t. eq-eqb (q / n) a (plain-touched (greatest (system B)) q t).3)
      (chain (system A) less more plain-meets p h)
