-- Pairs of a pattern as numbers, and its greatest simulation over states and nodes.
use Prim.Native.Nat.{ℕ, zero, suc, ◌*◌, ◌/◌, ◌%◌, ◌<◌}
use native.Mathlib.Nat.{div-lt_iff_lt-mul, div-add-mod', mod-lt}
use native.Mathlib.Omega.{arith}
use lib.Arith.{digits_lt, digits_div, digits_mod}
use lib.Dec.{ltb, eqb}
use borrow.Author.Tests.{ltb-true, lt-ltb, eqb-true, eq-eqb}
use mathlib.Core.Path.{◌≡◌, sym, ◌∙◌, ap}
use mathlib.Core.Bool.{Bool, true}
use Rattle.simulation.specs.Sets.{Set, In}
use Rattle.simulation.specs.System.{greatest}
use Rattle.simulation.specs.Pattern.{Pattern, pair, paired, related, system, best}
use Rattle.simulation.proofs.Terms.{Simulation, Simulates, carrying}
use Rattle.simulation.proofs.Sets.{and_make, and_l, and_r}
use Rattle.simulation.proofs.System.{greatest-simulates, within-greatest}

module _ (P : Pattern) where
  -- ---- pairs as numbers

  abbrev n : ℕ
  n = P.states

  pub pair-state : (u v : ℕ) → u < n → pair P u v % n ≡ u
  pair-state u v l = digits_mod v l

  pub pair-node : (u v : ℕ) → u < n → pair P u v / n ≡ v
  pair-node u v l = digits_div v l

  pub pair_inside : (u v : ℕ) → u < n → v < P.nodes → pair P u v < P.nodes * n
  pair_inside u v l m = digits_lt m l

  positive : (p k : ℕ) → p < P.nodes * k → 0 < k
  positive p zero h = absurd (omega arith)
  positive p (suc k) h = omega arith

  pub some_state : (p : ℕ) → p < P.nodes * n → 0 < n
  some_state p h = positive p n h

  pub state-inside : (p : ℕ) → p < P.nodes * n → p % n < n
  state-inside p h = mod-lt p (some_state p h)

  pub node-inside : (p : ℕ) → p < P.nodes * n → p / n < P.nodes
  node-inside p h = (div-lt_iff_lt-mul (some_state p h)).1 h

  pub pair-whole : (p : ℕ) → pair P (p % n) (p / n) ≡ p
  pair-whole p = div-add-mod' p n

  -- ---- relations and sets of pairs

  pub related-state : (X : Set) (u v : ℕ) → related P X u v ≡ true → u < n
  related-state X u v h = ltb-true u n (and_l (ltb u n) (X (pair P u v)) h)

  pub related-pair : (X : Set) (u v : ℕ) → related P X u v ≡ true → In X (pair P u v)
  related-pair X u v h = and_r (ltb u n) (X (pair P u v)) h

  pub related_make : (X : Set) (u v : ℕ) → u < n → In X (pair P u v) → related P X u v ≡ true
  related_make X u v l h = and_make (lt-ltb u n l) h

  pub paired-pair : (R : ℕ → ℕ → Bool) (u v : ℕ) → u < n → paired P R (pair P u v) ≡ R u v
  paired-pair R u v l = rw (pair-state u v l, pair-node u v l)

  pub related-paired : (X : Set) (p : ℕ) → p < P.nodes * n → paired P (related P X) p ≡ X p
  related-paired X p h = rw (lt-ltb (p % n) n (state-inside p h), pair-whole p)

  -- an obligation of a pair is met by another
  pub meets-take : (p o q : ℕ) → In ((system P).meets p o) q → (P.target o ≡ q % n) × (P.carry (p % n) o (p / n) (q / n) ≡ true)
  meets-take p o q h =
      let test = eqb (P.target o) (q % n) in
      let moved = P.carry (p % n) o (p / n) (q / n) in
      (eqb-true (P.target o) (q % n) (and_l test moved h), and_r test moved h)

  pub meets_make : (p o q : ℕ) → P.target o ≡ q % n → P.carry (p % n) o (p / n) (q / n) ≡ true → In ((system P).meets p o) q
  meets_make p o q e c = and_make (eq-eqb (P.target o) (q % n) e) c

  -- the same of the state u at the node v
  pub met_at : (u o v q : ℕ) → u < n → In ((system P).meets (pair P u v) o) q → (P.target o ≡ q % n) × (P.carry u o v (q / n) ≡ true)
  met_at u o v q l h =
      let m = meets-take (pair P u v) o q h in
      (m.0, rw (pair-state u v l, pair-node u v l) at m.1)

  pub due-at : (u o v : ℕ) → u < n → (system P).due (pair P u v) o ≡ P.due u o
  due-at u o v l = ap (λ (x : ℕ). P.due x o) (pair-state u v l)

  -- ---- the greatest simulation

  abbrev G : Set
  G = greatest (system P)

  g : Simulation (system P) (In (greatest (system P)))
  g = greatest-simulates (system P)

  pub best-state : (u v : ℕ) → best P u v ≡ true → u < n
  unfolding best
  best-state u v h = related-state G u v h

  pub best-pair : (u v : ℕ) → best P u v ≡ true → In (greatest (system P)) (pair P u v)
  unfolding best
  best-pair u v h = related-pair G u v h

  pub best_make : (u v : ℕ) → u < n → In (greatest (system P)) (pair P u v) → best P u v ≡ true
  unfolding best
  best_make u v l h = related_make G u v l h

  pub best_of : (p : ℕ) → In (greatest (system P)) p → best P (p % n) (p / n) ≡ true
  best_of p h = best_make (p % n) (p / n) (state-inside p (g.inside p h)) (rw (pair-whole p) h)

  pub best-simulates : Simulates P (λ u v. best P u v ≡ true)
  best-simulates = record {
    inside = λ u v h.
        let l = best-state u v h in
        (l, rw (pair-node u v l) at (node-inside (pair P u v) (g.inside (pair P u v) (best-pair u v h))));
    admits = λ u v h.
        rw (paired-pair P.admits u v (best-state u v h)) at (g.admits (pair P u v) (best-pair u v h));
    carries = λ u o v l d h.
        let b = best-state u v h in
        let w = g.carries (pair P u v) o (best-pair u v h) l (due-at u o v b ∙ d) in
        let q = w.0 in
        let m = met_at u o v q b w.2 in
        (q / n, node-inside q w.1, m.1, rw m.0 (best_of q w.3));
  }

  pub within-best : (R : ℕ → ℕ → Type 0) → Simulates P R → (u v : ℕ) → R u v → best P u v ≡ true
  within-best R m u v r =
      let l = (m.inside u v r).0 in
      best_make u v l (within-greatest (system P) X simulates (pair P u v) (rw (pair-state u v l, pair-node u v l) r))
    where
      X : ℕ → Type 0
      X p = R (p % n) (p / n)

      simulates : Simulation (system P) X
      simulates = record {
        inside = λ p h.
            let i = m.inside (p % n) (p / n) h in
            let some : 0 < n = omega (arith, i.0) in
            (div-lt_iff_lt-mul some).0 i.1;
        admits = λ p h. m.admits (p % n) (p / n) h;
        carries = λ p o h l d.
            let w = m.carries (p % n) o (p / n) l d h in
            let i = m.inside (P.target o) w.0 w.3 in
            let q = pair P (P.target o) w.0 in (
              q,
              pair_inside (P.target o) w.0 i.0 i.1,
              meets_make p o q (sym (pair-state (P.target o) w.0 i.0)) (rw (pair-node (P.target o) w.0 i.0) w.2),
              rw (pair-state (P.target o) w.0 i.0, pair-node (P.target o) w.0 i.0) w.3,
            );
      }

-- where obligations are carried more, pairs meet more
pub meets-more : (P : Pattern) (c : ℕ → ℕ → ℕ → ℕ → Bool) → ((u o v w : ℕ) → P.carry u o v w ≡ true → c u o v w ≡ true)
    → (p o q : ℕ) → In ((system P).meets p o) q → In ((system (carrying P c)).meets p o) q
meets-more P c sub p o q h =
    let m = meets-take P p o q h in
    meets_make (carrying P c) p o q m.0 (sub (p % P.states) o (p / P.states) (q / P.states) m.1)
