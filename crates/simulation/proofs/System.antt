-- The greatest simulation of a system, its refinement within bounds, and backward closure.
use Prim.Native.Nat.{ℕ, ◌<◌}
use mathlib.Core.Path.{◌≡◌, fun_ext}
use mathlib.Core.Logic.{◌⊎◌, inl, inr, ⊎_elim, ◌↔◌}
use mathlib.Core.Bool.{false, not, ◌&&◌, ◌||◌}
use Rattle.simulation.specs.Sets.{Set, In, union, any_below, shrunk}
use Rattle.simulation.specs.System.{System, supported, level, greatest, refined, reaches, closure}
use Rattle.simulation.proofs.Terms.{Simulation, Chain, seed, step}
use Rattle.simulation.proofs.Sets.{
  clash,
  split,
  same,
  and_make,
  and_l,
  and_r,
  or_l,
  or_r,
  or-take,
  implies_make,
  implies_take,
  any_make,
  any_take,
  all_make,
  all_take,
  down-greatest,
  shrunk-inside,
  shrunk-start,
  shrunk-greatest,
  shrunk-holds,
  grown_least,
  grown-inside,
  grown_closed,
}

-- ---- support

module _ (s : System) where
  -- what one obligation asks of the relation X
  abbrev pub Met : (ℕ → Type 0) → ℕ → ℕ → Type 0
  Met X p o = (q : ℕ) × (q < s.pairs) × In (s.meets p o) q × X q

  pub supported_make : (X : Set) (p : ℕ) → ((o : ℕ) → o < s.duties → In (s.due p) o → Met (In X) p o) → In (supported s X) p
  unfolding supported
  supported_make X p h =
      all_make s.duties (λ o. not (s.due p o) || any_below s.pairs (λ q. s.meets p o q && X q))
      (λ o l. implies_make (s.due p o) (any_below s.pairs (λ q. s.meets p o q && X q))
      (λ d. let w = h o l d in any_make s.pairs (λ q. s.meets p o q && X q) w.0 w.1 (and_make w.2 w.3)))

  pub supported-take : (X : Set) (p : ℕ) → In (supported s X) p → (o : ℕ) → o < s.duties → In (s.due p) o → Met (In X) p o
  unfolding supported
  supported-take X p h o l d =
      let r = any_take s.pairs (λ q. s.meets p o q && X q)
      (implies_take (s.due p o) (any_below s.pairs (λ q. s.meets p o q && X q))
      (all_take s.duties (λ o. not (s.due p o) || any_below s.pairs (λ q. s.meets p o q && X q)) h o l) d) in
      (r.0, r.1, and_l (s.meets p o r.0) (X r.0) r.2, and_r (s.meets p o r.0) (X r.0) r.2)

  pub supported_mono : (X Y : Set) → ((p : ℕ) → In X p → In Y p) → (p : ℕ) → In (supported s X) p → In (supported s Y) p
  supported_mono X Y h p m =
      supported_make Y p (λ o l d. let w = supported-take X p m o l d in (w.0, w.1, w.2, h w.0 w.3))

  -- ---- the greatest simulation

  pub greatest-simulates : Simulation s (In (greatest s))
  unfolding greatest
  greatest-simulates = record {
    inside = shrunk-inside s.pairs (supported s) s.admitted;
    admits = shrunk-start s.pairs (supported s) s.admitted;
    carries = λ p o h l d. supported-take (greatest s) p (shrunk-holds s.pairs (supported s) s.admitted supported_mono p h) o l d;
  }

  -- a simulation is within each level, and so within the greatest
  pub within_level : (R : ℕ → Type 0) → Simulation s R → (k p : ℕ) → R p → In (level s k) p
  unfolding level
  within_level R m =
      down-greatest s.pairs (supported s) s.admitted R m.inside m.admits
      (λ X sub p r. supported_make X p (λ o l d. let w = m.carries p o r l d in (w.0, w.1, w.2, sub w.0 w.3)))

  pub within-greatest : (R : ℕ → Type 0) → Simulation s R → (p : ℕ) → R p → In (greatest s) p
  unfolding greatest shrunk level
  within-greatest R m p r = within_level R m s.pairs p r

  -- a pair survives every level where it is in the greatest simulation, and only there
  pub survives : (p : ℕ) → In (greatest s) p → (k : ℕ) → In (level s k) p
  survives p h k = within_level (In (greatest s)) greatest-simulates k p h

  pub survivor : (p : ℕ) → ((k : ℕ) → In (level s k) p) → In (greatest s) p
  unfolding greatest shrunk level
  survivor p h = h s.pairs

  -- ---- refinement of T beside S

  beside : (S X Y : Set) → ((p : ℕ) → In X p → In Y p) → (p : ℕ) → In (union S X) p → In (union S Y) p
  beside S X Y h p m = ⊎_elim (λ e. or_l (Y p) e) (λ e. or_r (S p) (h p e)) (or-take (S p) (X p) m)

  module _ (S T : Set) where
    refined_mono : (X Y : Set) → ((p : ℕ) → In X p → In Y p) → (p : ℕ) → In (supported s (union S X)) p → In (supported s (union S Y)) p
    refined_mono X Y h p m = supported_mono (union S X) (union S Y) (beside S X Y h) p m

    pub refined-inside : (p : ℕ) → In (refined s S T) p → p < s.pairs
    unfolding refined
    refined-inside p h = shrunk-inside s.pairs (λ X. supported s (union S X)) T p h

    pub refined-start : (p : ℕ) → In (refined s S T) p → In T p
    unfolding refined
    refined-start p h = shrunk-start s.pairs (λ X. supported s (union S X)) T p h

    pub refined-holds : (p : ℕ) → In (refined s S T) p → In (supported s (union S (refined s S T))) p
    unfolding refined
    refined-holds p h = shrunk-holds s.pairs (λ X. supported s (union S X)) T refined_mono p h

    -- a relation within T whose obligations are met in S or in itself
    pub refined-greatest : (R : ℕ → Type 0) → ((p : ℕ) → R p → p < s.pairs) → ((p : ℕ) → R p → In T p)
        → ((p o : ℕ) → R p → o < s.duties → In (s.due p) o → Met (λ q. In S q ⊎ R q) p o)
        → (p : ℕ) → R p → In (refined s S T) p
    unfolding refined
    refined-greatest R inside start meets p r =
        shrunk-greatest s.pairs (λ X. supported s (union S X)) T R inside start
        (λ X sub p r.
        supported_make (union S X) p
        (λ o l d.
        let w = meets p o r l d in
        (w.0, w.1, w.2, ⊎_elim (λ e. or_l (X w.0) e) (λ e. or_r (S w.0) (sub w.0 e)) w.3)))
        p r

  -- two decidable sets with the same members are one
  pub extensional : (X Y : Set) → ((p : ℕ) → In X p → In Y p) → ((p : ℕ) → In Y p → In X p) → X ≡ Y
  extensional X Y f g = fun_ext (λ p. same (X p) (Y p) (f p) (g p))

  -- the union of all simulations
  pub greatest-union : (p : ℕ) → In (greatest s) p ↔ ((X : Set) × Simulation s (In X) × In X p)
  greatest-union p = (λ h. (greatest s, greatest-simulates, h), λ w. within-greatest (In w.0) w.1 p w.2)

  -- ---- the sandwich: S below the greatest, S and T together above it

  pub sandwich : (S T : Set) → ((p : ℕ) → In S p → In (greatest s) p) → ((p : ℕ) → In (greatest s) p → In (union S T) p)
      → ((p : ℕ) → In T p → In s.admitted p) → union S (refined s S T) ≡ greatest s
  sandwich S T low high fit = extensional (union S (refined s S T)) (greatest s) (within-greatest (In both) simulates) above
    where
      both : Set
      both = union S (refined s S T)

      -- what is in the greatest and not in S
      rest : ℕ → Type 0
      rest p = In (greatest s) p × (S p ≡ false)

      place : (p : ℕ) → In (greatest s) p → In S p ⊎ rest p
      place p h = ⊎_elim (λ e. inl e) (λ e. inr (h, e)) (split (S p))

      refines : (p : ℕ) → rest p → In (refined s S T) p
      refines = refined-greatest S T rest (λ p r. greatest-simulates.inside p r.0)
          (λ p r. ⊎_elim (λ e. clash e r.1) (λ e. e) (or-take (S p) (T p) (high p r.0)))
          (λ p o r l d. let w = greatest-simulates.carries p o r.0 l d in (w.0, w.1, w.2, place w.0 w.3))

      above : (p : ℕ) → In (greatest s) p → In both p
      above p h = ⊎_elim (λ e. or_l (refined s S T p) e) (λ e. or_r (S p) (refines p e)) (place p h)

      simulates : Simulation s (In both)
      simulates = record {
        inside = λ p h. ⊎_elim (λ e. greatest-simulates.inside p (low p e)) (λ e. refined-inside S T p e) (or-take (S p) (refined s S T p) h);
        admits = λ p h. ⊎_elim (λ e. greatest-simulates.admits p (low p e)) (λ e. fit p (refined-start S T p e)) (or-take (S p) (refined s S T p) h);
        carries = λ p o h l d.
            ⊎_elim
            (λ e. let w = greatest-simulates.carries p o (low p e) l d in (w.0, w.1, w.2, above w.0 w.3))
            (λ e. supported-take both p (refined-holds S T p e) o l d)
            (or-take (S p) (refined s S T p) h);
      }

  -- ---- a sweep: pairs of T that S and T do not support may go, and where there are none T is what was sought

  pub sweep : (S T U : Set) → ((p : ℕ) → In U p → In T p) → ((p : ℕ) → In T p → U p ≡ false → supported s (union S T) p ≡ false)
      → refined s S U ≡ refined s S T
  sweep S T U sub gone =
      extensional (refined s S U) (refined s S T)
      (refined-greatest S T (In (refined s S U)) (refined-inside S U) (λ p h. sub p (refined-start S U p h)) (λ p o h l d. meets U p h o l d))
      (refined-greatest S U (In (refined s S T)) (refined-inside S T) stays (λ p o h l d. meets T p h o l d))
    where
      meets : (W : Set) (p : ℕ) → In (refined s S W) p → (o : ℕ) → o < s.duties → In (s.due p) o → Met (λ q. In S q ⊎ In (refined s S W) q) p o
      meets W p h o l d =
          let w = supported-take (union S (refined s S W)) p (refined-holds S W p h) o l d in
          (w.0, w.1, w.2, or-take (S w.0) (refined s S W w.0) w.3)

      stays : (p : ℕ) → In (refined s S T) p → In U p
      stays p h =
          ⊎_elim (λ e. e)
          (λ e.
          clash
          (refined_mono S T (refined s S T) T (refined-start S T) p (refined-holds S T p h))
          (gone p (refined-start S T p h) e))
          (split (U p))

  pub swept : (S T : Set) → ((p : ℕ) → In T p → p < s.pairs) → ((p : ℕ) → In T p → In (supported s (union S T)) p) → refined s S T ≡ T
  swept S T inside all =
      extensional (refined s S T) T (refined-start S T)
      (refined-greatest S T (In T) inside (λ p h. h)
      (λ p o h l d. let w = supported-take (union S T) p (all p h) o l d in (w.0, w.1, w.2, or-take (S w.0) (T w.0) w.3)))

  -- ---- backward closure

  pub reaches_make : (X : Set) (p o q : ℕ) → o < s.duties → In (s.due p) o → q < s.pairs → In (s.meets p o) q → In X q → In (reaches s X) p
  unfolding reaches
  reaches_make X p o q l d k m h =
      any_make s.duties (λ o. s.due p o && any_below s.pairs (λ q. s.meets p o q && X q)) o l
      (and_make d (any_make s.pairs (λ q. s.meets p o q && X q) q k (and_make m h)))

  pub reaches-take : (X : Set) (p : ℕ) → In (reaches s X) p → (o : ℕ) × (o < s.duties) × In (s.due p) o × Met (In X) p o
  unfolding reaches
  reaches-take X p h =
      let r = any_take s.duties (λ o. s.due p o && any_below s.pairs (λ q. s.meets p o q && X q)) h in
      let some = any_below s.pairs (λ q. s.meets p r.0 q && X q) in
      let w = any_take s.pairs (λ q. s.meets p r.0 q && X q) (and_r (s.due p r.0) some r.2) in (
        r.0,
        r.1,
        and_l (s.due p r.0) some r.2,
        (w.0, w.1, and_l (s.meets p r.0 w.0) (X w.0) w.2, and_r (s.meets p r.0 w.0) (X w.0) w.2),
      )

  module _ (domain seeds : Set) where
    abbrev grow : Set → Set
    grow X p = domain p && (seeds p || reaches s X p)

    grow_mono : (X Y : Set) → ((p : ℕ) → In X p → In Y p) → (p : ℕ) → In (grow X) p → In (grow Y) p
    grow_mono X Y sub p h =
        and_make (and_l (domain p) (seeds p || reaches s X p) h)
        (⊎_elim
        (λ e. or_l (reaches s Y p) e)
        (λ e. let w = reaches-take X p e in
        or_r (seeds p) (reaches_make Y p w.0 w.3.0 w.1 w.2 w.3.1 w.3.2 (sub w.3.0 w.3.3)))
        (or-take (seeds p) (reaches s X p) (and_r (domain p) (seeds p || reaches s X p) h)))

    pub closure-inside : (p : ℕ) → In (closure s domain seeds) p → p < s.pairs
    unfolding closure
    closure-inside p h = grown-inside s.pairs grow p h

    pub closure-seed : (p : ℕ) → p < s.pairs → In domain p → In seeds p → In (closure s domain seeds) p
    unfolding closure
    closure-seed p l d e = grown_closed s.pairs grow grow_mono p l (and_make d (or_l (reaches s (closure s domain seeds) p) e))

    pub closure-step : (p o q : ℕ) → p < s.pairs → In domain p → o < s.duties → In (s.due p) o → In (s.meets p o) q
        → In (closure s domain seeds) q → In (closure s domain seeds) p
    unfolding closure
    closure-step p o q l d k w m h =
        grown_closed s.pairs grow grow_mono p l
        (and_make d (or_r (seeds p) (reaches_make (closure s domain seeds) p o q k w (closure-inside q h) m h)))

    pub closure_least : (R : ℕ → Type 0) → ((p : ℕ) → p < s.pairs → In domain p → In seeds p → R p)
        → ((p o q : ℕ) → p < s.pairs → In domain p → o < s.duties → In (s.due p) o → In (s.meets p o) q → R q → R p)
        → (p : ℕ) → In (closure s domain seeds) p → R p
    unfolding closure
    closure_least R first next p h =
        grown_least s.pairs grow R
        (λ X sub p l m.
        let d = and_l (domain p) (seeds p || reaches s X p) m in
        ⊎_elim
        (λ e. first p l d e)
        (λ e. let w = reaches-take X p e in next p w.0 w.3.0 l d w.1 w.2 w.3.2 (sub w.3.0 w.3.3))
        (or-take (seeds p) (reaches s X p) (and_r (domain p) (seeds p || reaches s X p) m)))
        p h

    pub closure-domain : (p : ℕ) → In (closure s domain seeds) p → In domain p
    closure-domain = closure_least (In domain) (λ p l d e. d) (λ p o q l d k w m h. d)

    -- to be in the closure is to have a chain
    pub closure-chain : (p : ℕ) → In (closure s domain seeds) p → Chain s domain seeds p
    closure-chain = closure_least (Chain s domain seeds) (λ p l d e. seed l d e) (λ p o q l d k w m h. step o q l d k w m h)

    pub chain-closure : {p : ℕ} → Chain s domain seeds p → In (closure s domain seeds) p
    chain-closure {p} (seed l d e) = closure-seed p l d e
    chain-closure {p} (step o q l d k w m c) = closure-step p o q l d k w m (chain-closure c)
