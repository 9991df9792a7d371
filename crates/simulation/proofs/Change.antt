-- One edge more or less: which pairs can change, and how the greatest simulation is found from the old one.
use Prim.Native.Nat.{ℕ, ◌<◌}
use mathlib.Core.Path.{◌≡◌, refl}
use mathlib.Core.Logic.{⊎_elim}
use mathlib.Core.Bool.{false, not}
use Rattle.simulation.specs.Sets.{Set, In, none, union, minus}
use Rattle.simulation.specs.System.{System, supported, greatest, refined, closure}
use Rattle.simulation.proofs.Terms.{Simulation, Chain, seed, step, meeting, touched, changed}
use Rattle.simulation.proofs.Sets.{clash, split, refuted, and_make, and_l, and_r, or_l, or_r, or-take, not_make, not-take}
use Rattle.simulation.proofs.System.{supported_make, greatest-simulates, within-greatest, sandwich, reaches_make, reaches-take, closure-seed, closure-step, closure-domain, closure-chain}

pub minus_make : (X Y : Set) (p : ℕ) → In X p → Y p ≡ false → In (minus X Y) p
minus_make X Y p x y = and_make x (not_make y)

pub minus_l : (X Y : Set) (p : ℕ) → In (minus X Y) p → In X p
minus_l X Y p h = and_l (X p) (not (Y p)) h

pub minus_r : (X Y : Set) (p : ℕ) → In (minus X Y) p → Y p ≡ false
minus_r X Y p h = not-take (Y p) (and_r (X p) (not (Y p)) h)

-- a chain ends at a seed of any larger set too
pub chain-map : (s : System) (domain seeds wider : Set) → ((p : ℕ) → In seeds p → In wider p) → {p : ℕ} → Chain s domain seeds p → Chain s domain wider p
chain-map s domain seeds wider sub {p} (seed l d e) = seed l d (sub p e)
chain-map s domain seeds wider sub (step o q l d k w m c) = step o q l d k w m (chain-map s domain seeds wider sub c)

module _ (s : System) (less more : ℕ → ℕ → Set) (grows : (p o q : ℕ) → In (less p o) q → In (more p o) q) where
  abbrev A : System
  A = meeting s less

  abbrev B : System
  B = meeting s more

  pub greatest_grows : (p : ℕ) → In (greatest A) p → In (greatest B) p
  greatest_grows =
      let g = greatest-simulates A in
      within-greatest B (In (greatest A)) record {
        inside = g.inside;
        admits = g.admits;
        carries = λ p o h l d. let w = g.carries p o h l d in (w.0, w.1, grows p o w.0 w.2, w.3);
      }

  pub touched_make : (X : Set) (p o q : ℕ) → o < s.duties → In (s.due p) o → q < s.pairs → In (more p o) q → less p o q ≡ false → In X q
      → In (touched s less more X) p
  unfolding touched
  touched_make X p o q l d k m n h =
      reaches_make (meeting s (λ p o. minus (more p o) (less p o))) X p o q l d k (minus_make (more p o) (less p o) q m n) h

  pub touched_mono : (X Y : Set) → ((p : ℕ) → In X p → In Y p) → (p : ℕ) → In (touched s less more X) p → In (touched s less more Y) p
  unfolding touched
  touched_mono X Y sub p h =
      let w = reaches-take (meeting s (λ p o. minus (more p o) (less p o))) X p h in
      reaches_make (meeting s (λ p o. minus (more p o) (less p o))) Y p w.0 w.3.0 w.1 w.2 w.3.1 w.3.2 (sub w.3.0 w.3.3)

  -- deletion by refining the whole old simulation, with nothing settled
  pub shrinks : refined A none (greatest B) ≡ greatest A
  shrinks = sandwich A none (greatest B) (λ p h. clash h refl) greatest_grows (greatest-simulates B).admits

  -- what is not touched still has its support
  pub untouched : (p : ℕ) → In (greatest B) p → touched s less more (greatest B) p ≡ false → In (supported A (greatest B)) p
  untouched p h t =
      supported_make A (greatest B) p
      (λ o l d.
      let w = (greatest-simulates B).carries p o h l d in
      let q = w.0 in
      ⊎_elim
      (λ e. (q, w.1, e, w.3))
      (λ e. clash (touched_make (greatest B) p o q l d w.1 w.2 e w.3) t)
      (split (less p o q)))

  -- The one argument. Where a domain has all that changed, and seeds all that changed and is touched, the backward closure has all that changed.
  -- Steps of any relation that has `less` will do.
  module _ (moves : ℕ → ℕ → Set) (follows : (p o q : ℕ) → In (less p o) q → In (moves p o) q)
      (domain seeds : Set)
      (covers : (p : ℕ) → In (changed s less more) p → In domain p)
      (seeded : (p : ℕ) → In (changed s less more) p → In (touched s less more (greatest B)) p → In seeds p) where
    abbrev Reached : Set
    Reached = closure (meeting s moves) domain seeds

    -- what changed and is not reached
    abbrev missed : Set
    missed = minus (changed s less more) Reached

    missed-new : (p : ℕ) → In missed p → In (greatest B) p
    unfolding changed
    missed-new p h = minus_l (greatest B) (greatest A) p (minus_l (changed s less more) Reached p h)

    missed-less : (p o q : ℕ) → In missed p → o < s.duties → In (s.due p) o → q < s.pairs → In (more p o) q → In (greatest B) q → In (less p o) q
    missed-less p o q h l d k m g =
        let c = minus_l (changed s less more) Reached p h in
        ⊎_elim (λ e. e)
        (λ e.
        clash
        (closure-seed (meeting s moves) domain seeds p ((greatest-simulates B).inside p (missed-new p h)) (covers p c)
        (seeded p c (touched_make (greatest B) p o q l d k m e g)))
        (minus_r (changed s less more) Reached p h))
        (split (less p o q))

    missed-next : (p o q : ℕ) → In missed p → o < s.duties → In (s.due p) o → In (less p o) q → In (greatest B) q → In (union (greatest A) missed) q
    unfolding changed
    missed-next p o q h l d m g =
        let c = minus_l (changed s less more) Reached p h in
        ⊎_elim
        (λ e. or_l (missed q) e)
        (λ e.
        or_r (greatest A q)
        (minus_make (changed s less more) Reached q (minus_make (greatest B) (greatest A) q g e)
        (refuted (Reached q)
        (λ r.
        clash
        (closure-step (meeting s moves) domain seeds p o q ((greatest-simulates B).inside p (missed-new p h)) (covers p c) l d (follows p o q m) r)
        (minus_r (changed s less more) Reached p h)))))
        (split (greatest A q))

    missed-simulates : Simulation A (In (union (greatest A) missed))
    missed-simulates =
        let old = greatest-simulates A in
        let new = greatest-simulates B in
        record {
          inside = λ p h. ⊎_elim (λ e. old.inside p e) (λ e. new.inside p (missed-new p e)) (or-take (greatest A p) (missed p) h);
          admits = λ p h. ⊎_elim (λ e. old.admits p e) (λ e. new.admits p (missed-new p e)) (or-take (greatest A p) (missed p) h);
          carries = λ p o h l d.
              ⊎_elim
              (λ e. let w = old.carries p o e l d in (w.0, w.1, w.2, or_l (missed w.0) w.3))
              (λ e.
              let w = new.carries p o (missed-new p e) l d in
              let m = missed-less p o w.0 e l d w.1 w.2 w.3 in
              (w.0, w.1, m, missed-next p o w.0 e l d m w.3))
              (or-take (greatest A p) (missed p) h);
        }

    pub reached : (p : ℕ) → In (changed s less more) p → In (closure (meeting s moves) domain seeds) p
    unfolding changed
    reached p h =
        ⊎_elim (λ e. e)
        (λ e.
        clash
        (within-greatest A (In (union (greatest A) missed)) missed-simulates p
        (or_r (greatest A p) (minus_make (changed s less more) Reached p h e)))
        (minus_r (greatest B) (greatest A) p h))
        (split (Reached p))

  -- every changed pair has a chain of changed pairs to one that is touched
  pub chain : (p : ℕ) → In (changed s less more) p → Chain B (changed s less more) (touched s less more (greatest B)) p
  chain p h =
      closure-chain B (changed s less more) (touched s less more (greatest B)) p
      (reached more grows (changed s less more) (touched s less more (greatest B)) (λ p c. c) (λ p c t. t) p h)

  module _ (moves : ℕ → ℕ → Set) (follows : (p o q : ℕ) → In (less p o) q → In (moves p o) q) (seeds : Set) where
    -- insertion: the trial set is what is reached among the pairs that are admitted and not in the old simulation
    abbrev trial : Set
    trial = closure (meeting s moves) (minus s.admitted (greatest A)) seeds

    pub inserted : ((p : ℕ) → In (minus s.admitted (greatest A)) p → In (touched s less more s.admitted) p → In seeds p)
        → union (greatest A) (refined B (greatest A) trial) ≡ greatest B
    unfolding changed
    inserted seeded =
        sandwich B (greatest A) trial greatest_grows
        (λ p h.
        ⊎_elim (λ e. or_l (trial p) e)
        (λ e.
        or_r (greatest A p)
        (reached moves follows (minus s.admitted (greatest A)) seeds fresh
        (λ p c t. seeded p (fresh p c) (touched_mono (greatest B) s.admitted (greatest-simulates B).admits p t))
        p (minus_make (greatest B) (greatest A) p h e)))
        (split (greatest A p)))
        (λ p h. minus_l s.admitted (greatest A) p (closure-domain (meeting s moves) (minus s.admitted (greatest A)) seeds p h))
      where
        fresh : (p : ℕ) → In (changed s less more) p → In (minus s.admitted (greatest A)) p
        fresh p c =
            minus_make s.admitted (greatest A) p
            ((greatest-simulates B).admits p (minus_l (greatest B) (greatest A) p c))
            (minus_r (greatest B) (greatest A) p c)

    -- deletion: the affected set is what is reached within the old simulation; the rest of it stays
    abbrev affected : Set
    affected = closure (meeting s moves) (greatest B) seeds

    pub deleted : ((p : ℕ) → In (greatest B) p → In (touched s less more (greatest B)) p → In seeds p)
        → union (minus (greatest B) affected) (refined A (minus (greatest B) affected) affected) ≡ greatest A
    unfolding changed
    deleted seeded =
        sandwich A (minus (greatest B) affected) affected
        (λ p h.
        ⊎_elim (λ e. e)
        (λ e. clash (hit p (minus_make (greatest B) (greatest A) p (minus_l (greatest B) affected p h) e)) (minus_r (greatest B) affected p h))
        (split (greatest A p)))
        (λ p h.
        ⊎_elim
        (λ e. or_r (minus (greatest B) affected p) e)
        (λ e. or_l (affected p) (minus_make (greatest B) affected p (greatest_grows p h) e))
        (split (affected p)))
        (λ p h. (greatest-simulates B).admits p (closure-domain (meeting s moves) (greatest B) seeds p h))
      where
        hit : (p : ℕ) → In (changed s less more) p → In affected p
        hit = reached moves follows (greatest B) seeds (minus_l (greatest B) (greatest A))
            (λ p c t. seeded p (minus_l (greatest B) (greatest A) p c) t)
