-- When a state admits a node: by one masked comparison of words, turned round where it is inverted and not blank; what it admitted formerly; what the mask
-- leaves out.
use Prim.Native.Nat.{ℕ, ◌^◌, ◌<◌}
use mathlib.Core.Path.{◌≡◌, refl, sym, ap, ◌∙◌, fun_ext}
use mathlib.Core.Logic.{⊎_elim}
use mathlib.Core.Bool.{Bool, true, false, not, ◌&&◌, ◌||◌, cond, and-true, and-false, beq}
use lib.Bits.{bit_and, bit_xor}
use lib.Dec.{eqb}
use lib.ListN.{get_or}
use borrow.Author.Tests.{eqb-true}
use Rattle.simulation.specs.Sets.{Set}
use Rattle.simulation.proofs.Sets.{clash, refuted, split, and_l, and_r, or_l, or_r, not_make, all_make, any_make, any_take}
use Rattle.simulation.proofs.Edges.{all_same}
use Rattle.bits.specs.Word.{bit, members}
use Rattle.bits.proofs.Words.{zero-members, and_again, members-below}
use Rattle.bits.proofs.Tests.{masked, masked-equal}
use Rattle.session.specs.Limits.{word_bits}
use Rattle.session.specs.Trigger.{Trigger, Graph, states, agrees, matches, accepts, admits}
use Rattle.session.specs.Former.{agreement, formerly, blank_inverted}

-- (value ^ sample) & mask is zero
pub agrees_masked : (k mask value sample : ℕ) → mask < 2 ^ k → eqb (bit_and (bit_xor value sample) mask) 0 ≡ agrees k mask value sample
unfolding agrees
agrees_masked = masked

-- sample & mask is value & mask
pub agrees-equal : (k mask value sample : ℕ) → mask < 2 ^ k → eqb (bit_and sample mask) (bit_and value mask) ≡ agrees k mask value sample
unfolding agrees
agrees-equal = masked-equal

-- sample & mask is the value, where this lies inside the mask
pub agrees-inside : (k mask value sample : ℕ) → mask < 2 ^ k → bit_and value mask ≡ value
    → eqb (bit_and sample mask) value ≡ agrees k mask value sample
agrees-inside k mask value sample h e = ap (eqb (bit_and sample mask)) (sym e) ∙ agrees-equal k mask value sample h

-- the part of a value inside the mask admits the same
pub agrees-part : (k mask value sample : ℕ) → mask < 2 ^ k → agrees k mask (bit_and value mask) sample ≡ agrees k mask value sample
agrees-part k mask value sample h =
    sym (agrees-inside k mask (bit_and value mask) sample h (and_again value mask)) ∙ agrees-equal k mask value sample h

-- ---- turned round or not

module _ (k : ℕ) (turned : Bool) (mask value sample : ℕ) where
  -- the answer to the comparison, turned round once
  pub matches-masked : mask < 2 ^ k → let hit = eqb (bit_and (bit_xor value sample) mask) 0 in cond turned (not hit) hit ≡ matches k turned mask value sample
  unfolding matches
  matches-masked h = rw (agrees_masked k mask value sample h)

  -- where they do not agree, the value lying inside the mask
  pub matches-inside : mask < 2 ^ k → bit_and value mask ≡ value
      → let off = not (eqb (bit_and sample mask) value) in cond turned (not off) off ≡ not (matches k turned mask value sample)
  unfolding matches
  matches-inside h e = rw (agrees-inside k mask value sample h e) (turns turned (agrees k mask value sample))
    where
      turns : (i b : Bool) → cond i (not (not b)) (not b) ≡ not (cond i (not b) b)
      turns true b = refl
      turns false b = refl

  -- the two differ
  pub matches_differs : not (beq (agrees k mask value sample) turned) ≡ matches k turned mask value sample
  unfolding matches
  matches_differs = differs turned (agrees k mask value sample)
    where
      differs : (i b : Bool) → not (beq b i) ≡ cond i (not b) b
      differs true true = refl
      differs true false = refl
      differs false true = refl
      differs false false = refl

  pub matches-part : mask < 2 ^ k → matches k turned mask (bit_and value mask) sample ≡ matches k turned mask value sample
  unfolding matches
  matches-part h = rw (agrees-part k mask value sample h)

-- ---- inverted or not, blank or not

-- "A mask of zero admits every node"
pub agrees-zero : (k value sample : ℕ) → agrees k 0 value sample ≡ true
unfolding agrees
agrees-zero k value sample =
    all_make k (λ i. not (members 0 i) || eqb (bit value i) (bit sample i))
    (λ i l. or_l (eqb (bit value i) (bit sample i)) (not_make (zero-members i)))

module _ (k value sample : ℕ) where
  -- "A mask of zero admits every node, inverted or not"
  pub accepts-blank : (inverted : Bool) → accepts k inverted 0 value sample ≡ true
  unfolding accepts
  accepts-blank inverted = refl

module _ (k : ℕ) (inverted : Bool) (mask value sample : ℕ) where
  -- what turns a state round is told by the state alone
  pub accepts-turned : accepts k inverted mask value sample ≡ matches k (inverted && not (eqb mask 0)) mask value sample
  unfolding accepts matches
  accepts-turned =
      ⊎_elim
      (λ (e : eqb mask 0 ≡ true). rw (e, and-false inverted, eqb-true mask 0 e) (sym (agrees-zero k value sample)))
      (λ (e : eqb mask 0 ≡ false). rw (e, and-true inverted))
      (split (eqb mask 0))

  -- "which is the one exception": a state that is not both inverted and blank is turned round just where it is inverted
  pub accepts_former : (inverted && eqb mask 0) ≡ false → accepts k inverted mask value sample ≡ matches k inverted mask value sample
  accepts_former h = accepts-turned ∙ ap (λ (b : Bool). matches k b mask value sample) (kept inverted (eqb mask 0) h)
    where
      kept : (i z : Bool) → (i && z) ≡ false → (i && not z) ≡ i
      kept true true h = clash refl h
      kept true false h = refl
      kept false z h = refl

module _ (k mask value sample : ℕ) where
  -- a plain state admits where they agree; "an inverted one exactly the nodes that its plain form does not", where the mask is not zero
  pub accepts-plain : accepts k false mask value sample ≡ agrees k mask value sample
  unfolding matches
  accepts-plain = accepts_former k false mask value sample refl

  pub accepts-inverted : eqb mask 0 ≡ false → accepts k true mask value sample ≡ not (accepts k false mask value sample)
  unfolding accepts matches
  accepts-inverted h = rw h

-- the trigger with no state inverted
abbrev pub plainly : Trigger → Trigger
plainly t = record { masks = t.masks; values = t.values; links = t.links; inverted = 0 }

module _ (t : Trigger) (g : Graph) where
  -- a trigger without an inverted state has the admissions that it had before there were any
  pub admits-agreement : t.inverted ≡ 0 → admits t g ≡ agreement t g
  unfolding admits
  admits-agreement none =
      fun_ext (λ u. fun_ext (λ v. rw (none, zero-members u) (accepts-plain word_bits (get_or t.masks u 0) (get_or t.values u 0) (get_or g.samples v 0))))

  module _ (u v : ℕ) where
    -- "A state may be inverted: it then admits exactly the nodes that its plain form does not."
    pub admits-inverted : members t.inverted u ≡ true → eqb (get_or t.masks u 0) 0 ≡ false → admits t g u v ≡ not (admits (plainly t) g u v)
    unfolding admits
    admits-inverted h e = rw (h, zero-members u) (accepts-inverted word_bits (get_or t.masks u 0) (get_or t.values u 0) (get_or g.samples v 0) e)

    pub admits-same : members t.inverted u ≡ false → admits t g u v ≡ admits (plainly t) g u v
    unfolding admits
    admits-same h = rw (h, zero-members u)

    -- "A mask of zero admits every node, inverted or not"
    pub admits-blank : get_or t.masks u 0 ≡ 0 → admits t g u v ≡ true
    unfolding admits
    admits-blank e = rw e (accepts-blank word_bits (get_or t.values u 0) (get_or g.samples v 0) (members t.inverted u))

    -- "it formerly admitted nothing"
    pub formerly-none : members t.inverted u ≡ true → get_or t.masks u 0 ≡ 0 → formerly t g u v ≡ false
    unfolding matches
    formerly-none h e = rw (h, e, agrees-zero word_bits (get_or t.values u 0) (get_or g.samples v 0))

    -- "All other admissions are shown equal to the former ones."
    pub admits-formerly : (members t.inverted u && eqb (get_or t.masks u 0) 0) ≡ false → admits t g u v ≡ formerly t g u v
    unfolding admits
    admits-formerly h = accepts_former word_bits (members t.inverted u) (get_or t.masks u 0) (get_or t.values u 0) (get_or g.samples v 0) h

    -- the exception adds, and takes nothing away
    pub formerly-admits : formerly t g u v ≡ true → admits t g u v ≡ true
    unfolding admits accepts
    formerly-admits h = or_r (eqb (get_or t.masks u 0) 0) h

  -- so a trigger without such a state has its former admissions; no inverted state is beyond the last
  pub admits_former : t.inverted < 2 ^ states t → blank_inverted t ≡ false → admits t g ≡ formerly t g
  unfolding blank_inverted
  admits_former few none = fun_ext (λ u. fun_ext (λ v. admits-formerly u v (refuted (blank u) (found u))))
    where
      blank : Set
      blank u = members t.inverted u && eqb (get_or t.masks u 0) 0

      found : (u : ℕ) → blank u ≡ true → ⊥
      found u h =
          let i = and_l (members t.inverted u) (eqb (get_or t.masks u 0) 0) h in
          clash (any_make (states t) blank u (members-below (states t) t.inverted few u i) h) none

-- and one with such a state has others, at every node
pub blank_differs : (t : Trigger) → blank_inverted t ≡ true
    → (u : ℕ) × (u < states t) × ((g : Graph) (v : ℕ) → (admits t g u v ≡ true) × (formerly t g u v ≡ false))
unfolding blank_inverted
blank_differs t h =
    let r = any_take (states t) (λ u. members t.inverted u && eqb (get_or t.masks u 0) 0) h in
    let u = r.0 in
    let i = and_l (members t.inverted u) (eqb (get_or t.masks u 0) 0) r.2 in
    let z = eqb-true (get_or t.masks u 0) 0 (and_r (members t.inverted u) (eqb (get_or t.masks u 0) 0) r.2) in
    (u, r.1, λ g v. (admits-blank t g u v z, formerly-none t g u v i z))

-- the value's bits outside the mask are ignored
pub agrees_outside : (k mask value value' sample : ℕ) → ((i : ℕ) → i < k → members mask i ≡ true → bit value i ≡ bit value' i)
    → agrees k mask value sample ≡ agrees k mask value' sample
unfolding agrees
agrees_outside k mask value value' sample h =
    all_same k (λ i. not (members mask i) || eqb (bit value i) (bit sample i)) (λ i. not (members mask i) || eqb (bit value' i) (bit sample i))
    (λ i l.
    ⊎_elim
    (λ (e : members mask i ≡ true). ap (λ (x : ℕ). not (members mask i) || eqb x (bit sample i)) (h i l e))
    (λ (e : members mask i ≡ false). rw e)
    (split (members mask i)))
