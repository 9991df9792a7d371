-- The states that are reached, as a loop finds them: `left` has those that no chain has met yet, `rest` those that are met and whose links are to be followed.
use Prim.Native.Nat.{ℕ, ◌<◌}
use mathlib.Core.Path.{◌≡◌, refl, sym, ap, fun_ext, ◌∙◌}
use mathlib.Core.Logic.{◌⊎◌, inl, inr, ⊎_elim}
use mathlib.Core.Bool.{Bool, true, false, not, ◌&&◌, ◌||◌, and-true}
use mathlib.Core.List.{List}
use lib.Bits.{bit_and, bit_or}
use lib.Dec.{ltb, eqb}
use lib.ListN.{length, get_or}
use borrow.Author.Tests.{ltb-true, lt-ltb, eqb-true, eq-eqb}
use Rattle.simulation.specs.Sets.{Set, union, minus, without, count}
use Rattle.simulation.proofs.Sets.{clash, split, same, and_make, and_l, and_r, and_none, or_l, or_r, or-take, or-none, or_false_l, or_false_r, not_make, not-take, count-drop}
use Rattle.bits.specs.Word.{members, set_bits}
use Rattle.bits.proofs.Words.{zero-members, and-members, or-members, only_members}
use Rattle.session.specs.Trigger.{linked}
use Rattle.session.specs.Reached.{reached, linked_by}
use Rattle.session.proofs.Reached.{reached-inside, reached-one, reached-link, reached_least}

module _ (links : List ℕ) where
  abbrev n : ℕ
  n = length links

  pub record Reaching (left rest : ℕ) : Type 0 where
    pub one : members left 0 ≡ false
    pub few : (u : ℕ) → members left u ≡ true → u < length links
    -- what was met is reached; what waits was met; and what was met and does not wait leads to nothing new
    pub met : (u : ℕ) → u < length links → members left u ≡ false → reached (linked_by links) u ≡ true
    pub waits : (u : ℕ) → members rest u ≡ true → (u < length links) × (members left u ≡ false)
    pub followed : (u u' : ℕ) → u < length links → members left u ≡ false → members rest u ≡ false → u' < length links
        → members (get_or links u 0) u' ≡ true → members left u' ≡ false

  -- State One alone was met
  pub reaching_start : (all left : ℕ) → 0 < length links → members all ≡ (λ i. ltb i (length links)) → members left ≡ minus (members all) (members 1) → Reaching left 1
  reaching_start all left some a e =
      record {
        one = at 0 ∙ and_none (ltb 0 n) (ap not (first 0));
        few = λ u h. ltb-true u n (and_l (ltb u n) (not (members 1 u)) (sym (at u) ∙ h));
        met = λ u l h. rw (alone u l h) (reached-one (linked_by links) some);
        waits = λ u h. let z = eqb-true u 0 (sym (first u) ∙ h) in rw z (some, at 0 ∙ and_none (ltb 0 n) (ap not (first 0)));
        followed = λ u u' l h r l' k. clash (first u ∙ eq-eqb u 0 (alone u l h)) r;
      }
    where
      first : (u : ℕ) → members 1 u ≡ eqb u 0
      first u = ap (λ (X : Set). X u) (only_members 0)

      at : (u : ℕ) → members left u ≡ (ltb u n && not (members 1 u))
      at u = ap (λ (X : Set). X u) e ∙ ap (λ (X : Set). X u && not (members 1 u)) a

      alone : (u : ℕ) → u < length links → members left u ≡ false → u ≡ 0
      alone u l h =
          ⊎_elim
          (λ (t : members 1 u ≡ true). eqb-true u 0 (sym (first u) ∙ t))
          (λ (t : members 1 u ≡ false). clash (at u ∙ and_make (lt-ltb u n l) (not_make t)) h)
          (split (members 1 u))

  module _ (left rest : ℕ) (r : Reaching left rest) where
    -- the links of one that waits are followed
    module _ (u more left' : ℕ) (m : members rest u ≡ true) (e : members more ≡ without (members rest) u)
        (d : members left' ≡ minus (members left) (members (bit_and (get_or links u 0) left))) where
      abbrev new : ℕ
      new = bit_and (get_or links u 0) left

      new-at : (x : ℕ) → members new x ≡ (members (get_or links u 0) x && members left x)
      new-at = and-members (get_or links u 0) left

      left_at : (x : ℕ) → members left' x ≡ (members left x && not (members new x))
      left_at x = ap (λ (X : Set). X x) d

      more-at : (x : ℕ) → members more x ≡ (members rest x && not (eqb x u))
      more-at x = ap (λ (X : Set). X x) e

      rest_at : (x : ℕ) → members (bit_or more new) x ≡ (members more x || members new x)
      rest_at x = ap (λ (X : Set). X x) (or-members more new)

      -- what is met stays so, and what is linked from u is met now
      stays : (x : ℕ) → members left x ≡ false → members left' x ≡ false
      stays x h = left_at x ∙ rw h

      taken : (x : ℕ) → members new x ≡ true → members left' x ≡ false
      taken x h = left_at x ∙ and_none (members left x) (ap not h)

      linked-met : (x : ℕ) → members (get_or links u 0) x ≡ true → members left' x ≡ false
      linked-met x k =
          ⊎_elim (λ (h : members left x ≡ true). taken x (new-at x ∙ and_make k h)) (stays x) (split (members left x))

      was : (x : ℕ) → members left' x ≡ false → (members left x ≡ false) ⊎ (members new x ≡ true)
      was x h =
          ⊎_elim
          (λ (t : members new x ≡ true). inr t)
          (λ (t : members new x ≡ false). inl (sym (and-true (members left x)) ∙ ap (λ (b : Bool). members left x && not b) (sym t) ∙ sym (left_at x) ∙ h))
          (split (members new x))

      pub reaching_next : Reaching left' (bit_or more new)
      unfolding linked
      reaching_next = record {
        one = stays 0 r.one;
        few = λ x h. r.few x (and_l (members left x) (not (members new x)) (sym (left_at x) ∙ h));
        met = λ x l h.
            ⊎_elim (r.met x l)
            (λ t.
            reached-link (linked_by links) u x l (r.met u (r.waits u m).0 (r.waits u m).1)
            (and_l (members (get_or links u 0) x) (members left x) (sym (new-at x) ∙ t)))
            (was x h);
        waits = λ x h.
            ⊎_elim
            (λ t. let w = r.waits x (and_l (members rest x) (not (eqb x u)) (sym (more-at x) ∙ t)) in (w.0, stays x w.1))
            (λ t. (r.few x (and_r (members (get_or links u 0) x) (members left x) (sym (new-at x) ∙ t)), taken x t))
            (or-take (members more x) (members new x) (sym (rest_at x) ∙ h));
        followed = λ x x' l h w l' k.
            let none : (members more x || members new x) ≡ false = sym (rest_at x) ∙ w in
            ⊎_elim
            (λ (t : eqb x u ≡ true). linked-met x' (ap (λ (y : ℕ). members (get_or links y 0) x') (sym (eqb-true x u t)) ∙ k))
            (λ (t : eqb x u ≡ false).
            let still : members rest x ≡ false =
            sym (and-true (members rest x)) ∙ ap (λ (b : Bool). members rest x && not b) (sym t) ∙ sym (more-at x) ∙ or_false_l (members more x) (members new x) none in
            ⊎_elim
            (λ old. stays x' (r.followed x x' l old still l' k))
            (λ i. clash i (or_false_r (members more x) (members new x) none))
            (was x h))
            (split (eqb x u));
      }

      -- one fewer is left or waits
      pub reaching_less : u < set_bits → count set_bits (union (members left') (members (bit_or more new))) < count set_bits (union (members left) (members rest))
      reaching_less l =
          count-drop set_bits (union (members left') (members (bit_or more new))) (union (members left) (members rest))
          (λ x h.
          ⊎_elim
          (λ a. or_l (members rest x) (and_l (members left x) (not (members new x)) (sym (left_at x) ∙ a)))
          (λ b.
          ⊎_elim
          (λ t. or_r (members left x) (and_l (members rest x) (not (eqb x u)) (sym (more-at x) ∙ t)))
          (λ t. or_l (members rest x) (and_r (members (get_or links u 0) x) (members left x) (sym (new-at x) ∙ t)))
          (or-take (members more x) (members new x) (sym (rest_at x) ∙ b)))
          (or-take (members left' x) (members (bit_or more new) x) h))
          u l (or_r (members left u) m)
          (or-none (stays u (r.waits u m).1)
          (rest_at u
          ∙ or-none (more-at u ∙ and_none (members rest u) (ap not (eq-eqb u u refl)))
          (new-at u ∙ and_none (members (get_or links u 0) u) (r.waits u m).1)))

    -- nothing waits: what was met is what is reached
    pub reaching_done : rest ≡ 0 → (all found : ℕ) → members all ≡ (λ i. ltb i (length links)) → members found ≡ minus (members all) (members left)
        → members found ≡ reached (linked_by links)
    unfolding linked
    reaching_done z all found a e =
        fun_ext
        (λ u.
        at u
        ∙ same (ltb u n && not (members left u)) (reached (linked_by links) u)
        (λ h. r.met u (ltb-true u n (and_l (ltb u n) (not (members left u)) h)) (not-take (members left u) (and_r (ltb u n) (not (members left u)) h)))
        (λ h.
        and_make (lt-ltb u n (reached-inside (linked_by links) u h))
        (not_make
        (reached_least (linked_by links) (λ x. (x < length links) × (members left x ≡ false)) (λ l. (l, r.one))
        (λ x x' w l k. (l, r.followed x x' w.0 w.1 (ap (λ (y : ℕ). members y x) z ∙ zero-members x) l k))
        u h).1)))
      where
        at : (u : ℕ) → members found u ≡ (ltb u n && not (members left u))
        at u = ap (λ (X : Set). X u) e ∙ ap (λ (X : Set). X u && not (members left u)) a
