-- What a node keeps: the links of a set that no edge carries, and the states without such a link.
use Prim.Native.Nat.{ℕ, ◌+◌, ◌%◌, ◌<◌, ◌≤◌, zero-le}
use native.Mathlib.Omega.{arith}
use mathlib.Core.Path.{◌≡◌, refl, sym, ap, fun_ext, ◌∙◌}
use mathlib.Core.Logic.{⊎_elim}
use mathlib.Core.Bool.{Bool, true, false, not, ◌&&◌, ◌||◌, and-true}
use mathlib.Core.List.{List}
use lib.Bits.{bit_or}
use lib.Dec.{ltb, eqb}
use lib.ListN.{length, get_or}
use borrow.Author.Tests.{ltb-true, lt-ltb, eqb-true, eq-eqb}
use Rattle.simulation.specs.Sets.{Set, all_below, minus}
use Rattle.simulation.specs.Search.{found}
use Rattle.simulation.proofs.Sets.{clash, split, same, refuted, and_make, and_l, and_r, not_make, not-take, implies_make, implies_take, any_make, any_take, all_make, all_take}
use Rattle.simulation.proofs.Search.{found_here, found_on, found-end}
use Rattle.bits.specs.Word.{members, overlaps, set_bits}
use Rattle.bits.proofs.Words.{zero-members, same-members, or-members}
use Rattle.pair_tables.specs.Tables.{marked}
use Rattle.links.specs.Links.{linked_from, links_to}
use Rattle.refinement.specs.Refining.{carried, whole, kept_of, unmet_of}
use Rattle.links.proofs.LinkSets.{links-none}
use Rattle.session.specs.Limits.{max_nodes}

module _ (es ss ts : List ℕ) where
  -- ---- a carrier of one link, among the edges from k on

  -- the edge k carries a link to o
  abbrev carrier : ℕ → Set
  carrier o k = marked ss o (get_or es k 0 % max_nodes) || marked ts o (get_or es k 0 % max_nodes)

  abbrev pub carries_from : ℕ → ℕ → Bool
  carries_from o k = found (carrier o) k (length es)

  abbrev both : ℕ → ℕ
  both k = bit_or (get_or ss (get_or es k 0 % max_nodes) 0) (get_or ts (get_or es k 0 % max_nodes) 0)

  seen : (o k : ℕ) → members (both k) o ≡ carrier o k
  seen o k = ap (λ (X : Set). X o) (or-members (get_or ss (get_or es k 0 % max_nodes) 0) (get_or ts (get_or es k 0 % max_nodes) 0))

  pub carried_from : (o : ℕ) → carried es ss ts o ≡ carries_from o 0
  unfolding carried
  carried_from o = refl

  pub carried_here : (o k : ℕ) → k < length es → members (both k) o ≡ true → carries_from o k ≡ true
  carried_here o k l e = found_here (carrier o) k (length es) l (sym (seen o k) ∙ e)

  pub carried_on : (o k : ℕ) → k < length es → members (both k) o ≡ false → carries_from o k ≡ carries_from o (k + 1)
  carried_on o k l e = found_on (carrier o) k (length es) l (sym (seen o k) ∙ e)

  pub carried-end : (o k : ℕ) → length es ≤ k → carries_from o k ≡ false
  carried-end o k l = found-end (carrier o) k (length es) l

-- ---- the links of a set without a carrier: before the edge k, those of the edges below it are struck off

module _ (set : ℕ) (es ss ts : List ℕ) where
  pub record Searching (rest k : ℕ) : Type 0 where
    pub inside : k ≤ length es
    pub among : (o : ℕ) → members rest o ≡ true → members set o ≡ true
    pub struck : (o : ℕ) → members set o ≡ true → members rest o ≡ false → carried es ss ts o ≡ true
    pub unseen : (o : ℕ) → members rest o ≡ true → carried es ss ts o ≡ carries_from es ss ts o k

  pub searching_none : Searching set 0
  searching_none = record {
    inside = zero-le;
    among = λ o m. m;
    struck = λ o m e. clash m e;
    unseen = λ o m. carried_from es ss ts o;
  }

  module _ (rest k : ℕ) (r : Searching rest k) where
    pub searching_more : k < length es → (rest' : ℕ)
        → members rest' ≡ minus (members rest) (members (bit_or (get_or ss (get_or es k 0 % max_nodes) 0) (get_or ts (get_or es k 0 % max_nodes) 0)))
        → Searching rest' (k + 1)
    searching_more l rest' e =
        record {
          inside = omega (arith, l);
          among = λ o m. r.among o (and_l (members rest o) (not (members here o)) (sym (at o) ∙ m));
          struck = λ o m off.
              ⊎_elim
              (λ was.
              ⊎_elim
              (λ h. r.unseen o was ∙ carried_here es ss ts o k l h)
              (λ h. clash (at o ∙ and_make was (not_make h)) off)
              (split (members here o)))
              (λ was. r.struck o m was)
              (split (members rest o));
          unseen = λ o m.
              let both = sym (at o) ∙ m in
              r.unseen o (and_l (members rest o) (not (members here o)) both)
              ∙ carried_on es ss ts o k l (not-take (members here o) (and_r (members rest o) (not (members here o)) both));
        }
      where
        here : ℕ
        here = bit_or (get_or ss (get_or es k 0 % max_nodes) 0) (get_or ts (get_or es k 0 % max_nodes) 0)

        at : (o : ℕ) → members rest' o ≡ (members rest o && not (members here o))
        at o = ap (λ (X : Set). X o) e

    -- what is left at the end has no carrier: all edges were looked at, or nothing is left
    ended : ((o : ℕ) → members rest o ≡ true → carried es ss ts o ≡ false) → (o : ℕ) → members rest o ≡ (members set o && not (carried es ss ts o))
    ended none o =
        ⊎_elim
        (λ m. m ∙ sym (and_make (r.among o m) (not_make (none o m))))
        (λ m.
        m
        ∙ sym
        (refuted (members set o && not (carried es ss ts o))
        (λ h.
        clash (r.struck o (and_l (members set o) (not (carried es ss ts o)) h) m)
        (not-take (carried es ss ts o) (and_r (members set o) (not (carried es ss ts o)) h)))))
        (split (members rest o))

    pub searching_end : length es ≤ k → (o : ℕ) → members rest o ≡ (members set o && not (carried es ss ts o))
    searching_end l = ended (λ o m. r.unseen o m ∙ carried-end es ss ts o k l)

    pub searching_done : rest ≡ 0 → (o : ℕ) → members rest o ≡ (members set o && not (carried es ss ts o))
    searching_done e = ended (λ o m. clash m (ap (λ (w : ℕ). members w o) e ∙ zero-members o))

-- ---- what a word keeps: the states without a link to one that is missing

module _ (word : ℕ) (links es ss ts : List ℕ) (missing : ℕ) (lacks : members missing ≡ unmet_of word links es ss ts) where
  abbrev n : ℕ
  n = length links

  -- a state of the word is whole where none of its links is missing
  whole_missing : (u : ℕ) → u < n → members word u ≡ true → n ≤ set_bits → whole n (get_or links u 0) es ss ts ≡ not (overlaps (get_or links u 0) missing)
  unfolding whole
  whole_missing u l m few =
      same (whole n (get_or links u 0) es ss ts) (not (overlaps (get_or links u 0) missing))
      (λ h.
      not_make
      (refuted (overlaps (get_or links u 0) missing)
      (λ k.
      let r = any_take set_bits (λ o. members (get_or links u 0) o && members missing o) k in
      let o = r.0 in
      let link = and_l (members (get_or links u 0) o) (members missing o) r.2 in
      let due = linked_from links word o && ltb o n in
      let lost = sym (ap (λ (X : Set). X o) lacks) ∙ and_r (members (get_or links u 0) o) (members missing o) r.2 in
      let small = ltb-true o n (and_r (linked_from links word o) (ltb o n) (and_l due (not (carried es ss ts o)) lost)) in
      clash
      (implies_take (members (get_or links u 0) o) (carried es ss ts o)
      (all_take n (λ i. not (members (get_or links u 0) i) || carried es ss ts i) h o small) link)
      (not-take (carried es ss ts o) (and_r due (not (carried es ss ts o)) lost)))))
      (λ h.
      all_make n (λ i. not (members (get_or links u 0) i) || carried es ss ts i)
      (λ o small.
      implies_make (members (get_or links u 0) o) (carried es ss ts o)
      (λ link.
      ⊎_elim (λ e. e)
      (λ e.
      let due : (linked_from links word o && ltb o n) ≡ true =
      and_make (any_make n (λ x. members word x && members (get_or links x 0) o) u l (and_make m link)) (lt-ltb o n small) in
      clash
      (any_make set_bits (λ i. members (get_or links u 0) i && members missing i) o (omega (arith, few, small))
      (and_make link (ap (λ (X : Set). X o) lacks ∙ and_make due (not_make e))))
      (not-take (overlaps (get_or links u 0) missing) h))
      (split (carried es ss ts o)))))

  pub kept-without : n ≤ set_bits → minus (members word) (links_to links missing) ≡ kept_of word links es ss ts
  kept-without few = fun_ext (λ u. ⊎_elim (λ (m : members word u ≡ true). rw m (there u m)) (λ (m : members word u ≡ false). rw m refl) (split (members word u)))
    where
      there : (u : ℕ) → members word u ≡ true
          → not (ltb u n && overlaps (get_or links u 0) missing) ≡ (not (ltb u n) || whole n (get_or links u 0) es ss ts)
      there u m =
          ⊎_elim
          (λ (e : ltb u n ≡ true). rw e (sym (whole_missing u (ltb-true u n e) m few)))
          (λ (e : ltb u n ≡ false). rw e refl)
          (split (ltb u n))

  -- where none is missing the word stays
  pub kept_whole : n ≤ set_bits → missing ≡ 0 → members word ≡ kept_of word links es ss ts
  kept_whole few e =
      fun_ext (λ u. sym (ap (λ (b : Bool). members word u && not b) (ap (λ (x : ℕ). links_to links x u) e ∙ links-none set_bits links u) ∙ and-true (members word u)))
      ∙ kept-without few

  -- none is missing just where each state of the word is whole
  pub whole-met : n ≤ set_bits → eqb missing 0 ≡ all_below (length links) (λ u. not (members word u) || whole (length links) (get_or links u 0) es ss ts)
  whole-met few = same (eqb missing 0) (all_below n whole_at) there back
    where
      whole_at : Set
      whole_at u = not (members word u) || whole n (get_or links u 0) es ss ts

      there : eqb missing 0 ≡ true → all_below n whole_at ≡ true
      there e =
          all_make n whole_at
          (λ u l.
          implies_make (members word u) (whole n (get_or links u 0) es ss ts)
          (λ m.
          whole_missing u l m few
          ∙ not_make
          (refuted (overlaps (get_or links u 0) missing)
          (λ k.
          let r = any_take set_bits (λ o. members (get_or links u 0) o && members missing o) k in
          clash (and_r (members (get_or links u 0) r.0) (members missing r.0) r.2)
          (ap (λ (w : ℕ). members w r.0) (eqb-true missing 0 e) ∙ zero-members r.0)))))

      back : all_below n whole_at ≡ true → eqb missing 0 ≡ true
      back h =
          eq-eqb missing 0
          (same-members missing 0
          (fun_ext
          (λ o.
          refuted (members missing o)
          (λ m.
          let due = linked_from links word o && ltb o n in
          let lost = and_l due (not (carried es ss ts o)) (sym (ap (λ (X : Set). X o) lacks) ∙ m) in
          let small = ltb-true o n (and_r (linked_from links word o) (ltb o n) lost) in
          let r = any_take n (λ u. members word u && members (get_or links u 0) o) (and_l (linked_from links word o) (ltb o n) lost) in
          let u = r.0 in
          let in-word = and_l (members word u) (members (get_or links u 0) o) r.2 in
          let link = and_r (members word u) (members (get_or links u 0) o) r.2 in
          clash
          (any_make set_bits (λ i. members (get_or links u 0) i && members missing i) o (omega (arith, few, small)) (and_make link m))
          (not-take (overlaps (get_or links u 0) missing)
          (sym (whole_missing u r.1 in-word few)
          ∙ implies_take (members word u) (whole n (get_or links u 0) es ss ts) (all_take n whole_at h u r.1) in-word)))
          ∙ sym (zero-members o))))
