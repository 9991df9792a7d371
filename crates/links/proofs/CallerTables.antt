-- The table of callers as it is filled: target by target for a state, and state by state. It finds the states with a link to a set.
use Prim.Native.Nat.{ℕ, ◌+◌, ◌<◌, ◌≤◌}
use native.Mathlib.Omega.{arith}
use mathlib.Core.Path.{◌≡◌, refl, sym, ap, fun_ext, ◌∙◌}
use mathlib.Core.Logic.{⊎_elim}
use mathlib.Core.Bool.{true, false, not, ◌&&◌, ◌||◌, and-true, and-false, or-false}
use mathlib.Core.List.{List}
use lib.Dec.{ltb, eqb}
use lib.ListN.{length, get_or, set, length-set}
use lib.Seq.{get_or-set_same, get_or-set_other}
use borrow.Author.Tests.{eqb-true, eqb-false, eq-eqb}
use Rattle.simulation.specs.Sets.{Set, also, without}
use Rattle.simulation.proofs.Sets.{split, same, and_make, and_l, and_r, any_make, any_take}
use Rattle.bits.specs.Word.{members, meets}
use Rattle.bits.proofs.Words.{zero-members}
use Rattle.pair_tables.specs.Tables.{marked}
use Rattle.links.specs.Links.{linked_from, links_to_in, CallersIn}
use Rattle.simulation.proofs.Gains.{row_more}

-- ---- a state is put into the words of its targets: `rest` is what is left of these

module _ (entry : List ℕ) (targets u : ℕ) where
  pub record Calling (rest : ℕ) (now : List ℕ) : Type 0 where
    pub long : length now ≡ length entry
    pub both : (x o : ℕ) → (marked now x o || (eqb x u && members rest o)) ≡ (marked entry x o || (eqb x u && members targets o))

  pub calling_start : Calling targets entry
  calling_start = record { long = refl; both = λ x o. refl }

  module _ (rest : ℕ) (now : List ℕ) (r : Calling rest now) where
    pub calling_next : (o w rest' : ℕ) → o < length now → members rest o ≡ true → members w ≡ also (members (get_or now o 0)) u
        → members rest' ≡ without (members rest) o
        → Calling rest' (set now o w)
    calling_next o w rest' l m e d = record {
      long = length-set now o w ∙ r.long;
      both = λ x p.
          ⊎_elim (λ (t : eqb p o ≡ true). here x p (eqb-true p o t)) (λ (t : eqb p o ≡ false). away x p t) (split (eqb p o));
    }
      where
        at : (p : ℕ) → members rest' p ≡ (members rest p && not (eqb p o))
        at p = ap (λ (X : Set). X p) d

        Goal : ℕ → ℕ → Type 0
        Goal x p = (marked (set now o w) x p || (eqb x u && members rest' p)) ≡ (marked entry x p || (eqb x u && members targets p))

        here : (x p : ℕ) → p ≡ o → Goal x p
        here x p q =
            rw (q, get_or-set_same now o w 0 l, ap (λ (X : Set). X x) e, at o, eq-eqb o o refl, and-false (members rest o), and-false (eqb x u), or-false)
            (rw (m, and-true) at (r.both x o))

        away : (x p : ℕ) → eqb p o ≡ false → Goal x p
        away x p t = rw (get_or-set_other now o p w 0 (eqb-false p o t), at p, t, and-true) (r.both x p)

    pub calling_end : rest ≡ 0 → (x o : ℕ) → marked now x o ≡ (marked entry x o || (eqb x u && members targets o))
    calling_end e x o = rw (e, zero-members o, and-false, or-false) at (r.both x o)

-- ---- the states below n are put in, into a table of k words

module _ (k : ℕ) (links : List ℕ) where
  pub record Called (n : ℕ) (callers : List ℕ) : Type 0 where
    pub few : n ≤ length links
    pub long : length callers ≡ k
    pub words : (x o : ℕ) → marked callers x o ≡ (ltb x n && marked links o x)

  pub called_more : {n : ℕ} {old new : List ℕ} → Called n old → n < length links → length new ≡ length old
      → ((x o : ℕ) → marked new x o ≡ (marked old x o || (eqb x n && marked links o n)))
      → Called (n + 1) new
  called_more {n} {old} {new} c l e h = record {
    few = omega arith;
    long = e ∙ c.long;
    words = row_more (λ x o. marked links o x) (marked old) (marked new) n c.words h;
  }

-- ---- from a set its callers are those with a link to it

pub callers_linked : (k : ℕ) (links callers : List ℕ) → CallersIn k links callers → (w : ℕ) → linked_from callers w ≡ links_to_in k links w
callers_linked k links callers c w = fun_ext (λ u. same (linked_from callers w u) (links_to_in k links w u) (there u) (back u))
  where
    calls : ℕ → Set
    calls u o = members w o && members (get_or callers o 0) u

    links-at : ℕ → Set
    links-at u o = members (get_or links u 0) o && members w o

    there : (u : ℕ) → linked_from callers w u ≡ true → links_to_in k links w u ≡ true
    there u h =
        let r = any_take (length callers) (calls u) h in
        let o = r.0 in
        let l : o < k = omega (arith, r.1, c.long) in
        let both = sym (c.called o u l) ∙ and_r (members w o) (members (get_or callers o 0) u) r.2 in
        and_make (and_l (ltb u (length links)) (members (get_or links u 0) o) both)
        (any_make k (links-at u) o l
        (and_make (and_r (ltb u (length links)) (members (get_or links u 0) o) both) (and_l (members w o) (members (get_or callers o 0) u) r.2)))

    back : (u : ℕ) → links_to_in k links w u ≡ true → linked_from callers w u ≡ true
    back u h =
        let r = any_take k (links-at u) (and_r (ltb u (length links)) (meets k (get_or links u 0) w) h) in
        let o = r.0 in
        any_make (length callers) (calls u) o (omega (arith, r.1, c.long))
        (and_make (and_r (members (get_or links u 0) o) (members w o) r.2)
        (c.called o u r.1
        ∙ and_make (and_l (ltb u (length links)) (meets k (get_or links u 0) w) h) (and_l (members (get_or links u 0) o) (members w o) r.2)))
