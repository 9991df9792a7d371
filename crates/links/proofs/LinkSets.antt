-- Sets of states that a loop builds: those that pass a test, those with a link to a set, those to which a set has links.
use Prim.Native.Nat.{ℕ, ◌+◌, ◌^◌, ◌<◌, ◌≤◌}
use native.Mathlib.Omega.{arith}
use mathlib.Core.Path.{◌≡◌, refl, sym, ap, subst, fun_ext, ◌∙◌}
use mathlib.Core.Logic.{⊎_elim}
use mathlib.Core.Bool.{Bool, true, false, not, ◌&&◌, ◌||◌, and-true, and-false, or_assoc, or-false}
use mathlib.Core.List.{List}
use lib.Dec.{ltb, eqb}
use lib.ListN.{length, get_or}
use borrow.Author.Tests.{ltb-true, lt-ltb, eqb-true, eq-eqb}
use lib.Bits.{bit_or}
use lib.Pow.{pow_pos}
use Rattle.session.specs.Layout.{below}
use Rattle.session.proofs.Tables.{below_at}
use Rattle.simulation.specs.Sets.{Set, none, also, without, minus}
use Rattle.simulation.proofs.Sets.{clash, split, same, refuted, and_make, and_l, and_r, or_l, or_r, or-take, not_make, any_make, any_take}
use Rattle.simulation.proofs.Edges.{any_same}
use Rattle.bits.specs.Word.{members, meets, half_bits, set_bits}
use Rattle.bits.proofs.Tests.{meets_wider}
use Rattle.bits.proofs.Words.{zero-members, or-members}
use Rattle.links.specs.Links.{linked_from, links_to_in, links_to}
use Rattle.simulation.proofs.Gains.{gained-none, gained-more, gained_pass}

-- ---- the states with a link to a state of a word, those below u tested

module _ (k : ℕ) (links : List ℕ) (word : ℕ) where
  abbrev touches : Set
  touches u = meets k (get_or links u 0) word

  abbrev pub linked_to : ℕ → Set
  linked_to u x = ltb x u && touches x

  pub linked-none : members 0 ≡ linked_to 0
  linked-none = fun_ext zero-members ∙ gained-none none touches

  module _ (u all : ℕ) (e : members all ≡ linked_to u) where
    pub linked-more : (all' : ℕ) → meets k (get_or links u 0) word ≡ true → members all' ≡ also (members all) u → members all' ≡ linked_to (u + 1)
    linked-more all' some m = gained-more none touches u e some m

    pub linked_pass : meets k (get_or links u 0) word ≡ false → members all ≡ linked_to (u + 1)
    linked_pass fails = gained_pass none touches u e fails

pub links-none : (k : ℕ) (links : List ℕ) (u : ℕ) → links_to_in k links 0 u ≡ false
links-none k links u =
    refuted (links_to_in k links 0 u)
    (λ h.
    let r = any_take k (λ o. members (get_or links u 0) o && members 0 o) (and_r (ltb u (length links)) (meets k (get_or links u 0) 0) h) in
    clash (and_r (members (get_or links u 0) r.0) (members 0 r.0) r.2) (zero-members r.0))

-- ---- the states to which a state of a word has a link: `rest` is what is left of the word, and `all` has the links of the others

module _ (links : List ℕ) (word : ℕ) where
  pub record Linking (all rest : ℕ) : Type 0 where
    pub small : (u : ℕ) → members rest u ≡ true → u < length links
    pub both : (o : ℕ) → (members all o || linked_from links rest o) ≡ linked_from links word o

  pub linking-start : (rest : ℕ) → ((u : ℕ) → members rest u ≡ (members word u && ltb u (length links))) → Linking 0 rest
  linking-start rest e = record {
    small = λ u m. ltb-true u (length links) (and_r (members word u) (ltb u (length links)) (sym (e u) ∙ m));
    both = λ o.
        ap (λ (b : Bool). b || linked_from links rest o) (zero-members o)
        ∙ any_same (length links) (λ u. members rest u && members (get_or links u 0) o) (λ u. members word u && members (get_or links u 0) o)
        (λ u l. ap (λ (b : Bool). b && members (get_or links u 0) o) (e u ∙ ap (λ (b : Bool). members word u && b) (lt-ltb u (length links) l) ∙ and-true (members word u)));
  }

  module _ (all rest : ℕ) (r : Linking all rest) where
    pub linking-next : (u rest' : ℕ) → members rest u ≡ true → members rest' ≡ without (members rest) u → Linking (bit_or all (get_or links u 0)) rest'
    linking-next u rest' m e =
        record {
          small = λ x h. r.small x (and_l (members rest x) (not (eqb x u)) (sym (at x) ∙ h));
          both = λ o.
              ap (λ (X : Set). X o || linked_from links rest' o) (or-members all (get_or links u 0))
              ∙ or_assoc (members all o) (members (get_or links u 0) o) (linked_from links rest' o)
              ∙ ap (λ (b : Bool). members all o || b) (step o)
              ∙ r.both o;
        }
      where
        n : ℕ
        n = length links

        at : (x : ℕ) → members rest' x ≡ (members rest x && not (eqb x u))
        at x = ap (λ (X : Set). X x) e

        step : (o : ℕ) → (members (get_or links u 0) o || linked_from links rest' o) ≡ linked_from links rest o
        step o = same (members (get_or links u 0) o || linked_from links rest' o) (linked_from links rest o) there back
          where
            old : Set
            old x = members rest x && members (get_or links x 0) o

            new : Set
            new x = members rest' x && members (get_or links x 0) o

            there : (members (get_or links u 0) o || linked_from links rest' o) ≡ true → linked_from links rest o ≡ true
            there h =
                ⊎_elim
                (λ link. any_make (length links) old u (r.small u m) (and_make m link))
                (λ k.
                let w = any_take (length links) new k in
                let x = w.0 in
                any_make (length links) old x w.1
                (and_make
                (and_l (members rest x) (not (eqb x u)) (sym (at x) ∙ and_l (members rest' x) (members (get_or links x 0) o) w.2))
                (and_r (members rest' x) (members (get_or links x 0) o) w.2)))
                (or-take (members (get_or links u 0) o) (linked_from links rest' o) h)

            back : linked_from links rest o ≡ true → (members (get_or links u 0) o || linked_from links rest' o) ≡ true
            back h =
                let w = any_take (length links) old h in
                let x = w.0 in
                let held = and_l (members rest x) (members (get_or links x 0) o) w.2 in
                let link = and_r (members rest x) (members (get_or links x 0) o) w.2 in
                ⊎_elim
                (λ (t : eqb x u ≡ true). or_l (linked_from links rest' o) (subst (λ (y : ℕ). members (get_or links y 0) o ≡ true) (eqb-true x u t) link))
                (λ (t : eqb x u ≡ false).
                or_r (members (get_or links u 0) o) (any_make (length links) new x w.1 (and_make (at x ∙ and_make held (not_make t)) link)))
                (split (eqb x u))

    pub linking-done : rest ≡ 0 → members all ≡ linked_from links word
    linking-done e =
        fun_ext
        (λ o.
        sym (or-false (members all o))
        ∙ ap (λ (b : Bool). members all o || b) (sym (none o))
        ∙ r.both o)
      where
        none : (o : ℕ) → linked_from links rest o ≡ false
        none o =
            refuted (linked_from links rest o)
            (λ h.
            let w = any_take (length links) (λ u. members rest u && members (get_or links u 0) o) h in
            clash (and_l (members rest w.0) (members (get_or links w.0 0) o) w.2) (ap (λ (x : ℕ). members x w.0) e ∙ zero-members w.0))

-- ---- the states of a word without a link to one of the others: those of `rest` are still to be tested

module _ (k : ℕ) (links : List ℕ) (word others : ℕ) where
  pub record Thinned (left rest : ℕ) : Type 0 where
    pub small : (u : ℕ) → members rest u ≡ true → u < length links
    pub words : (u : ℕ) → members left u ≡ (members word u && (members rest u || not (links_to_in k links others u)))

  pub thinned_start : (rest : ℕ) → ((u : ℕ) → members rest u ≡ (members word u && ltb u (length links))) → Thinned word rest
  thinned_start rest e =
      record {
        small = λ u m. ltb-true u (length links) (and_r (members word u) (ltb u (length links)) (sym (e u) ∙ m));
        words = λ u.
            ⊎_elim
            (λ (t : members word u ≡ true).
            ⊎_elim
            (λ (l : ltb u (length links) ≡ true). rw (e u, t, l) refl)
            (λ (l : ltb u (length links) ≡ false). rw (e u, t, l) refl)
            (split (ltb u (length links))))
            (λ (t : members word u ≡ false). rw t refl)
            (split (members word u));
      }

  module _ (left rest : ℕ) (r : Thinned left rest) (u rest' : ℕ) (m : members rest u ≡ true) (e : members rest' ≡ without (members rest) u) where
    at : (x : ℕ) → members rest' x ≡ (members rest x && not (eqb x u))
    at x = ap (λ (X : Set). X x) e

    fewer_small : (x : ℕ) → members rest' x ≡ true → x < length links
    fewer_small x h = r.small x (and_l (members rest x) (not (eqb x u)) (sym (at x) ∙ h))

    -- at another state nothing moves
    elsewhere : (x : ℕ) → eqb x u ≡ false → members left x ≡ (members word x && (members rest' x || not (links_to_in k links others x)))
    elsewhere x t =
        let still : members rest' x ≡ members rest x = at x ∙ rw t (and-true (members rest x)) in
        r.words x ∙ ap (λ (b : Bool). members word x && (b || not (links_to_in k links others x))) (sym still)

    done_with : members rest' u ≡ false
    done_with = at u ∙ rw (eq-eqb u u refl) (and-false (members rest u))

    inside : ltb u (length links) ≡ true
    inside = lt-ltb u (length links) (r.small u m)

    pub thinned_out : meets k (get_or links u 0) others ≡ true → (left' : ℕ) → members left' ≡ without (members left) u → Thinned left' rest'
    thinned_out some left' out =
        record {
          small = fewer_small;
          words = λ x.
              ap (λ (X : Set). X x) out
              ∙ ⊎_elim
              (λ (t : eqb x u ≡ true). rw (eqb-true x u t, eq-eqb u u refl, done_with, inside, some) (and-false (members left u) ∙ sym (and-false (members word u))))
              (λ (t : eqb x u ≡ false). rw t (and-true (members left x) ∙ elsewhere x t))
              (split (eqb x u));
        }

    pub thinned_pass : meets k (get_or links u 0) others ≡ false → Thinned left rest'
    thinned_pass none =
        record {
          small = fewer_small;
          words = λ x.
              ⊎_elim
              (λ (t : eqb x u ≡ true). rw (eqb-true x u t, done_with, inside, none) (r.words u ∙ rw m refl))
              (λ (t : eqb x u ≡ false). elsewhere x t)
              (split (eqb x u));
        }

  pub thinned_done : (left rest : ℕ) → Thinned left rest → rest ≡ 0 → members left ≡ minus (members word) (links_to_in k links others)
  thinned_done left rest r e =
      fun_ext (λ u. r.words u ∙ ap (λ (b : Bool). members word u && (b || not (links_to_in k links others u))) (ap (λ (x : ℕ). members x u) e ∙ zero-members u))

-- ---- the width does not matter: links of k bits are told by k bits

pub links_wider : (k j : ℕ) (links : List ℕ) (word : ℕ) → below (2 ^ k) links ≡ true → k ≤ j → links_to_in j links word ≡ links_to_in k links word
links_wider k j links word h l =
    fun_ext (λ u. ap (λ (b : Bool). ltb u (length links) && b) (meets_wider k j (get_or links u 0) word (below_at (2 ^ k) links h (pow_pos k) u) l))

-- of half a word: the sets of at most 16 states are those that they were
pub links-half : (links : List ℕ) (word : ℕ) → below (2 ^ half_bits) links ≡ true → links_to links word ≡ links_to_in half_bits links word
links-half links word h = links_wider half_bits set_bits links word h (omega arith)
