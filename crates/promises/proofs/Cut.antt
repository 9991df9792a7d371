-- 02, Job 5: the trigger cut down to its reached states has their marks, and document 000's rule on it decides firing. And what firing was before.
use Prim.Native.Nat.{ℕ, zero, suc, ◌^◌, ◌<◌}
use native.Mathlib.Omega.{arith}
use mathlib.Core.Path.{◌≡◌, refl, sym, ◌∙◌, ap, subst}
use mathlib.Core.Logic.{◌↔◌}
use mathlib.Core.Bool.{Bool, true, ◌&&◌}
use lib.ListN.{length, get_or}
use lib.Pow.{pow_pos}
use borrow.Author.Tests.{lt-ltb}
use Rattle.simulation.specs.Sets.{any_below}
use Rattle.simulation.proofs.Sets.{same, any_make, any_take, all_make, all_take}
use Rattle.simulation.proofs.Ordered.{elem_at, elem_index, ascending, listed-take, listed_make, listed-rises, listed-short}
use Rattle.bits.specs.Word.{members, word}
use Rattle.bits.proofs.Words.{word_below, word-members}
use Rattle.session.specs.Trigger.{Trigger, Graph, Marks, states, nodes, linked, admits}
use Rattle.session.specs.Limits.{word_bits}
use Rattle.session.specs.Reached.{Reached, one, link, reached}
use Rattle.session.specs.Layout.{valid_trigger}
use Rattle.session.proofs.Tables.{length-table, get_or-table, table_below, below_at}
use Rattle.session.proofs.Valid.{trigger-facts, trigger-valid}
use Rattle.session.proofs.Reached.{reached-inside, reached-one, reached-link, reached_iff}
use Rattle.promises.specs.Standing.{Simulation, stands, fires, kept, state_at, cut, Matched, Compared}
use Rattle.promises.specs.Former.{fired_formerly}
use Rattle.promises.proofs.Stands.{stands-simulates, stands-greatest, stands-inside, stands-admitted, fires_make, fires-take, matched_all, matched_each}

-- ---- the cut trigger

module _ (t : Trigger) where
  abbrev n : ℕ
  n = length (kept t)

  cut-count : states (cut t) ≡ length (kept t)
  unfolding cut
  cut-count = length-table n (λ j. get_or t.masks (state_at t j) 0)

  -- its states are those that are reached, in ascending order
  kept-take : (j : ℕ) → j < length (kept t) → reached t (state_at t j) ≡ true
  unfolding kept
  kept-take j l = (listed-take (reached t) (states t) (state_at t j) (elem_at (kept t) j l)).1

  kept_make : (u : ℕ) → reached t u ≡ true → (j : ℕ) × (j < length (kept t)) × (state_at t j ≡ u)
  unfolding kept
  kept_make u r = elem_index u (kept t) (listed_make (reached t) (states t) u (reached-inside t u r) r)

  kept-rises : (i j : ℕ) → i < j → j < length (kept t) → state_at t i < state_at t j
  unfolding kept
  kept-rises = ascending (kept t) (listed-rises (reached t) (states t))

  -- it has their links and admits what they do
  cut-linked : (i j : ℕ) → i < length (kept t) → j < length (kept t) → linked (cut t) i j ≡ linked t (state_at t i) (state_at t j)
  unfolding cut linked
  cut-linked i j l k =
      ap (λ (w : ℕ). members w j) (get_or-table n (λ i. word n (λ j. linked t (state_at t i) (state_at t j))) i l)
      ∙ word-members n (λ j. linked t (state_at t i) (state_at t j)) j
      ∙ ap (λ (b : Bool). b && linked t (state_at t i) (state_at t j)) (lt-ltb j n k)

  cut-admits : (g : Graph) (j v : ℕ) → j < length (kept t) → admits (cut t) g j v ≡ admits t g (state_at t j) v
  unfolding cut admits
  cut-admits g j v l =
      rw (
        get_or-table n (λ j. get_or t.masks (state_at t j) 0) j l,
        get_or-table n (λ j. get_or t.values (state_at t j) 0) j l,
        word-members n (λ j. members t.inverted (state_at t j)) j,
        lt-ltb j n l,
      )

  -- it is a trigger of the scope
  cut-valid : valid_trigger t ≡ true → valid_trigger (cut t) ≡ true
  unfolding cut kept
  cut-valid v =
      let f = trigger-facts t v in
      let w = kept_make 0 (reached-one t f.some) in
      let fit = pow_pos word_bits in
      trigger-valid (cut t) record {
        some = omega (arith, cut-count, w.1);
        few = omega (arith, cut-count, listed-short (reached t) (states t), f.few);
        values = length-table n (λ j. get_or t.values (state_at t j) 0) ∙ sym cut-count;
        links = length-table n (λ j. word n (λ i. linked t (state_at t j) (state_at t i))) ∙ sym cut-count;
        masks_fit = table_below (2 ^ word_bits) n (λ j. get_or t.masks (state_at t j) 0) (λ j. below_at (2 ^ word_bits) t.masks f.masks_fit fit (state_at t j));
        values_fit = table_below (2 ^ word_bits) n (λ j. get_or t.values (state_at t j) 0) (λ j. below_at (2 ^ word_bits) t.values f.values_fit fit (state_at t j));
        links_fit = rw cut-count
            (table_below (2 ^ n) n (λ j. word n (λ i. linked t (state_at t j) (state_at t i))) (λ j. word_below n (λ i. linked t (state_at t j) (state_at t i))));
        inverted_fit = rw cut-count (word_below n (λ j. members t.inverted (state_at t j)));
      }

  -- each of its states is reached in it
  cut-chain : {u : ℕ} → Reached t u → (j : ℕ) → j < length (kept t) → state_at t j ≡ u → Reached (cut t) j
  cut-chain (one l) zero i e = one (rw cut-count i)
  cut-chain (one l) (suc j) i e = let r = kept-rises 0 (suc j) (omega arith) i in absurd (omega (arith, r, e))
  cut-chain (link {u} u' c l k) j i e =
      let w = kept_make u ((reached_iff t u).1 c) in
      link j (cut-chain c w.0 w.1 w.2) (rw cut-count i)
      (cut-linked w.0 j w.1 i ∙ rw (w.2, e) k)

-- ---- "cutting alters no mark of a reached state"

module _ (t : Trigger) (g : Graph) where
  -- the pairs of the whole trigger that stand in the cut one, and the other way round
  record Lifted (u v : ℕ) : Type 0 where
    at : ℕ
    inside : at < length (kept t)
    is : state_at t at ≡ u
    stood : stands (cut t) g at v ≡ true

  lifted : Simulation t g Lifted
  lifted = record {
    inside = λ u v r. (
      subst (λ (x : ℕ). x < states t) r.is (reached-inside t (state_at t r.at) (kept-take t r.at r.inside)),
      (stands-inside (cut t) g r.at v r.stood).1,
    );
    admitted = λ u v r.
        subst (λ (x : ℕ). admits t g x v ≡ true) r.is (sym (cut-admits t g r.at v r.inside) ∙ stands-admitted (cut t) g r.at v r.stood);
    carried = λ u u' v l k r.
        let link : linked t (state_at t r.at) u' ≡ true = rw r.is k in
        let w = kept_make t u' (reached-link t (state_at t r.at) u' l (kept-take t r.at r.inside) link) in
        let s =
        (stands-simulates (cut t) g).carried r.at w.0 v (rw (cut-count t) w.1)
        (cut-linked t r.at w.0 r.inside w.1 ∙ rw w.2 link) r.stood in
        (s.0, s.1, record { at = w.0; inside = w.1; is = w.2; stood = s.2 });
  }

  lowered : Simulation (cut t) g (λ j v. (j < length (kept t)) × (stands t g (state_at t j) v ≡ true))
  lowered = record {
    inside = λ j v r. (rw (cut-count t) r.0, (stands-inside t g (state_at t j) v r.1).1);
    admitted = λ j v r. cut-admits t g j v r.0 ∙ stands-admitted t g (state_at t j) v r.1;
    carried = λ j j' v l k r.
        let i : j' < length (kept t) = rw (cut-count t) at l in
        let s =
        (stands-simulates t g).carried (state_at t j) (state_at t j') v (reached-inside t (state_at t j') (kept-take t j' i))
        (sym (cut-linked t j j' r.0 i) ∙ k) r.1 in
        (s.0, s.1, (i, s.2));
  }

  pub cut-marks : (j v : ℕ) → j < states (cut t) → stands (cut t) g j v ≡ stands t g (state_at t j) v
  cut-marks j v l =
      let i : j < length (kept t) = rw (cut-count t) at l in
      same (stands (cut t) g j v) (stands t g (state_at t j) v)
      (λ h. stands-greatest t g Lifted lifted (state_at t j) v (record { at = j; inside = i; is = refl; stood = h }))
      (λ h. stands-greatest (cut t) g (λ j v. (j < length (kept t)) × (stands t g (state_at t j) v ≡ true)) lowered j v (i, h))

  -- ---- firing

  -- each state of the cut trigger stands where the trigger fires, and it fires where each does
  each_stands : fires t g (stands t g) ≡ true → (j : ℕ) → j < states (cut t) → (v : ℕ) × (stands (cut t) g j v ≡ true)
  each_stands f j l =
      let w = fires-take t g (stands t g) f (state_at t j) (kept-take t j (rw (cut-count t) at l)) in
      (w.0, cut-marks j w.0 l ∙ w.2)

  each-fires : ((j : ℕ) → j < states (cut t) → (v : ℕ) × (stands (cut t) g j v ≡ true)) → fires t g (stands t g) ≡ true
  each-fires each =
      fires_make t g (stands t g)
      (λ u r.
      let w = kept_make t u r in
      let l : w.0 < states (cut t) = rw (cut-count t) w.1 in
      let s = each w.0 l in
      let h : stands t g u s.0 ≡ true = subst (λ (x : ℕ). stands t g x s.0 ≡ true) w.2 (sym (cut-marks w.0 s.0 l) ∙ s.1) in
      (s.0, (stands-inside t g u s.0 h).1, h))

  relation : fires t g (stands t g) ≡ true → (j v : ℕ) → j < states (cut t) → Matched (cut t) g j v ↔ (stands t g (state_at t j) v ≡ true)
  relation f j v l =
      let m = matched_all (cut t) g (each_stands f) j v in
      (λ w. sym (cut-marks j v l) ∙ m.0 w, λ h. m.1 (cut-marks j v l ∙ h))

  pub compared : Compared t g
  compared = record {
    all = λ u. (
      λ c. let w = kept_make t u ((reached_iff t u).1 c) in (w.0, rw (cut-count t) w.1, w.2),
      λ w. (reached_iff t u).0 (subst (λ (x : ℕ). reached t x ≡ true) w.2 (kept-take t w.0 (rw (cut-count t) at w.1))),
    );
    once = λ i j l k. kept-rises t i j l (rw (cut-count t) at k);
    again = λ j l.
        let i : j < length (kept t) = rw (cut-count t) at l in
        cut-chain t ((reached_iff t (state_at t j)).0 (kept-take t j i)) j i refl;
    valid = cut-valid t;
    marks = cut-marks;
    firing = λ some. (
      λ f.
          let w = kept_make t 0 (reached-one t some) in
          let l : w.0 < states (cut t) = rw (cut-count t) w.1 in
          let s = each_stands f w.0 l in
          (w.0, s.0, (matched_all (cut t) g (each_stands f) w.0 s.0).1 s.1),
      λ w. each-fires (matched_each (cut t) g w.0 w.1 w.2),
    );
    relation = relation;
  }

-- ---- what firing was: every state, reached or not

module _ (t : Trigger) (g : Graph) where
  former_make : (m : Marks) → ((u : ℕ) → u < states t → (v : ℕ) × (v < nodes g) × (m u v ≡ true)) → fired_formerly t g m ≡ true
  unfolding fired_formerly
  former_make m h =
      all_make (states t) (λ u. any_below (nodes g) (m u))
      (λ u l. let w = h u l in any_make (nodes g) (m u) w.0 w.1 w.2)

  former_take : (m : Marks) → fired_formerly t g m ≡ true → (u : ℕ) → u < states t → (v : ℕ) × (v < nodes g) × (m u v ≡ true)
  unfolding fired_formerly
  former_take m h u l = any_take (nodes g) (m u) (all_take (states t) (λ u. any_below (nodes g) (m u)) h u l)

  -- what fired still does
  pub former_still : (m : Marks) → fired_formerly t g m ≡ true → fires t g m ≡ true
  former_still m h = fires_make t g m (λ u r. former_take m h u (reached-inside t u r))

  -- a trigger whose states are all reached fires as it did
  pub former_fires : ((u : ℕ) → u < states t → Reached t u) → (m : Marks) → fires t g m ≡ fired_formerly t g m
  former_fires all m =
      same (fires t g m) (fired_formerly t g m)
      (λ h. former_make m (λ u l. fires-take t g m h u ((reached_iff t u).1 (all u l))))
      (former_still m)
