-- Growth node by node: one look at a node stays within the trial set, and what does not wait has its predecessors.
use Prim.Native.Nat.{ℕ, ◌+◌, ◌*◌, ◌/◌, ◌%◌, ◌<◌, ◌≤◌}
use native.Mathlib.Nat.{mod-lt, div-lt_iff_lt-mul}
use native.Mathlib.Omega.{arith}
use mathlib.Core.Path.{◌≡◌, sym, ◌∙◌, ap, subst}
use mathlib.Core.Logic.{◌⊎◌, ⊎_elim}
use mathlib.Core.Bool.{Bool, true, false, not, ◌&&◌, ◌||◌}
use mathlib.Core.List.{List}
use lib.Dec.{ltb, eqb}
use lib.ListN.{length, get_or}
use borrow.Author.Tests.{lt-ltb, eqb-true, eqb-false}
use Rattle.simulation.specs.Sets.{Set, In, minus, without, any_below, count}
use Rattle.simulation.specs.Ordered.{joins}
use Rattle.simulation.specs.System.{System, reaches, closure}
use Rattle.simulation.specs.Pattern.{Pattern, pair, system}
use Rattle.simulation.proofs.Sets.{clash, split, refuted, and_make, and_l, and_r, or_l, or_r, or-take, not_make, not-take, any_make, any_take, count-le, count_mono, count-drop}
use Rattle.simulation.proofs.System.{closure-seed, closure-step, reaches-take}
use Rattle.simulation.proofs.Pattern.{pair-state, pair-node, pair_inside, paired-pair, meets-take, meets_make}
use Rattle.simulation.proofs.Loops.{grown-whole, without_falls}
use Rattle.simulation.proofs.Search.{first-at, first-before}
use Rattle.bits.specs.Word.{members, set_bits}
use Rattle.session.specs.Limits.{max_nodes}
use Rattle.links.specs.Links.{links_to}
use Rattle.pair_tables.specs.Tables.{marked}
use Rattle.worklist.specs.Waiting.{waits, waiting_words, lowest_waiting}
use Rattle.edge_indexes.specs.Indexes.{predecessors, starts_size}
use Rattle.refinement.specs.Refining.{Sound, pattern_of, tabled}
use Rattle.refinement.proofs.Settling.{fewer, joins-predecessors, predecessors-joins}
use Rattle.growth.specs.Growth.{Spread, Grown}

-- what holds before each look
pub record Growing (nodes : ℕ) (links es fs seeds ts ws : List ℕ) : Type 0 where
  pub long : length ts ≡ max_nodes
  pub waits_long : length ws ≡ waiting_words
  pub fresh : (u w : ℕ) → marked ts u w ≡ true → marked fs u w ≡ true
  pub seeded : (u w : ℕ) → marked seeds u w ≡ true → marked ts u w ≡ true
  pub within : (p : ℕ) → In (tabled nodes links es ts) p
      → In (closure (system (pattern_of nodes links es)) (tabled nodes links es fs) (tabled nodes links es seeds)) p
  pub follows : (p o q : ℕ) → p < nodes * length links → In (tabled nodes links es fs) p → o < length links
      → In ((system (pattern_of nodes links es)).due p) o → In ((system (pattern_of nodes links es)).meets p o) q → In (tabled nodes links es ts) q
      → waits ws (q / length links) ≡ false → In (tabled nodes links es ts) p

-- the fresh pairs that are not tried, and the nodes that wait
abbrev pub left : ℕ → List ℕ → List ℕ → List ℕ → List ℕ → List ℕ → ℕ
left nodes links es fs ts ws =
    starts_size * count (nodes * length links) (minus (tabled nodes links es fs) (tabled nodes links es ts)) + count max_nodes (waits ws)

module _ (nodes : ℕ) (links es : List ℕ) (sound : Sound nodes links es) (fs : List ℕ)
    (fits : (u v : ℕ) → marked fs u v ≡ true → (u < length links) × (v < nodes)) where
  abbrev n : ℕ
  n = length links

  abbrev P : Pattern
  P = pattern_of nodes links es

  abbrev s : System
  s = system (pattern_of nodes links es)

  abbrev T : List ℕ → Set
  T ts = tabled nodes links es ts

  -- a fresh pair is one of the system
  inside : (p : ℕ) → In (T fs) p → p < nodes * length links
  inside p h = (div-lt_iff_lt-mul sound.some_state).0 (fits (p % n) (p / n) h).1

  module _ (ts ws : List ℕ) (v : ℕ) (ts' ws' : List ℕ) (spread : Spread links es fs ts ws v ts' ws') where
    -- what is gained
    abbrev gained : ℕ → ℕ → Bool
    gained u w = predecessors es v w && (marked fs u w && links_to links (get_or ts v 0) u)

    stays : (u w : ℕ) → marked ts u w ≡ true → marked ts' u w ≡ true
    stays u w h = spread.words u w ∙ or_l (gained u w) h

    was : (u w : ℕ) → marked ts' u w ≡ true → (marked ts u w ≡ true) ⊎ (gained u w ≡ true)
    was u w h = or-take (marked ts u w) (gained u w) (sym (spread.words u w) ∙ h)

    gained-fresh : (u w : ℕ) → gained u w ≡ true → marked fs u w ≡ true
    gained-fresh u w h =
        and_l (marked fs u w) (links_to links (get_or ts v 0) u) (and_r (predecessors es v w) (marked fs u w && links_to links (get_or ts v 0) u) h)

    fresh_still : ((u w : ℕ) → marked ts u w ≡ true → marked fs u w ≡ true) → (u w : ℕ) → marked ts' u w ≡ true → marked fs u w ≡ true
    fresh_still old u w h = ⊎_elim (old u w) (gained-fresh u w) (was u w h)

    -- a gained pair has a link and an edge to a pair at v
    gained-reaches : (u w : ℕ) → gained u w ≡ true
        → (joins max_nodes es w v ≡ true) × ((o : ℕ) × (members (get_or links u 0) o ≡ true) × (marked ts o v ≡ true))
    gained-reaches u w h =
        let rest = marked fs u w && links_to links (get_or ts v 0) u in
        let l = and_r (marked fs u w) (links_to links (get_or ts v 0) u) (and_r (predecessors es v w) rest h) in
        let test : Set = λ o. members (get_or links u 0) o && members (get_or ts v 0) o in
        let r = any_take set_bits test (and_r (ltb u n) (any_below set_bits test) l) in
        let o = r.0 in (
          predecessors-joins nodes links es sound w v (and_l (predecessors es v w) rest h),
          (
            o,
            and_l (members (get_or links u 0) o) (members (get_or ts v 0) o) r.2,
            and_r (members (get_or links u 0) o) (members (get_or ts v 0) o) r.2,
          ),
        )

    gained_make : (u w o : ℕ) → joins max_nodes es w v ≡ true → marked fs u w ≡ true → u < length links → o < length links
        → members (get_or links u 0) o ≡ true → marked ts o v ≡ true → gained u w ≡ true
    gained_make u w o j f l m d h =
        and_make (joins-predecessors nodes links es sound w v j)
        (and_make f
        (and_make (lt-ltb u n l)
        (any_make set_bits (λ o. members (get_or links u 0) o && members (get_or ts v 0) o) o (omega (arith, sound.few_states)) (and_make d h))))

    -- ---- the trial set

    module _ (seeds : List ℕ) where
      abbrev C : Set
      C = closure s (T fs) (T seeds)

      within_still : ((u w : ℕ) → marked ts u w ≡ true → marked fs u w ≡ true) → ((p : ℕ) → In (T ts) p → In C p)
          → (p : ℕ) → In (T ts') p → In C p
      within_still fresh old p h = ⊎_elim (old p) new (was (p % n) (p / n) h)
        where
          new : gained (p % n) (p / n) ≡ true → In C p
          new g =
              let r = gained-reaches (p % n) (p / n) g in
              let o = r.1.0 in
              let q = pair P o v in
              let l : o < n = (fits o v (fresh o v r.1.2)).0 in
              let f = gained-fresh (p % n) (p / n) g in
              closure-step s (T fs) (T seeds) p o q (inside p f) f l r.1.1
              (meets_make P p o q (sym (pair-state P o v l)) (subst (λ (x : ℕ). joins max_nodes es (p / n) x ≡ true) (sym (pair-node P o v l)) r.0))
              (old q (paired-pair P (marked ts) o v l ∙ r.1.2))

    -- ---- a node that does not wait has not changed, and was looked at

    changed : ℕ → Bool
    changed w = not (eqb (get_or ts' w 0) (get_or ts w 0))

    unchanged : (w : ℕ) → waits ws' w ≡ false → (get_or ts' w 0 ≡ get_or ts w 0) × (without (waits ws) v w ≡ false)
    unfolding changed
    unchanged w h =
        let both : (without (waits ws) v w || changed w) ≡ false = sym (spread.waiting w) ∙ h in (
          ⊎_elim
              (λ (e : eqb (get_or ts' w 0) (get_or ts w 0) ≡ true). eqb-true (get_or ts' w 0) (get_or ts w 0) e)
              (λ (e : eqb (get_or ts' w 0) (get_or ts w 0) ≡ false). clash (or_r (without (waits ws) v w) (not_make e)) both)
              (split (eqb (get_or ts' w 0) (get_or ts w 0))),
          refuted (without (waits ws) v w) (λ k. clash (or_l (changed w) k) both),
        )

    abbrev Follows : List ℕ → List ℕ → Type 0
    Follows table list = (p o q : ℕ) → p < nodes * n → In (T fs) p → o < n → In (s.due p) o → In (s.meets p o) q → In (T table) q
        → waits list (q / n) ≡ false → In (T table) p

    follows_still : Follows ts ws → Follows ts' ws'
    follows_still old p o q l f k d m h idle =
        let u = unchanged (q / n) idle in
        let here : In (T ts) q = ap (λ (x : ℕ). members x (q % n)) (sym u.0) ∙ h in
        let t = meets-take P p o q m in
        ⊎_elim
        (λ (e : eqb (q / n) v ≡ true).
        let at : q / n ≡ v = eqb-true (q / n) v e in
        let g = gained_make (p % n) (p / n) o
        (subst (λ (x : ℕ). joins max_nodes es (p / n) x ≡ true) at t.1)
        f (mod-lt p sound.some_state) k d
        (subst (λ (x : ℕ). marked ts x v ≡ true) (sym t.0) (subst (λ (x : ℕ). marked ts (q % n) x ≡ true) at here)) in
        spread.words (p % n) (p / n) ∙ or_r (marked ts (p % n) (p / n)) g)
        (λ (e : eqb (q / n) v ≡ false).
        stays (p % n) (p / n) (old p o q l f k d m here (refuted (waits ws (q / n)) (λ w. clash (and_make w (not_make e)) u.1))))
        (split (eqb (q / n) v))

    -- ---- each look leaves fewer pairs, or fewer nodes that wait

    won : Set
    won p = T ts' p && not (T ts p)

    shrinks : (p : ℕ) → In (minus (T fs) (T ts')) p → In (minus (T fs) (T ts)) p
    shrinks p h =
        and_make (and_l (T fs p) (not (T ts' p)) h)
        (not_make (refuted (T ts p) (λ k. clash (stays (p % n) (p / n) k) (not-take (T ts' p) (and_r (T fs p) (not (T ts' p)) h)))))

    -- a word that changed has won a pair
    changed_won : ((u w : ℕ) → marked ts' u w ≡ true → marked fs u w ≡ true) → (w : ℕ) → changed w ≡ true → any_below (nodes * n) won ≡ true
    unfolding changed won
    changed_won fresh w c =
        let b = get_or ts w 0 in
        let a = get_or ts' w 0 in
        let f = fewer a b (λ u h. stays u w h) (λ e. eqb-false a b (not-take (eqb a b) c) (sym e)) in
        let u = f.0 in
        let i = fits u w (fresh u w f.1) in
        any_make (nodes * n) won (pair P u w) (pair_inside P u w i.0 i.1)
        (and_make (paired-pair P (marked ts') u w i.0 ∙ f.1) (not_make (paired-pair P (marked ts) u w i.0 ∙ f.2)))

    left_less : ((u w : ℕ) → marked ts' u w ≡ true → marked fs u w ≡ true) → v < max_nodes → waits ws v ≡ true
        → left nodes links es fs ts' ws' < left nodes links es fs ts ws
    unfolding won changed
    left_less fresh l waiting =
        let few = count-le max_nodes (waits ws') in
        ⊎_elim
        (λ (e : any_below (nodes * n) won ≡ true).
        let r = any_take (nodes * n) won e in
        let p = r.0 in
        let new = and_l (T ts' p) (not (T ts p)) r.2 in
        let fewer-pairs : count (nodes * n) (minus (T fs) (T ts')) < count (nodes * n) (minus (T fs) (T ts)) =
        count-drop (nodes * n) (minus (T fs) (T ts')) (minus (T fs) (T ts)) shrinks p r.1
        (and_make (fresh (p % n) (p / n) new) (and_r (T ts' p) (not (T ts p)) r.2))
        (refuted (minus (T fs) (T ts') p) (λ k. clash new (not-take (T ts' p) (and_r (T fs p) (not (T ts' p)) k)))) in
        omega arith)
        (λ (e : any_below (nodes * n) won ≡ false).
        let more : count (nodes * n) (minus (T fs) (T ts')) ≤ count (nodes * n) (minus (T fs) (T ts)) =
        count_mono (nodes * n) (minus (T fs) (T ts')) (minus (T fs) (T ts)) shrinks in
        let fewer-nodes : count max_nodes (waits ws') ≤ count max_nodes (without (waits ws) v) =
        count_mono max_nodes (waits ws') (without (waits ws) v) (idle e) in
        let falls : count max_nodes (without (waits ws) v) < count max_nodes (waits ws) = without_falls max_nodes (waits ws) v l waiting in
        omega arith)
        (split (any_below (nodes * n) won))
      where
        idle : any_below (nodes * n) won ≡ false → (w : ℕ) → waits ws' w ≡ true → without (waits ws) v w ≡ true
        idle e w h =
            ⊎_elim (λ k. k) (λ k. clash (changed_won fresh w k) e)
            (or-take (without (waits ws) v w) (changed w) (sym (spread.waiting w) ∙ h))

  -- ---- the whole growth

  module _ (seeds : List ℕ) where
    pub growing_start : {ws : List ℕ} → length seeds ≡ max_nodes → length ws ≡ waiting_words
        → ((u w : ℕ) → marked seeds u w ≡ true → (marked fs u w ≡ true) × (waits ws w ≡ true)) → Growing nodes links es fs seeds seeds ws
    growing_start long waits_long seed =
        record {
          long = long;
          waits_long = waits_long;
          fresh = λ u w h. (seed u w h).0;
          seeded = λ u w h. h;
          within = λ p h. let f = (seed (p % n) (p / n) h).0 in closure-seed s (T fs) (T seeds) p (inside p f) f h;
          follows = λ p o q l f k d m h idle. clash (seed (q % n) (q / n) h).1 idle;
        }

    pub growing_more : {ts ws ts' ws' : List ℕ} {v : ℕ} → Growing nodes links es fs seeds ts ws → Spread links es fs ts ws v ts' ws'
        → Growing nodes links es fs seeds ts' ws'
    growing_more {ts} {ws} {ts'} {ws'} {v} g spread =
        record {
          long = spread.table_long ∙ g.long;
          waits_long = spread.waits_long ∙ g.waits_long;
          fresh = fresh_still ts ws v ts' ws' spread g.fresh;
          seeded = λ u w h. stays ts ws v ts' ws' spread u w (g.seeded u w h);
          within = within_still ts ws v ts' ws' spread seeds g.fresh g.within;
          follows = follows_still ts ws v ts' ws' spread g.follows;
        }

    pub growing_less : {ts ws ts' ws' : List ℕ} {v : ℕ} → Growing nodes links es fs seeds ts ws → v ≡ lowest_waiting ws → v < nodes
        → Spread links es fs ts ws v ts' ws'
        → left nodes links es fs ts' ws' < left nodes links es fs ts ws
    growing_less {ts} {ws} {ts'} {ws'} {v} g lowest l spread =
        let few : v < max_nodes = omega (arith, sound.few_nodes) in
        left_less ts ws v ts' ws' spread (fresh_still ts ws v ts' ws' spread g.fresh) few
        (rw lowest (first-at (waits ws) 0 max_nodes (omega arith) (omega (arith, lowest))))

    -- no node waits that has a pair
    pub growing_end : {ts ws : List ℕ} → Growing nodes links es fs seeds ts ws → nodes ≤ lowest_waiting ws → Grown nodes links es fs seeds ts
    growing_end {ts} {ws} g done =
        record {
          long = g.long;
          within = g.fresh;
          grown = λ p l. ap (λ (X : Set). X p) (grown-whole s (T fs) (T seeds) (T ts) g.within whole);
        }
      where
        whole : (p : ℕ) → p < nodes * length links → In (T fs) p → (T seeds p || reaches s (T ts) p) ≡ true → In (T ts) p
        whole p l f h =
            ⊎_elim (g.seeded (p % n) (p / n))
            (λ e.
            let r = reaches-take s (T ts) p e in
            let q = r.3.0 in
            let at : q / n < nodes = (fits (q % n) (q / n) (g.fresh (q % n) (q / n) r.3.3)).1 in
            g.follows p r.0 q l f r.1 r.2 r.3.2 r.3.3
            (first-before (waits ws) 0 max_nodes (q / n) (omega arith) (omega arith)))
            (or-take (T seeds p) (reaches s (T ts) p) h)
