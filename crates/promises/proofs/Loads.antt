-- A load that breaks no rule gives a valid trigger and graph; and a valid trigger and graph, loaded afresh, break none.
use Prim.Native.Nat.{ℕ, suc, ◌+◌, ◌-◌, ◌/◌, ◌%◌, ◌^◌, ◌<◌, ◌≤◌}
use native.Mathlib.Nat.{div-add-mod'}
use native.Mathlib.Numerals.{add-one}
use native.Mathlib.Omega.{arith}
use mathlib.Core.Path.{◌≡◌, sym, ◌∙◌, ap}
use mathlib.Core.Logic.{⊎_elim}
use mathlib.Core.Bool.{Bool, true, false, not, ◌&&◌, ◌||◌}
use mathlib.Core.List.{List}
use lib.Dec.{ltb, eqb}
use lib.ListN.{length, get_or, length-map, get_or-map}
use borrow.Author.Tests.{ltb-true, ltb-false, lt-ltb, le-ltb, eqb-true, eqb-false, eq-eqb, ne_eqb, not-false}
use Rattle.simulation.specs.Sets.{all_below}
use Rattle.simulation.specs.Ordered.{elem, ascends}
use Rattle.simulation.proofs.Sets.{and_make, and_l, and_r, or_l, or_r, or-none, or_false_l, or_false_r, or-take, all_make, all_take, split}
use Rattle.simulation.proofs.Ordered.{Rising, elem_at, elem_index, rising-take, ascending}
use Rattle.session.specs.Limits.{max_states, max_nodes, max_edges, max_changes, fixed_size, word_bits}
use Rattle.session.specs.Trigger.{states, nodes, edge_number}
use Rattle.session.specs.Layout.{table, below}
use Rattle.session.proofs.Tables.{length-table, get_or-table, table_same, table_of, below-take, below_make}
use Rattle.session.proofs.Valid.{TriggerFacts, GraphFacts}
use Rattle.promises.specs.Rules.{verdict, Given, given_trigger, given_graph, precedes, load_rules}
use Rattle.promises.specs.Model.{Model, freshly}
use Rattle.promises.proofs.Verdicts.{verdict_skip, verdict_pass, verdict-none}

-- (a, b) is before (c, d) just where its number is smaller
precedes-less : (a b c d : ℕ) → b < max_nodes → precedes a b c d ≡ true → edge_number a b < edge_number c d
precedes-less a b c d l h =
    ⊎_elim
    (λ e. omega (arith, ltb-true a c e))
    (λ e. omega (arith, eqb-true a c (and_l (eqb a c) (ltb b d) e), ltb-true b d (and_r (eqb a c) (ltb b d) e)))
    (or-take (ltb a c) (eqb a c && ltb b d) h)

less-precedes : (e f : ℕ) → e < f → precedes (e / max_nodes) (e % max_nodes) (f / max_nodes) (f % max_nodes) ≡ true
less-precedes e f l =
    ⊎_elim
    (λ h. or_l (eqb (e / max_nodes) (f / max_nodes) && ltb (e % max_nodes) (f % max_nodes)) h)
    (λ h.
    let ge = ltb-false (e / max_nodes) (f / max_nodes) h in
    let same : e / max_nodes ≡ f / max_nodes = omega arith in
    let less : e % max_nodes < f % max_nodes = omega arith in
    or_r (ltb (e / max_nodes) (f / max_nodes))
    (and_make (eq-eqb (e / max_nodes) (f / max_nodes) same) (lt-ltb (e % max_nodes) (f % max_nodes) less)))
    (split (ltb (e / max_nodes) (f / max_nodes)))

-- ---- what an accepted load gives is valid

module _ (memory room : ℕ) (x : Given) (ok : verdict (load_rules memory room x) ≡ 0) where
  abbrev n : ℕ
  n = length x.masks

  abbrev e : ℕ
  e = length x.starts

  abbrev ascending-row : Bool
  ascending-row = all_below (e - 1) (λ k. precedes (get_or x.starts k 0) (get_or x.ends k 0) (get_or x.starts (suc k) 0) (get_or x.ends (suc k) 0))

  -- the rules that were passed, one by one
  record Passed : Type 0 where
    memory_fits : ltb memory fixed_size || ltb room max_changes ≡ false
    states_fit : ((eqb n 0 || ltb max_states n)
        || ((not (eqb (length x.values) n) || not (eqb (length x.links) n)) || not (ltb x.inverted (2 ^ n)))) ≡ false
    links_fit : not (below (2 ^ n) x.links) ≡ false
    nodes_fit : ltb max_nodes (length x.samples) ≡ false
    edges_fit : (ltb max_edges e || not (eqb (length x.ends) e)) ≡ false
    named : not (below (length x.samples) x.starts && below (length x.samples) x.ends) ≡ false
    ascend : not ascending-row ≡ false

  passed : Passed
  passed =
      let r3 = verdict_pass 3 _ _ (omega arith) ok in
      let r4 = verdict_pass 4 _ _ (omega arith) r3.1 in
      let r5 = verdict_pass 5 _ _ (omega arith) r4.1 in
      let r6 = verdict_pass 6 _ _ (omega arith) r5.1 in
      let r7 = verdict_pass 7 _ _ (omega arith) r6.1 in
      let r8 = verdict_pass 8 _ _ (omega arith) r7.1 in
      let r9 = verdict_pass 9 _ _ (omega arith) r8.1 in
      record {
        memory_fits = r3.0;
        states_fit = r4.0;
        links_fit = r5.0;
        nodes_fit = r6.0;
        edges_fit = r7.0;
        named = r8.0;
        ascend = r9.0;
      }

  pub load-long : fixed_size ≤ memory
  load-long = ltb-false memory fixed_size (or_false_l (ltb memory fixed_size) (ltb room max_changes) passed.memory_fits)

  pub load-room : max_changes ≤ room
  load-room = ltb-false room max_changes (or_false_r (ltb memory fixed_size) (ltb room max_changes) passed.memory_fits)

  states-whole : ((eqb n 0 || ltb max_states n) ≡ false) × ((not (eqb (length x.values) n) || not (eqb (length x.links) n)) ≡ false)
      × (not (ltb x.inverted (2 ^ n)) ≡ false)
  states-whole =
      let few = eqb n 0 || ltb max_states n in
      let whole = not (eqb (length x.values) n) || not (eqb (length x.links) n) in
      let turned = not (ltb x.inverted (2 ^ n)) in
      let rest = or_false_r few (whole || turned) passed.states_fit in
      (or_false_l few (whole || turned) passed.states_fit, or_false_l whole turned rest, or_false_r whole turned rest)

  -- how long the memory and the lists are
  pub load-counts : (fixed_size ≤ memory) × (length x.masks ≤ max_states)
      × (length x.values ≡ length x.masks) × (length x.links ≡ length x.masks)
      × (length x.samples ≤ max_nodes) × (length x.starts ≤ max_edges) × (length x.ends ≡ length x.starts)
  load-counts = (
    load-long,
    ltb-false max_states n (or_false_r (eqb n 0) (ltb max_states n) states-whole.0),
    same-long x.values n (or_false_l (not (eqb (length x.values) n)) (not (eqb (length x.links) n)) states-whole.1),
    same-long x.links n (or_false_r (not (eqb (length x.values) n)) (not (eqb (length x.links) n)) states-whole.1),
    ltb-false max_nodes (length x.samples) passed.nodes_fit,
    ltb-false max_edges e (or_false_l (ltb max_edges e) (not (eqb (length x.ends) e)) passed.edges_fit),
    same-long x.ends e (or_false_r (ltb max_edges e) (not (eqb (length x.ends) e)) passed.edges_fit),
  )
    where
      same-long : (ys : List ℕ) (k : ℕ) → not (eqb (length ys) k) ≡ false → length ys ≡ k
      same-long ys k h = eqb-true (length ys) k (not-false (eqb (length ys) k) h)

  pub load-trigger : below (2 ^ word_bits) x.masks ≡ true → below (2 ^ word_bits) x.values ≡ true → TriggerFacts (given_trigger x)
  load-trigger masks values = record {
    some = positive n (eqb-false n 0 (or_false_l (eqb n 0) (ltb max_states n) states-whole.0));
    few = load-counts.1;
    values = load-counts.2;
    links = load-counts.3;
    masks_fit = masks;
    values_fit = values;
    links_fit = not-false (below (2 ^ n) x.links) passed.links_fit;
    inverted_fit = ltb-true x.inverted (2 ^ n) (not-false (ltb x.inverted (2 ^ n)) states-whole.2);
  }
    where
      positive : (k : ℕ) → (k ≡ 0 → ⊥) → 1 ≤ k
      positive k ne = omega arith

  abbrev code : ℕ → ℕ
  code k = edge_number (get_or x.starts k 0) (get_or x.ends k 0)

  few_nodes : length x.samples ≤ max_nodes
  few_nodes = load-counts.4

  start-inside : (k : ℕ) → k < e → get_or x.starts k 0 < length x.samples
  start-inside k l =
      below-take (length x.samples) x.starts
      (and_l (below (length x.samples) x.starts) (below (length x.samples) x.ends) (not-false _ passed.named)) k l

  end-inside : (k : ℕ) → k < e → get_or x.ends k 0 < length x.samples
  end-inside k l =
      below-take (length x.samples) x.ends
      (and_r (below (length x.samples) x.starts) (below (length x.samples) x.ends) (not-false _ passed.named)) k (omega (arith, load-counts.6))

  code-ends : (y : ℕ) → elem y (table e code) ≡ true → (y / max_nodes < length x.samples) × (y % max_nodes < length x.samples)
  code-ends y h =
      let i = elem_index y (table e code) h in
      let k = i.0 in
      let l : k < e = rw (length-table e code) at i.1 in
      let is : code k ≡ y = sym (get_or-table e code k l) ∙ i.2 in
      let a = start-inside k l in
      let b = end-inside k l in
      let few = few_nodes in
      (omega arith, omega arith)

  -- what writing the edges needs
  pub load-edges : (below max_nodes x.starts ≡ true) × (below max_nodes x.ends ≡ true)
  load-edges = (
    below_make max_nodes x.starts (λ k l. omega (arith, start-inside k l, few_nodes)),
    below_make max_nodes x.ends (λ k l. omega (arith, end-inside k (omega (arith, load-counts.6)), few_nodes)),
  )

  -- a load that breaks no rule breaks none in any room that is long enough
  pub load_elsewhere : (room' : ℕ) → max_changes ≤ room' → verdict (load_rules memory room' x) ≡ 0
  load_elsewhere room' wide =
      verdict_skip 3 (ltb memory fixed_size || ltb room' max_changes) _ (or-none (le-ltb memory fixed_size load-long) (le-ltb room' max_changes wide))
      ∙ (verdict_pass 3 (ltb memory fixed_size || ltb room max_changes) _ (omega arith) ok).1

  codes_rise : Rising (table e code)
  unfolding ascends
  codes_rise = rising-take (table e code)
      (all_make (length (table e code) - 1) (λ k. ltb (get_or (table e code) k 0) (get_or (table e code) (k + 1) 0))
      (λ k l.
      let long = length-table e code in
      let here : k < e = omega arith in
      let next : k + 1 < e = omega arith in
      lt-ltb (get_or (table e code) k 0) (get_or (table e code) (k + 1) 0)
      (rw (get_or-table e code k here, get_or-table e code (k + 1) next, add-one k)
      (precedes-less (get_or x.starts k 0) (get_or x.ends k 0) (get_or x.starts (suc k) 0) (get_or x.ends (suc k) 0)
      (omega (arith, end-inside k here, few_nodes))
      (all_take (e - 1) (λ k. precedes (get_or x.starts k 0) (get_or x.ends k 0) (get_or x.starts (suc k) 0) (get_or x.ends (suc k) 0))
      (not-false ascending-row passed.ascend) k (omega arith))))))

  pub load-graph : below (2 ^ word_bits) x.samples ≡ true → GraphFacts (given_graph x)
  load-graph samples = record {
    few = few_nodes;
    samples_fit = samples;
    few_edges = rw (length-table e code) load-counts.5;
    starts = λ y h. (code-ends y h).0;
    ends = λ y h. (code-ends y h).1;
    rising = codes_rise;
  }

-- ---- a fresh load of what is valid

module _ (b : Model) (tf : TriggerFacts b.trigger) (gf : GraphFacts b.graph) where
  abbrev es : List ℕ
  es = b.graph.edges

  start-at : (k : ℕ) → get_or (freshly b).starts k 0 ≡ get_or es k 0 / max_nodes
  start-at k = get_or-map (λ (y : ℕ). y / max_nodes) es k 0

  end-at : (k : ℕ) → get_or (freshly b).ends k 0 ≡ get_or es k 0 % max_nodes
  end-at k = get_or-map (λ (y : ℕ). y % max_nodes) es k 0

  starts-long : length (freshly b).starts ≡ length es
  starts-long = length-map es (λ (y : ℕ). y / max_nodes)

  ends-long : length (freshly b).ends ≡ length es
  ends-long = length-map es (λ (y : ℕ). y % max_nodes)

  -- it gives the model's graph again
  pub fresh-graph : given_graph (freshly b) ≡ b.graph
  fresh-graph =
      ap (λ (l : List ℕ). record { samples = b.graph.samples; edges = l })
      (table_same (length (freshly b).starts) (λ k. edge_number (get_or (freshly b).starts k 0) (get_or (freshly b).ends k 0)) (λ k. get_or es k 0)
      (λ k l. rw (start-at k, end-at k) (div-add-mod' (get_or es k 0) max_nodes))
      ∙ ap (λ (k : ℕ). table k (λ i. get_or es i 0)) starts-long ∙ table_of es)

  pub fresh-accepted : (memory room : ℕ) → fixed_size ≤ memory → max_changes ≤ room → verdict (load_rules memory room (freshly b)) ≡ 0
  fresh-accepted memory room long wide =
      verdict-none (load_rules memory room (freshly b)) (
        or-none (le-ltb memory fixed_size long) (le-ltb room max_changes wide),
        (
          or-none
              (or-none (ne_eqb n 0 (λ z. absurd (omega (arith, tf.some)))) (le-ltb max_states n tf.few))
              (or-none (or-none (ap not (eq-eqb _ n tf.values)) (ap not (eq-eqb _ n tf.links))) (ap not (lt-ltb b.trigger.inverted (2 ^ n) tf.inverted_fit))),
          (
            ap not tf.links_fit,
            (
              le-ltb max_nodes (nodes b.graph) gf.few,
              (
                or-none (le-ltb max_edges m (omega (arith, gf.few_edges, starts-long))) (ap not (eq-eqb (length (freshly b).ends) m (ends-long ∙ sym starts-long))),
                (
                  ap not (and_make
                      (below_make (nodes b.graph) (freshly b).starts (λ k l. rw (start-at k) (gf.starts (get_or es k 0) (elem_at es k (omega (arith, starts-long))))))
                      (below_make (nodes b.graph) (freshly b).ends (λ k l. rw (end-at k) (gf.ends (get_or es k 0) (elem_at es k (omega (arith, ends-long))))))),
                  (
                    ap not (all_make (m - 1) row-ascends
                        (λ k l.
                        rw (start-at k, end-at k, start-at (suc k), end-at (suc k))
                        (less-precedes (get_or es k 0) (get_or es (suc k) 0) (ascending es gf.rising k (suc k) (omega arith) (omega (arith, starts-long)))))),
                    tt,
                  ),
                ),
              ),
            ),
          ),
        ),
      )
    where
      n : ℕ
      n = states b.trigger

      m : ℕ
      m = length (freshly b).starts

      row-ascends : ℕ → Bool
      row-ascends k = precedes (get_or (freshly b).starts k 0) (get_or (freshly b).ends k 0) (get_or (freshly b).starts (suc k) 0) (get_or (freshly b).ends (suc k) 0)
