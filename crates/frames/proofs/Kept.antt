-- The states and nodes read so far, with one more.
use Prim.Native.Nat.{ℕ, ◌+◌, ◌-◌, ◌^◌, ◌%◌, ◌<◌, ◌≤◌}
use native.Mathlib.Nat.{pow-succ', mod-lt, mod-eq_of_lt}
use native.Mathlib.Numerals.{add-one}
use native.Mathlib.Omega.{arith}
use mathlib.Core.Path.{◌≡◌, ◌∙◌, ap, ap₂, subst}
use mathlib.Core.Bool.{Bool, true, false, cond}
use mathlib.Core.List.{List, [], ◌∷◌, ◌++◌}
use lib.ListN.{length, get_or, set, take, drop, length-set, length-drop}
use lib.Pow.{pow_pos}
use lib.Seq.{get_or-set_same, get_or-set_other, length-take-le, take-set-le, drop-set-lt, drop-set-add, take-suc-set}
use Rattle.session.specs.Limits.{max_states, max_nodes}
use Rattle.session.specs.Layout.{part}
use Rattle.frames.specs.Machine.{
  Memory,
  inverted_in,
  links_in,
  values_in,
  samples_in,
  states_read,
  nodes_read,
  Ready,
  inverted_read,
  read_so_far,
  state_kept,
  node_kept,
}
use Rattle.frames.specs.Moments.{with_state, with_node}

-- ---- a part of a list in which one place is written

module _ (xs : List ℕ) (at n a : ℕ) where
  -- the place after it
  part-more : at + n < length xs → part (set xs (at + n) a) at (n + 1) ≡ part xs at n ++ (a ∷ [])
  part-more l =
      ap₂ take (add-one n) (drop-set-add at xs n a) ∙ take-suc-set (drop at xs) n a (omega (arith, length-drop at xs))

  -- a place past it
  part-past : (i : ℕ) → at + n ≤ i → part (set xs i a) at n ≡ part xs at n
  part-past i l =
      subst (λ (j : ℕ). part (set xs j a) at n ≡ part xs at n) (let e : at + (i - at) ≡ i = omega arith in e)
      (ap (take n) (drop-set-add at xs (i - at) a) ∙ take-set-le n (drop at xs) (i - at) a (omega arith))

  -- a place before it
  part_ahead : (i : ℕ) → i < at → part (set xs i a) at n ≡ part xs at n
  part_ahead i l = ap (take n) (drop-set-lt at xs i a l)

-- ---- the next bit

-- the bits below n, and bit n or not, are a number of n + 1 bits
pub next_bit : (b : Bool) (w n : ℕ) → w % 2 ^ n + cond b (2 ^ n) 0 < 2 ^ (n + 1)
next_bit true w n = rw (add-one n) (omega (arith, mod-lt w (pow_pos n), pow-succ' 2 n))
next_bit false w n = rw (add-one n) (omega (arith, mod-lt w (pow_pos n), pow-succ' 2 n))

-- ---- long enough, and as many as there may be

module _ (m : Memory) (r : Ready m) where
  abbrev n : ℕ
  n = states_read m

  abbrev k : ℕ
  k = nodes_read m

  -- as many masks as states
  pub masks-many : length (read_so_far m).masks ≡ states_read m
  unfolding read_so_far
  masks-many = length-take-le n m.words (omega (arith, r.words, r.few_states))

  module _ (inverted : Bool) (mask value links : ℕ) (room : states_read m < max_states) where
    abbrev linked : List ℕ
    linked = set m.counts (links_in + states_read m) links

    abbrev turned : List ℕ
    turned = set linked inverted_in (inverted_read m + cond inverted (2 ^ states_read m) 0)

    abbrev masked : List ℕ
    masked = set m.words (states_read m) mask

    turned-length : length turned ≡ length m.counts
    turned-length = simp length-set

    counted : get_or (set turned 1 (n + 1)) 1 0 ≡ n + 1
    counted = get_or-set_same turned 1 (n + 1) 0 (omega (arith, turned-length, r.counts))

    others : (i : ℕ) → (i ≡ 1 → ⊥) → i < inverted_in → get_or (set turned 1 (n + 1)) i 0 ≡ get_or m.counts i 0
    others i ne l =
        get_or-set_other turned 1 i (n + 1) 0 ne
        ∙ get_or-set_other linked inverted_in i _ 0 (λ e. absurd (omega (arith, e)))
        ∙ get_or-set_other m.counts (links_in + n) i links 0 (λ e. absurd (omega (arith, e)))

    pub state-moment : get_or (state_kept m inverted mask value links).counts 0 0 ≡ get_or m.counts 0 0
    state-moment = others 0 (λ e. absurd (omega (arith, e))) (omega arith)

    -- the inverted ones among the states read, the new state with them
    state-inverted : inverted_read (state_kept m inverted mask value links) ≡ inverted_read m + cond inverted (2 ^ n) 0
    state-inverted =
        ap₂ (λ (w k : ℕ). w % 2 ^ k)
        (get_or-set_other turned 1 inverted_in (n + 1) 0 (λ e. absurd (omega (arith, e)))
        ∙ get_or-set_same linked inverted_in _ 0 (omega (arith, length-set m.counts (links_in + n) links, r.counts)))
        counted
        ∙ mod-eq_of_lt (next_bit inverted (get_or m.counts inverted_in 0) n)

    pub state-read : read_so_far (state_kept m inverted mask value links) ≡ with_state (read_so_far m) inverted mask value links
    unfolding read_so_far
    state-read =
        let masks : part (set masked (values_in + n) value) 0 (n + 1) ≡ part m.words 0 n ++ (mask ∷ []) =
        part-past masked 0 (n + 1) value (values_in + n) (omega arith)
        ∙ ap (λ (i : ℕ). part (set m.words i mask) 0 (n + 1)) (let e : n ≡ 0 + n = omega arith in e)
        ∙ part-more m.words 0 n mask (omega (arith, r.words)) in
        let values : part (set masked (values_in + n) value) values_in (n + 1) ≡ part m.words values_in n ++ (value ∷ []) =
        part-more masked values_in n value (omega (arith, length-set m.words n mask, r.words))
        ∙ ap (λ (ws : List ℕ). ws ++ (value ∷ [])) (part_ahead m.words values_in n mask n (omega arith)) in
        let linkeds : part (set turned 1 (n + 1)) links_in (n + 1) ≡ part m.counts links_in n ++ (links ∷ []) =
        part_ahead turned links_in (n + 1) (n + 1) 1 (omega arith)
        ∙ part_ahead linked links_in (n + 1) _ inverted_in (omega arith)
        ∙ part-more m.counts links_in n links (omega (arith, r.counts)) in
        let samples : part (set masked (values_in + n) value) samples_in k ≡ part m.words samples_in k =
        part_ahead masked samples_in k value (values_in + n) (omega arith) ∙ part_ahead m.words samples_in k mask n (omega arith) in
        rw (state-inverted, counted, others 2 (λ e. absurd (omega (arith, e))) (omega arith), masks, values, linkeds, samples, masks-many)

    pub state-ready : Ready (state_kept m inverted mask value links)
    state-ready = record {
      counts = omega (arith, r.counts, length-set turned 1 (n + 1), turned-length);
      words = omega (arith, r.words, length-set masked (values_in + n) value, length-set m.words n mask);
      session = r.session;
      few_states = omega (arith, counted);
      few_nodes = omega (arith, others 2 (λ e. absurd (omega (arith, e))) (omega arith), r.few_nodes);
    }

  module _ (sample : ℕ) (room : nodes_read m < max_nodes) where
    node-counted : get_or (set m.counts 2 (k + 1)) 2 0 ≡ k + 1
    node-counted = get_or-set_same m.counts 2 (k + 1) 0 (omega (arith, r.counts))

    node-others : (i : ℕ) → (i ≡ 2 → ⊥) → get_or (set m.counts 2 (k + 1)) i 0 ≡ get_or m.counts i 0
    node-others i ne = get_or-set_other m.counts 2 i (k + 1) 0 ne

    pub node-moment : get_or (node_kept m sample).counts 0 0 ≡ get_or m.counts 0 0
    node-moment = node-others 0 (λ e. absurd (omega (arith, e)))

    pub node-read : read_so_far (node_kept m sample) ≡ with_node (read_so_far m) sample
    unfolding read_so_far
    node-read =
        rw (
          node-counted,
          node-others 1 (λ e. absurd (omega (arith, e))),
          node-others inverted_in (λ e. absurd (omega (arith, e))),
          part-past m.words 0 n sample (samples_in + k) (omega (arith, r.few_states)),
          part-past m.words values_in n sample (samples_in + k) (omega (arith, r.few_states)),
          part_ahead m.counts links_in n (k + 1) 2 (omega arith),
          part-more m.words samples_in k sample (omega (arith, r.words)),
        )

    pub node-ready : Ready (node_kept m sample)
    node-ready = record {
      counts = omega (arith, r.counts, length-set m.counts 2 (k + 1));
      words = omega (arith, r.words, length-set m.words (samples_in + k) sample);
      session = r.session;
      few_states = omega (arith, node-others 1 (λ e. absurd (omega (arith, e))), r.few_states);
      few_nodes = omega (arith, node-counted);
    }
