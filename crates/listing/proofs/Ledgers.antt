-- What a change list tells of one pair: its change and nothing else. So, of lists one after the other, additions less removals are the difference of the
-- pair's marks, and signs alternate.
use Prim.Native.Nat.{ℕ, zero, suc, ◌+◌, ◌*◌, ◌/◌, ◌%◌, ◌<◌, ◌≤◌}
use native.Mathlib.Nat.{div-add-mod', mod-lt, eq-or-lt_of_le}
use native.Mathlib.Omega.{arith}
use mathlib.Core.Path.{◌≡◌, refl, sym, ◌∙◌, ap, ap₂}
use mathlib.Core.Logic.{⊎_elim}
use mathlib.Core.Bool.{Bool, true, false, cond}
use mathlib.Core.List.{List, [], ◌∷◌, ◌++◌, append-nil}
use lib.Dec.{ltb, eqb}
use lib.IntN.{ℤ, pos, negsuc, neg_ℤ, nat_abs, sub_ℕ, ◌-ℤ◌}
use borrow.Author.Tests.{ltb-true, ltb-false, lt-ltb, le-ltb, eqb-true, eq-eqb, ne_eqb}
use Rattle.simulation.proofs.Sets.{split, clash, refuted}
use Rattle.simulation.proofs.Edges.{edge-ends}
use Rattle.simulation.proofs.Pattern.{pair-state, pair-node, pair_inside}
use Rattle.session.specs.Trigger.{Trigger, Graph, Marks, states, nodes, pattern}
use Rattle.listing.specs.Changes.{size_of, signed, change, join_to, changes, node_span}
use Rattle.listing.specs.Ledger.{equal, times, ledger, standing, entries, Alternate}
use Rattle.listing.proofs.Lists.{change-size, join_none}

-- ---- lists one after the other

pub entries-append : (n : ℕ) (xs ys : List ℤ) → entries n (xs ++ ys) ≡ entries n xs ++ entries n ys
unfolding entries
entries-append n [] ys = refl
entries-append n (z ∷ xs) ys = by (eqb (nat_abs z) n) (entries-append n xs ys)
  where
    by : (b : Bool) {l : List ℤ} → l ≡ entries n xs ++ entries n ys → cond b (z ∷ l) l ≡ cond b (z ∷ entries n xs) (entries n xs) ++ entries n ys
    by true e = ap (λ (l : List ℤ). z ∷ l) e
    by false e = e

pub times-append : (z : ℤ) (xs ys : List ℤ) → times z (xs ++ ys) ≡ times z xs + times z ys
unfolding times
times-append z [] ys = omega arith
times-append z (x ∷ xs) ys = by (equal x z) (times-append z xs ys)
  where
    by : (b : Bool) {k : ℕ} → k ≡ times z xs + times z ys → cond b (suc k) k ≡ cond b (suc (times z xs)) (times z xs) + times z ys
    by true e = omega arith
    by false e = e

-- ---- the entries of one pair

signed-size : (up : Bool) (n : ℕ) → nat_abs (signed up n) ≡ n
signed-size true n = refl
signed-size false n = change-size n

equal-size : (x z : ℤ) → equal x z ≡ true → nat_abs x ≡ nat_abs z
equal-size (pos a) (pos b) h = eqb-true a b h
equal-size (negsuc a) (negsuc b) h = ap suc (eqb-true a b h)
equal-size (pos a) (negsuc b) h = clash h refl
equal-size (negsuc a) (pos b) h = clash h refl

-- a number of this size is counted among the entries of this size
pub times-entries : (up : Bool) (n : ℕ) (xs : List ℤ) → times (signed up n) xs ≡ times (signed up n) (entries n xs)
unfolding times entries
times-entries up n [] = refl
times-entries up n (x ∷ xs) =
    ⊎_elim
    (λ (e : eqb (nat_abs x) n ≡ true). rw (e, times-entries up n xs))
    (λ (e : eqb (nat_abs x) n ≡ false).
    let other : equal x (signed up n) ≡ false =
    refuted (equal x (signed up n)) (λ h. clash (eq-eqb (nat_abs x) n (equal-size x (signed up n) h ∙ signed-size up n)) e) in
    rw (e, other) (times-entries up n xs))
    (split (eqb (nat_abs x) n))

-- a change has one entry of its own size, and none of another
entries-same : (b c : Bool) (n : ℕ) → entries n (change b c n) ≡ change b c n
unfolding entries
entries-same false true n = rw (eq-eqb n n refl)
entries-same true false n = rw (eq-eqb (nat_abs (neg_ℤ (pos n))) n (change-size n))
entries-same true true n = refl
entries-same false false n = refl

entries_other : (b c : Bool) (n m : ℕ) → (m ≡ n → ⊥) → entries n (change b c m) ≡ []
unfolding entries
entries_other false true n m no_same = rw (ne_eqb m n no_same)
entries_other true false n m no_same = rw (ne_eqb (nat_abs (neg_ℤ (pos m))) n (λ e. no_same (sym (change-size m) ∙ e)))
entries_other true true n m no_same = refl
entries_other false false n m no_same = refl

entries_join : (n k : ℕ) (f : ℕ → List ℤ) → entries n (join_to k f) ≡ join_to k (λ p. entries n (f p))
unfolding join_to entries
entries_join n zero f = refl
entries_join n (suc k) f = entries-append n (join_to k f) (f k) ∙ ap (λ (l : List ℤ). l ++ entries n (f k)) (entries_join n k f)

-- lists of which all but one are empty
join_only : (f : ℕ → List ℤ) (q : ℕ) → ((p : ℕ) → (p ≡ q → ⊥) → f p ≡ []) → (k : ℕ) → q < k → join_to k f ≡ f q
unfolding join_to
join_only f q h zero l = absurd (omega arith)
join_only f q h (suc k) l =
    ⊎_elim
    (λ (e : suc q ≡ suc k).
    let same : q ≡ k = omega arith in
    rw (sym same) (ap (λ (x : List ℤ). x ++ f q) (join_none f q (λ p m. h p (λ z. absurd (omega arith))))))
    (λ (e : suc q < suc k).
    rw (h k (λ z. absurd (omega arith))) (append-nil (join_to k f) ∙ join_only f q h k (omega arith)))
    (eq-or-lt_of_le l)

-- "each once": of a pair the list has its change and nothing else
module _ (t : Trigger) (g : Graph) (before after : Marks) (few : states t ≤ node_span) (u v : ℕ) (l : u < states t) (k : v < nodes g) where
  abbrev n : ℕ
  n = states t

  abbrev size : ℕ
  size = size_of u v

  abbrev one : ℕ → List ℤ
  one p = change (before (p % n) (p / n)) (after (p % n) (p / n)) (size_of (p % n) (p / n))

  -- two pairs have two sizes
  apart : (p : ℕ) → (p ≡ v * states t + u → ⊥) → size_of (p % states t) (p / states t) ≡ size_of u v → ⊥
  apart p other e =
      let some : 0 < n = omega arith in
      let r = edge-ends node_span (p / n) (p % n) v u (omega (arith, mod-lt p some, few)) (omega (arith, l, few)) (omega (arith, e)) in
      other (sym (div-add-mod' p n) ∙ ap₂ (λ (a b : ℕ). a * n + b) r.0 r.1)

  pub entries-changes : entries (size_of u v) (changes t g before after) ≡ change (before u v) (after u v) (size_of u v)
  unfolding changes
  entries-changes =
      entries_join size (nodes g * n) one
      ∙ join_only (λ p. entries size (one p)) (v * n + u)
      (λ p other. entries_other (before (p % n) (p / n)) (after (p % n) (p / n)) size (size_of (p % n) (p / n)) (apart p other))
      (nodes g * n) (pair_inside (pattern t g) u v l k)
      ∙ rw (pair-state (pattern t g) u v l, pair-node (pattern t g) u v l) (entries-same (before u v) (after u v) size)

-- ---- from one mark of a pair to another

-- What lists, one after the other, tell of a pair of size n whose mark was b before them and is c after them.
pub record Tells (n : ℕ) (b c : Bool) (list : List ℤ) : Type 0 where
  pub sums : times (signed true n) list + standing b ≡ times (signed false n) list + standing c
  pub alternate : Alternate b n (entries n list)

pub tells_none : (n : ℕ) (b : Bool) → Tells n b b []
unfolding times entries
tells_none n b = record { sums = refl; alternate = tt }

-- one change, by its two marks
change-sums : (b c : Bool) (n : ℕ) → 0 < n → times (signed true n) (change b c n) + standing b ≡ times (signed false n) (change b c n) + standing c
unfolding times
change-sums b c zero some = absurd (omega arith)
change-sums false true (suc n) some = rw (eq-eqb (suc n) (suc n) refl)
change-sums true false (suc n) some = rw (eq-eqb n n refl)
change-sums true true (suc n) some = refl
change-sums false false (suc n) some = refl

change_alternates : (b c : Bool) (n : ℕ) (zs : List ℤ) → Alternate c n zs → Alternate b n (change b c n ++ zs)
change_alternates false true n zs h = (refl, h)
change_alternates true false n zs h = (refl, h)
change_alternates true true n zs h = h
change_alternates false false n zs h = h

-- a list whose only entry of this size is the change of the pair, and lists after it
tells_then : (n : ℕ) (b c d : Bool) (list more : List ℤ) → 0 < n → entries n list ≡ change b c n → Tells n c d more → Tells n b d (list ++ more)
tells_then n b c d list more some e w = record {
  sums =
      rw (times-append (signed true n) list more, times-append (signed false n) list more, times-entries true n list, times-entries false n list, e)
      (omega (arith, change-sums b c n some, w.sums));
  alternate = rw (entries-append n list more, e) (change_alternates b c n (entries n more) w.alternate);
}

-- the change list of a call, and the lists of those after it
pub tells-changes : (t : Trigger) (g : Graph) (before after : Marks) → states t ≤ node_span → (u v : ℕ) → u < states t → v < nodes g
    → (last : Bool) (more : List ℤ) → Tells (size_of u v) (after u v) last more
    → Tells (size_of u v) (before u v) last (changes t g before after ++ more)
tells-changes t g before after few u v l k last more w =
    tells_then (size_of u v) (before u v) (after u v) last (changes t g before after) more (omega arith) (entries-changes t g before after few u v l k) w

-- ---- as integers

less-is : (a b : ℕ) → pos a -ℤ pos b ≡ sub_ℕ a b
less-is a zero = rw (le-ltb a 0 (omega arith)) (ap pos (omega arith))
less-is a (suc b) = refl

less-same : (a b c d : ℕ) → a + d ≡ b + c → sub_ℕ a b ≡ sub_ℕ c d
less-same a b c d e =
    ⊎_elim
    (λ (h : ltb a b ≡ true).
    let l = ltb-true a b h in
    rw (h, lt-ltb c d (omega arith)) (ap negsuc (omega arith)))
    (λ (h : ltb a b ≡ false).
    let l = ltb-false a b h in
    rw (h, le-ltb c d (omega arith)) (ap pos (omega arith)))
    (split (ltb a b))

pub tells-ledger : (u v : ℕ) (b c : Bool) (list : List ℤ) → Tells (size_of u v) b c list → ledger u v list ≡ pos (standing c) -ℤ pos (standing b)
unfolding ledger
tells-ledger u v b c list w =
    less-is (times (signed true (size_of u v)) list) (times (signed false (size_of u v)) list)
    ∙ less-same (times (signed true (size_of u v)) list) (times (signed false (size_of u v)) list) (standing c) (standing b) w.sums
    ∙ sym (less-is (standing c) (standing b))
