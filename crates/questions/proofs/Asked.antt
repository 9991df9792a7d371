-- The questions: the rules row by row, what a verdict of 0 tells, and the answers as the code reads them.
use Prim.Native.Nat.{ℕ, zero, suc, ◌+◌, ◌<◌, ◌≤◌}
use native.Mathlib.Omega.{arith}
use mathlib.Core.Path.{◌≡◌, refl, sym, ◌∙◌, ap, ap₂}
use mathlib.Core.Bool.{Bool, true, not, ◌&&◌, cond}
use mathlib.Core.List.{List, [], ◌∷◌, ◌++◌, map}
use lib.Dec.{ltb, leb, eqb}
use lib.ListN.{length, get_or}
use borrow.Author.Tests.{ltb-true, lt-ltb, le-ltb, leb-true, le-leb, ne_eqb, not-false}
use Rattle.simulation.specs.Ordered.{elem}
use Rattle.simulation.proofs.Sets.{refuted, not_make, and_make, and_l, and_r}
use Rattle.bits.specs.Word.{members}
use Rattle.session.specs.Limits.{fixed_size, marks_at}
use Rattle.session.specs.Trigger.{Trigger, states, nodes, linked}
use Rattle.session.specs.Reached.{linked_by}
use Rattle.session.specs.Layout.{trigger_of, graph_of, marks_of, in_layout, marks_in}
use Rattle.session.proofs.Decoded.{layout-facts, layout_limits}
use Rattle.listing.specs.Order.{fold, visit, order}
use Rattle.walk_order.specs.Walks.{rest}
use Rattle.listing.proofs.Orders.{fold_same}
use Rattle.promises.specs.Rules.{Rule, rule, verdict, question_rules, pair_rules}
use Rattle.promises.specs.Answers.{accepted, refused, outcome}
use Rattle.promises.proofs.Verdicts.{verdict_pass, row-passed, row-broken, rows_end, rows-broken}
use Rattle.promises.proofs.Passed.{question-passed}
use Rattle.promises.proofs.Demands.{outcome-refused}

-- ---- the rules

module _ (xs : List ℕ) (more : List Rule) where
  -- rules 3 and 10: broken, held, and what they tell
  pub question-short : length xs < fixed_size → 3 ≡ verdict (question_rules xs more)
  question-short l = row-broken 3 _ _ _ refl (lt-ltb (length xs) fixed_size l)

  held_3 : fixed_size ≤ length xs → (k : ℕ) → k ≡ verdict (rule 10 (not (in_layout xs)) ∷ more) → k ≡ verdict (question_rules xs more)
  held_3 l k e = row-passed 3 _ _ _ refl k (le-ltb (length xs) fixed_size l) e

  pub question_loose : fixed_size ≤ length xs → not (in_layout xs) ≡ true → 10 ≡ verdict (question_rules xs more)
  question_loose l b = held_3 l 10 (row-broken 10 _ _ _ refl b)

  pub question-held : in_layout xs ≡ true → (k : ℕ) → k ≡ verdict more → k ≡ verdict (question_rules xs more)
  question-held h k e = held_3 (layout_limits xs h).long k (row-passed 10 _ _ _ refl k (ap not h) e)

  -- what breaks one of them breaks the same with more rules
  pub question-broken : (n : ℕ) → n ≡ verdict (question_rules xs []) → (n ≡ 0 → ⊥) → n ≡ verdict (question_rules xs more)
  question-broken = rows-broken (question_rules xs []) more

pub question-none : (xs : List ℕ) → in_layout xs ≡ true → 0 ≡ verdict (question_rules xs [])
question-none xs h = question-held xs [] h 0 rows_end

module _ (xs : List ℕ) (state v : ℕ) where
  -- a state by its number, and a node, by the counts that are held
  pub record Named : Type 0 where
    pub some : 1 ≤ state
    pub state_held : state ≤ get_or xs 0 0
    pub node_held : v < get_or xs 1 0

  abbrev named : Bool
  named = (leb 1 state && leb state (states (trigger_of xs))) && ltb v (nodes (graph_of xs))

  named-take : in_layout xs ≡ true → named ≡ true → Named
  named-take h e =
      let c = (layout-facts xs h).counts in
      let a = leb 1 state in
      let b = leb state (states (trigger_of xs)) in
      let d = ltb v (nodes (graph_of xs)) in
      let ab = and_l (a && b) d e in
      record {
        some = leb-true 1 state (and_l a b ab);
        state_held = rw c.0 (leb-true state (states (trigger_of xs)) (and_r a b ab));
        node_held = rw c.1 (ltb-true v (nodes (graph_of xs)) (and_r (a && b) d e));
      }

  named_make : in_layout xs ≡ true → Named → named ≡ true
  named_make h n =
      let c = (layout-facts xs h).counts in
      and_make
      (and_make (le-leb 1 state n.some) (le-leb state (states (trigger_of xs)) (rw c.0 at n.state_held)))
      (lt-ltb v (nodes (graph_of xs)) (rw c.1 at n.node_held))

  -- rule 11: broken, held, and what it tells
  pub pair_wrong : in_layout xs ≡ true → (Named → ⊥) → 11 ≡ verdict (pair_rules xs state v)
  pair_wrong h bad = question-held xs _ h 11 (row-broken 11 _ _ _ refl (not_make (refuted named (λ e. bad (named-take h e)))))

  pub pair-none : in_layout xs ≡ true → Named → 0 ≡ verdict (pair_rules xs state v)
  pair-none h n = question-held xs _ h 0 (row-passed 11 _ _ _ refl 0 (ap not (named_make h n)) rows_end)

  pub pair-broken : (n : ℕ) → n ≡ verdict (question_rules xs []) → (n ≡ 0 → ⊥) → n ≡ verdict (pair_rules xs state v)
  pair-broken = question-broken xs (rule 11 (not named) ∷ [])

  pub pair-passed : verdict (pair_rules xs state v) ≡ 0 → (in_layout xs ≡ true) × Named
  pair-passed z =
      let q = question-passed xs (rule 11 (not named) ∷ []) z in
      let p = verdict_pass 11 (not named) [] (omega arith) q.1 in
      (q.0, named-take q.0 (not-false named p.0))

-- ---- the answers, by the rule that was found

module _ {A : Type 0} (broken n : ℕ) (e : broken ≡ n) where
  pub answer-refused : (a : A) → (broken ≡ 0 → ⊥) → refused broken ≡ outcome n a
  answer-refused a bad = sym (outcome-refused broken a bad) ∙ ap (λ (k : ℕ). outcome k a) e

  pub answer-accepted : (b a : A) → broken ≡ 0 → b ≡ a → accepted b ≡ outcome n a
  answer-accepted b a ok same = ap (λ (x : A). accepted x) same ∙ ap (λ (k : ℕ). outcome k a) (sym ok ∙ e)

module _ (broken n : ℕ) (e : broken ≡ n) (ys : List ℕ) where
  pub none-listed : (broken ≡ 0 → ⊥) → [] ≡ cond (eqb n 0) ys []
  none-listed bad = rw (← e, ne_eqb broken 0 bad)

  pub all_listed : broken ≡ 0 → ys ≡ cond (eqb n 0) ys []
  all_listed ok = rw (← e, ok)

-- ---- the marks that are held

module _ (xs : List ℕ) where
  pub mark_held : (u v : ℕ) → u < get_or xs 0 0 → v < get_or xs 1 0 → members (get_or xs (marks_at + v) 0) u ≡ marks_of xs u v
  unfolding marks_in
  mark_held u v l k = rw (lt-ltb u (get_or xs 0 0) l, lt-ltb v (get_or xs 1 0) k)

-- ---- the order depends on the count and the links alone

module _ (t t' : Trigger) (count : states t ≡ states t') (links : t.links ≡ t'.links) where
  linked-same : (u u' : ℕ) → linked t u u' ≡ linked t' u u'
  unfolding linked
  linked-same u u' = ap (λ (ls : List ℕ). members (get_or ls u 0) u') links

  visit-same : (depth u : ℕ) (xs : List ℕ) → visit t depth u xs ≡ visit t' depth u xs
  unfolding visit
  visit-same zero u xs = refl
  visit-same (suc depth) u xs =
      ap (λ (zs : List ℕ). cond (elem u xs) xs zs)
      (fold_same (λ ys. Unit {0}) (states t)
      (λ u' ys. cond (linked t u u') (visit t depth u' ys) ys) (λ u' ys. cond (linked t' u u') (visit t' depth u' ys) ys) (xs ++ (u ∷ []))
      (λ u' ys l p. tt)
      (λ u' ys l p. ap₂ (λ (b : Bool) (zs : List ℕ). cond b zs ys) (linked-same u u') (visit-same depth u' ys))
      tt
      ∙ ap (λ (n : ℕ). fold n (λ u' ys. cond (linked t' u u') (visit t' depth u' ys) ys) (xs ++ (u ∷ []))) count)

  pub order_same : order t ≡ order t'
  unfolding order
  order_same =
      ap₂ (λ (n : ℕ) (zs : List ℕ). map (λ u. u + 1) (rest n zs)) count
      (visit-same (states t) 0 [] ∙ ap (λ (n : ℕ). visit t' n 0 []) count)

module _ (xs : List ℕ) (h : in_layout xs ≡ true) where
  pub asked-order : order (linked_by (trigger_of xs).links) ≡ order (trigger_of xs)
  asked-order = order_same (linked_by (trigger_of xs).links) (trigger_of xs) (layout-facts xs h).trigger.links refl
