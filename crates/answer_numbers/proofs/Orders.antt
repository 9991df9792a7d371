-- The order in lent places: too few of them, an order that is listed, and one that is refused.
use Prim.Native.Nat.{ℕ, zero, suc, ◌<◌, ◌≤◌}
use native.Mathlib.Omega.{arith}
use mathlib.Core.Path.{◌≡◌, refl, sym, ◌∙◌, ap}
use mathlib.Core.Bool.{cond}
use mathlib.Core.List.{List, [], ◌++◌}
use lib.Dec.{ltb, eqb}
use lib.ListN.{length, drop}
use borrow.Author.Tests.{lt-ltb, le-ltb, ne_eqb}
use Rattle.session.specs.Limits.{max_states}
use Rattle.session.specs.Trigger.{states}
use Rattle.session.specs.Layout.{section, trigger_of}
use Rattle.session.proofs.Tables.{table_same, get_or-section}
use Rattle.listing.specs.Order.{order}
use Rattle.promises.specs.declared.StateOrder.{StateOrder}
use Rattle.std.specs.Prelude.{Ok, Err}
use Rattle.promises.specs.declared.Refusal.{Refusal}
use Rattle.promises.specs.Answers.{OrderAnswer, accepted, refused, outcome, number, told_order, places_told}
use Rattle.promises.specs.Rules.{verdict, question_rules}
use Rattle.promises.specs.Promises.{Ordered}
use Rattle.promises.proofs.Verdicts.{verdict_skip, row-broken}
use Rattle.answer_numbers.specs.Packed.{packed_count, order_number, order_rules, OrderWritten}

section_twice : (n : ℕ) (xs : List ℕ) → section n (section n xs) ≡ section n xs
unfolding section
section_twice n xs = table_same n _ _ (λ i l. get_or-section n xs i l)

-- an outcome is accepted only where no rule is broken, and refused only where one is
accepted-passed : {A : Type 0} (n : ℕ) (a b : A) → outcome n a ≡ accepted b → n ≡ 0
accepted-passed zero a b e = refl
accepted-passed (suc n) a b e = let z : ◌≡◌ {A = ℕ} 0 1 = cc e in absurd (omega arith)

refused-broken : {A : Type 0} (n m : ℕ) (a : A) → outcome n a ≡ refused m → n ≡ 0 → ⊥
refused-broken n m a e z = let w : ◌≡◌ {A = ℕ} 0 1 = cc (e, ap (λ (k : ℕ). outcome k a) z) in omega arith

module _ (s places : List ℕ) where
  pub order-short : length places < max_states → OrderWritten s places 3 places
  order-short l =
      let e : 3 ≡ verdict (order_rules s places) = row-broken 3 (ltb (length places) max_states) _ (question_rules s []) refl (lt-ltb (length places) max_states l) in
      record {
        answer = ap (λ (v : ℕ). packed_count (outcome v (states (trigger_of s)))) e;
        written = ap (λ (v : ℕ). cond (eqb v 0) (section max_states (order (trigger_of s)) ++ drop max_states places) places) e;
      }

  module _ (long : max_states ≤ length places) (r : OrderAnswer) (p : Ordered s r) (w : ℕ) (e : w ≡ order_number r) where
    abbrev asked : ℕ
    asked = verdict (question_rules s [])

    same : verdict (order_rules s places) ≡ asked
    same = verdict_skip 3 (ltb (length places) max_states) (question_rules s []) (le-ltb (length places) max_states long)

    numbered : w ≡ packed_count (outcome (verdict (order_rules s places)) (states (trigger_of s)))
    numbered = e ∙ ap packed_count p.answer ∙ sym (ap (λ (v : ℕ). packed_count (outcome v (states (trigger_of s)))) same)

    pub order-listed : (o : StateOrder) (places' : List ℕ) → r ≡ Ok o → places' ≡ section max_states o.states ++ drop max_states places
        → OrderWritten s places w places'
    order-listed o places' a h =
        let z : asked ≡ 0 = accepted-passed asked (states (trigger_of s)) o.count (sym p.answer ∙ ap told_order a) in
        record {
          answer = numbered;
          written =
              rw (same, z)
              (h ∙ ap (λ (l : List ℕ). section max_states l ++ drop max_states places) (sym (ap places_told a) ∙ p.states)
              ∙ ap (λ (l : List ℕ). l ++ drop max_states places) (section_twice max_states (cond (eqb asked 0) (order (trigger_of s)) []))
              ∙ ap (λ (v : ℕ). section max_states (cond (eqb v 0) (order (trigger_of s)) []) ++ drop max_states places) z);
        }

    pub order-refused : (rule : Refusal) → r ≡ Err rule → OrderWritten s places w places
    order-refused rule a =
        let bad : asked ≡ 0 → ⊥ = refused-broken asked (number rule) (states (trigger_of s)) (sym p.answer ∙ ap told_order a) in
        record { answer = numbered; written = rw (same, ne_eqb asked 0 bad) refl }
