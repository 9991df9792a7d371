-- What the calls tell of a session that is faithful to the model, in memory and rooms that are long enough.
use Prim.Native.Nat.{ℕ, ◌≤◌}
use mathlib.Core.Path.{◌≡◌, refl, sym, ◌∙◌, ap}
use mathlib.Core.Logic.{⊎_elim}
use mathlib.Core.List.{List, [], ◌++◌}
use lib.IntN.{ℤ}
use lib.ListN.{length, take, drop}
use borrow.Author.Tests.{le-ltb}
use Rattle.session.specs.Limits.{max_states, max_changes, fixed_size}
use Rattle.session.specs.Trigger.{Trigger, Graph, Marks, states}
use Rattle.session.specs.Layout.{section, marks_of}
use Rattle.session.proofs.Tables.{take-section}
use Rattle.listing.specs.Changes.{changes}
use Rattle.listing.specs.Order.{order}
use Rattle.listing.proofs.Orders.{order-length}
use Rattle.promises.specs.Standing.{stands, fires}
use Rattle.promises.specs.Answers.{Answer, OrderAnswer, Summary, outcome, accepted, refused, told, told_order, changes_told, handed_back, places_told}
use Rattle.promises.specs.Rules.{Kind, Given, given_trigger, given_graph, edited, verdict, load_rules, edit_rules, question_rules}
use Rattle.promises.specs.Promises.{load_list, trial_count, Loaded, Edited, Ordered}
use Rattle.promises.specs.Model.{Model, Edit, model_rules, step, editing, load_summary, edit_list, edit_summary}
use Rattle.promises.specs.Demands.{Faithful}
use Rattle.promises.proofs.Handed.{handed_back_lem}
use Rattle.promises.proofs.Verdicts.{accepts-or}
use Rattle.promises.proofs.Steps.{trigger-is, holds-trigger, in_layout_lem, same-verdict, carried, marks-after, faithful-step}
use Rattle.promises.proofs.Demands.{outcome-refused}

-- a list at the front of the room is handed back
handed_list : (r : Answer) (list room room' : List ℤ) (a : Summary) → told r ≡ accepted a → a.changes ≡ length list
    → room' ≡ list ++ drop (length list) room → handed_back room' r ≡ list
handed_list r list room room' a e n w =
    ap (λ (x : List ℤ). handed_back x r) w ∙ handed_back_lem list (drop (length list) room) r (ap changes_told e ∙ n)

-- ---- a load

module _ (x : Given) (s : List ℕ) (room : List ℤ) (long : fixed_size ≤ length s) (wide : max_changes ≤ length room) where
  -- rule 3 is met by any memory and room that are long enough
  pub same_load : verdict (load_rules (length s) (length room) x) ≡ verdict (load_rules fixed_size max_changes x)
  unfolding verdict
  same_load = rw (le-ltb (length s) fixed_size long, le-ltb (length room) max_changes wide)

  module _ (r : Answer) (s' : List ℕ) (room' : List ℤ) (p : Loaded x s room r s' room') where
    pub load_told : told r ≡ outcome (verdict (load_rules fixed_size max_changes x)) (load_summary x)
    load_told =
        ⊎_elim
        (λ ok. (p.accepts ok).1.answer ∙ ap (λ (n : ℕ). outcome n (load_summary x)) (sym ok ∙ same_load))
        (λ bad.
        (p.refuses bad).answer
        ∙ sym (outcome-refused (verdict (load_rules (length s) (length room) x)) (load_summary x) bad)
        ∙ ap (λ (n : ℕ). outcome n (load_summary x)) same_load)
        (accepts-or (verdict (load_rules (length s) (length room) x)))

    pub load-list : verdict (load_rules fixed_size max_changes x) ≡ 0 → handed_back room' r ≡ load_list (given_trigger x) (given_graph x)
    load-list ok =
        let w = (p.accepts (same_load ∙ ok)).1 in
        handed_list r (load_list (given_trigger x) (given_graph x)) room room' _ w.answer refl w.room

    pub load-untouched : (verdict (load_rules fixed_size max_changes x) ≡ 0 → ⊥) → s' ≡ s
    load-untouched bad = (p.refuses (λ z. bad (sym same_load ∙ z))).session

-- ---- an edit, and the order, of a faithful session

module _ (m : Model) (s : List ℕ) (f : Faithful m s) where
  abbrev t : Trigger
  t = m.trigger

  abbrev g : Graph
  g = m.graph

  pub question : verdict (question_rules s []) ≡ 0
  unfolding verdict
  question = rw (le-ltb (length s) fixed_size f.long, in_layout_lem m s f)

  pub order-told : (r : OrderAnswer) → Ordered s r → told_order r ≡ accepted (states m.trigger)
  order-told r p = p.answer ∙ rw (question, holds-trigger m s f)

  pub order-list : (r : OrderAnswer) → Ordered s r → take (states m.trigger) (places_told r) ≡ order m.trigger
  order-list r p =
      rw (p.states, question, holds-trigger m s f)
      (ap (λ (n : ℕ). take n (section max_states (order t))) (sym (order-length t))
      ∙ take-section max_states (order t) (rw (order-length t) (trigger-is m s f).few))

  module _ (k : Kind) (a b : ℕ) (room : List ℤ) (r : Answer) (s' : List ℕ) (room' : List ℤ) (wide : max_changes ≤ length room)
      (p : Edited k s a b room r s' room') where
    abbrev e : Edit
    e = record { kind = k; start = a; end = b; room = length room }

    abbrev g' : Graph
    g' = edited k m.graph a b

    -- rule 3 is met by any room that is long enough
    pub same-rules : verdict (model_rules m record { kind = k; start = a; end = b; room = length room }) ≡ verdict (model_rules m (editing k a b))
    unfolding verdict
    same-rules = rw (le-ltb (length room) max_changes wide)

    pub same_step : step m record { kind = k; start = a; end = b; room = length room } ≡ step m (editing k a b)
    unfolding step
    same_step = rw same-rules

    met : verdict (edit_rules k s (length room) a b) ≡ verdict (model_rules m (editing k a b))
    met = same-verdict m s f e ∙ same-rules

    -- the summary and the list where the marks are `marks`
    abbrev listed : Marks → List ℤ
    listed marks = changes t g' (stands t g) marks

    abbrev summed : Marks → Summary
    summed marks = record {
      fires = fires t g' marks;
      trials = trial_count k t g' (stands t g) marks a b;
      changes = length (listed marks);
    }

    accepted-told : verdict (model_rules m (editing k a b)) ≡ 0 → told r ≡ accepted (edit_summary m k a b)
    accepted-told ok =
        let w = carried m s f e room refl r s' room' p (same-rules ∙ ok) in
        w.report.answer
        ∙ ap
        (λ (n : ℕ). accepted record { fires = fires t g' (marks_of s'); trials = n; changes = length (listed (marks_of s')) })
        (w.edit.right refl).1
        ∙ ap (λ (marks : Marks). accepted (summed marks)) (marks-after m s f e room refl r s' room' p (same-rules ∙ ok))

    pub edit-told : told r ≡ outcome (verdict (model_rules m (editing k a b))) (edit_summary m k a b)
    edit-told =
        ⊎_elim
        (λ ok. accepted-told ok ∙ ap (λ (n : ℕ). outcome n (edit_summary m k a b)) (sym ok))
        (λ bad.
        (p.refuses (λ z. bad (sym met ∙ z))).answer ∙ ap refused met
        ∙ sym (outcome-refused (verdict (model_rules m (editing k a b))) (edit_summary m k a b) bad))
        (accepts-or (verdict (model_rules m (editing k a b))))

    pub edit-list : verdict (model_rules m (editing k a b)) ≡ 0 → handed_back room' r ≡ edit_list m k a b
    edit-list ok =
        let w = carried m s f e room refl r s' room' p (same-rules ∙ ok) in
        handed_list r (listed (marks_of s')) room room' _ w.report.answer refl w.report.room
        ∙ ap listed (marks-after m s f e room refl r s' room' p (same-rules ∙ ok))

    pub edit-untouched : (verdict (model_rules m (editing k a b)) ≡ 0 → ⊥) → (s' ≡ s) × (room' ≡ room)
    edit-untouched bad = let u = p.refuses (λ z. bad (sym met ∙ z)) in (u.session, u.room)

    pub edit-after : Faithful (step m (editing k a b)) s'
    edit-after = rw same_step at (faithful-step m s f e room refl r s' room' p)
