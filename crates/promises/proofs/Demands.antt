-- The three demands, from the promises of the calls alone.
use Prim.Native.Nat.{ℕ, zero, suc}
use native.Mathlib.Omega.{arith}
use mathlib.Core.Path.{◌≡◌, refl, sym, ◌∙◌, ap, subst}
use mathlib.Core.Logic.{⊎_elim}
use mathlib.Core.Bool.{false}
use mathlib.Core.List.{List, [], ◌++◌}
use lib.IntN.{ℤ}
use lib.ListN.{length, take, drop}
use borrow.Author.Tests.{ne_eqb}
use Rattle.session.specs.Limits.{max_states, fixed_size}
use Rattle.session.specs.Trigger.{Trigger, Graph, Marks, states}
use Rattle.session.specs.Layout.{section, image, trigger_of, graph_of, marks_of}
use Rattle.session.proofs.Tables.{take-section}
use Rattle.session.proofs.Decoded.{trigger-image, graph-image, marks-image, layout-facts}
use Rattle.listing.specs.Changes.{changes}
use Rattle.listing.specs.Order.{order}
use Rattle.listing.proofs.Orders.{order-length}
use Rattle.listing.proofs.Lists.{changes-none}
use Rattle.promises.specs.Standing.{stands, fires}
use Rattle.promises.specs.Answers.{Answer, OrderAnswer, Outcome, Summary, accepted, refused, outcome, told, changes_told, fires_told, handed_back, places_told}
use Rattle.promises.specs.Rules.{Kind, insertion, deletion, Given, given_trigger, given_graph, edited, verdict, load_rules, edit_rules, question_rules}
use Rattle.promises.specs.Promises.{Untouched, Reported, load_list, load_trials, Loaded, Edited, Ordered}
use Rattle.promises.specs.Model.{Model, begun, Edit, model_rules, step}
use Rattle.promises.specs.Demands.{Judged, Answered, LoadCarried, EditCarried, Demand1, FiresBy, Demand2, Call, Run, ended, called, edit_of, Faithful, Held, Kept, Follows, Demand3}
use Rattle.promises.proofs.Stands.{stands-simulates, stands-greatest, stands-inside, fires_iff}
use Rattle.promises.proofs.Handed.{handed_back_lem, handed_none}
use Rattle.promises.proofs.Verdicts.{accepts-or, verdict_lacks}
use Rattle.promises.proofs.Loads.{fresh-graph, fresh-accepted}
use Rattle.promises.proofs.Passed.{edit-passed, question-passed}
use Rattle.promises.proofs.Edits.{edited-facts, edited-changes, edited-chain}
use Rattle.promises.proofs.Steps.{
  step-accepted,
  step-refused,
  model-passed,
  trigger-is,
  graph_is,
  holds-trigger,
  holds-graph,
  holds-marks,
  same-verdict,
  carried,
  marks-after,
  faithful-step,
  faithful-load,
}

-- ---- Demand 1

pub outcome-refused : {A : Type 0} (n : ℕ) (a : A) → (n ≡ 0 → ⊥) → outcome n a ≡ refused n
outcome-refused zero a h = absurd (h refl)
outcome-refused (suc n) a h = refl

nothing : Summary
nothing = record { fires = false; trials = 0; changes = 0 }

judged-accepted : (n : ℕ) (o : Outcome Summary) (a : Summary) → n ≡ 0 → o ≡ accepted a → Judged n o
judged-accepted n o a z e = (a, e ∙ ap (λ (k : ℕ). outcome k a) (sym z))

judged-refused : (n : ℕ) (o : Outcome Summary) → (n ≡ 0 → ⊥) → o ≡ refused n → Judged n o
judged-refused n o bad e = (nothing, e ∙ sym (outcome-refused n nothing bad))

answered-refused : (n : ℕ) (s : List ℕ) (c : List ℤ) (r : Answer) (s' : List ℕ) (c' : List ℤ) (E : Type 0) → (n ≡ 0 → ⊥) → Untouched n s c r s' c'
    → Answered n s c r s' c' E
answered-refused n s c r s' c' E bad u = record {
  judged = judged-refused n (told r) bad u.answer;
  untouched = λ h. (u.session, u.room, handed_none c' r (ap changes_told u.answer));
  carried = λ z. absurd (bad z);
}

answered-accepted : (n : ℕ) (s : List ℕ) (c : List ℤ) (r : Answer) (s' : List ℕ) (c' : List ℤ) (E : Type 0) (a : Summary) → n ≡ 0
    → told r ≡ accepted a → E → Answered n s c r s' c' E
answered-accepted n s c r s' c' E a z e effect =
    record { judged = judged-accepted n (told r) a z e; untouched = λ bad. absurd (bad z); carried = λ ok. effect }

-- a list that was reported is handed back
reported-list : (t : Trigger) (g : Graph) (m : Marks) (trials : ℕ) (list c : List ℤ) (r : Answer) (c' : List ℤ) → Reported t g m trials list c r c'
    → handed_back c' r ≡ list
reported-list t g m trials list c r c' w =
    ap (λ (room : List ℤ). handed_back room r) w.room ∙ handed_back_lem list (drop (length list) c) r (ap changes_told w.answer)

load-carried : (x : Given) (s : List ℕ) (c : List ℤ) (r : Answer) (s' : List ℕ) (c' : List ℤ) → Loaded x s c r s' c'
    → verdict (load_rules (length s) (length c) x) ≡ 0 → LoadCarried x s c r s' c'
load-carried x s c r s' c' p ok =
    let w = p.accepts ok in
    let f = faithful-load x s c r s' c' p ok in
    let t = given_trigger x in
    let g = given_graph x in
    let list = reported-list t g (stands t g) (load_trials t g) (load_list t g) c r c' w.1 in
    record {
      session = w.0;
      trigger = holds-trigger (begun x) s' f;
      graph = holds-graph (begun x) s' f;
      marks = holds-marks (begun x) s' f;
      tells = w.1.answer;
      list = list;
      room = w.1.room ∙ ap (λ (l : List ℤ). l ++ drop (length l) c) (sym list);
    }

edit-carried : (k : Kind) (s : List ℕ) (a b : ℕ) (c : List ℤ) (r : Answer) (s' : List ℕ) (c' : List ℤ) → Edited k s a b c r s' c'
    → verdict (edit_rules k s (length c) a b) ≡ 0 → EditCarried k a b s c r s' c'
edit-carried k s a b c r s' c' p ok =
    let w = p.accepts ok in
    let passed = edit-passed k s (length c) a b ok in
    let f = layout-facts s passed.0 in
    let t = trigger_of s in
    let g' = edited k (graph_of s) a b in
    let graph : graph_of s' ≡ g' =
    ap graph_of w.edit.session ∙ graph-image t g' (marks_of s') (drop fixed_size s) (edited-facts k (graph_of s) a b f.graph passed.2) in
    record {
      edit = w;
      trigger = ap trigger_of w.edit.session ∙ trigger-image t g' (marks_of s') (drop fixed_size s) f.trigger;
      graph = graph;
      list =
          reported-list t g' (marks_of s') w.trials (changes t g' (marks_of s) (marks_of s')) c r c' w.report
          ∙ ap (λ (h : Graph). changes t h (marks_of s) (marks_of s')) (sym graph);
    }

-- the order told, where no rule is broken, and none where one is
order-carried : (s : List ℕ) (r : OrderAnswer) → Ordered s r → verdict (question_rules s []) ≡ 0
    → take (states (trigger_of s)) (places_told r) ≡ order (trigger_of s)
order-carried s r p ok =
    let t = trigger_of s in
    let f = layout-facts s (question-passed s [] ok).0 in
    rw (p.states, ok)
    (ap (λ (n : ℕ). take n (section max_states (order t))) (sym (order-length t))
    ∙ take-section max_states (order t) (rw (order-length t) f.trigger.few))

order-refused : (s : List ℕ) (r : OrderAnswer) → Ordered s r → (verdict (question_rules s []) ≡ 0 → ⊥) → places_told r ≡ section max_states []
order-refused s r p bad = rw (p.states, ne_eqb (verdict (question_rules s [])) 0 bad)

pub demand1 : Demand1
demand1 = record {
  load = λ x s c r s' c' p.
      let n = verdict (load_rules (length s) (length c) x) in
      ⊎_elim
      (λ ok. answered-accepted n s c r s' c' (LoadCarried x s c r s' c') _ ok (p.accepts ok).1.answer (load-carried x s c r s' c' p ok))
      (λ bad. answered-refused n s c r s' c' (LoadCarried x s c r s' c') bad (p.refuses bad))
      (accepts-or n);
  edit = λ k s a b c r s' c' p.
      let n = verdict (edit_rules k s (length c) a b) in
      ⊎_elim
      (λ ok. answered-accepted n s c r s' c' (EditCarried k a b s c r s' c') _ ok (p.accepts ok).report.answer (edit-carried k s a b c r s' c' p ok))
      (λ bad. answered-refused n s c r s' c' (EditCarried k a b s c r s' c') bad (p.refuses bad))
      (accepts-or n);
  standing = λ s state v r p. p;
  firing = λ s r p. p;
  order = λ s r p. (p.answer, order-carried s r p, order-refused s r p);
}

-- ---- Demand 2

pub demand2 : (x : Given) (s : List ℕ) (c : List ℤ) (r : Answer) (s' : List ℕ) (c' : List ℤ) → Loaded x s c r s' c'
    → verdict (load_rules (length s) (length c) x) ≡ 0 → Demand2 x r s'
demand2 x s c r s' c' p ok =
    let t = given_trigger x in
    let g = given_graph x in
    let marks = holds-marks (begun x) s' (faithful-load x s c r s' c' p ok) in
    let says : fires_told (told r) ≡ fires t g (stands t g) = ap fires_told (p.accepts ok).1.answer in
    record {
      simulates = rw marks (stands-simulates t g);
      greatest = λ R h u v q. ap (λ (m : Marks). m u v) marks ∙ stands-greatest t g R h u v q;
      firing = rw (marks, says) (fires_iff t g);
    }

-- ---- Demand 3

-- what a faithful session holds
pub held : (b : Model) (s : List ℕ) → Faithful b s → Held b s
held b s f =
    let t = b.trigger in
    let g = b.graph in
    record {
      trigger = holds-trigger b s f;
      graph = holds-graph b s f;
      marks = λ u v. ap (λ (m : Marks). m u v) (holds-marks b s f);
      fresh = λ s₀ c₀ r s₁ c₁ long wide p.
          let ok = fresh-accepted b (trigger-is b s f) (graph_is b s f) (length s₀) (length c₀) long wide in
          let w = p.accepts ok in
          let e : s₁ ≡ image t g (stands t g) ++ drop fixed_size s₀ =
          w.0 ∙ ap (λ (h : Graph). image t h (stands t h) ++ drop fixed_size s₀) (fresh-graph b (trigger-is b s f) (graph_is b s f)) in (
            judged-accepted 0 (told r) _ refl w.1.answer,
            ap marks_of e ∙ marks-image t g (stands t g) (drop fixed_size s₀) (graph_is b s f).few (stands-inside t g) ∙ sym (holds-marks b s f),
          );
    }

-- the model never refuses with 10
pub never_10 : (b : Model) (e : Edit) → verdict (model_rules b e) ≡ 10 → ⊥
never_10 b e = by e.kind refl
  where
    by : (k : Kind) → e.kind ≡ k → verdict (model_rules b e) ≡ 10 → ⊥
    by insertion q =
        subst
        (λ (k : Kind). verdict (model_rules b record { kind = k; start = e.start; end = e.end; room = e.room }) ≡ 10 → ⊥) (sym q)
        (verdict_lacks 10 _ (λ z. absurd (omega arith)) (omega arith))
    by deletion q =
        subst
        (λ (k : Kind). verdict (model_rules b record { kind = k; start = e.start; end = e.end; room = e.room }) ≡ 10 → ⊥) (sym q)
        (verdict_lacks 10 _ (λ z. absurd (omega arith)) (omega arith))

module _ (b : Model) (s : List ℕ) (f : Faithful b s) (c : Call)
    (p : Edited c.kind s c.start c.end c.room c.answer c.session c.changes) where
  abbrev e : Edit
  e = edit_of c

  abbrev t : Trigger
  t = b.trigger

  abbrev g : Graph
  g = b.graph

  abbrev g' : Graph
  g' = edited c.kind b.graph c.start c.end

  after : Faithful (step b (edit_of c)) c.session
  after = faithful-step b s f e c.room refl c.answer c.session c.changes p

  kept-accepted : verdict (model_rules b (edit_of c)) ≡ 0 → Kept b record { trigger = b.trigger; graph = edited c.kind b.graph c.start c.end } c
  kept-accepted ok =
      let w = carried b s f e c.room refl c.answer c.session c.changes p ok in
      let marks = marks-after b s f e c.room refl c.answer c.session c.changes p ok in
      let list : List ℤ = changes t g' (stands t g) (marks_of c.session) in
      record {
        judged = judged-accepted (verdict (model_rules b e)) (told c.answer) _ ok w.report.answer;
        never10 = λ ten. let z : ◌≡◌ {A = ℕ} 0 1 = cc (w.report.answer, ten) in absurd (omega arith);
        held = held record { trigger = t; graph = g' } c.session
            (subst (λ (x : Model). Faithful x c.session) (step-accepted b e ok) after);
        firing = λ z. subst (FiresBy t (stands t g')) (sym (ap fires_told w.report.answer ∙ ap (fires t g') marks)) (fires_iff t g');
        list =
            ap (λ (room : List ℤ). handed_back room c.answer) w.report.room
            ∙ handed_back_lem list (drop (length list) c.room) c.answer (ap changes_told w.report.answer)
            ∙ edited-changes c.kind t g c.start c.end (stands t g) (marks_of c.session)
            ∙ ap (changes t g (stands t g)) marks;
        chains = edited-chain c.kind t g c.start c.end (graph_is b s f) (model-passed b e ok);
      }

  kept-refused : (verdict (model_rules b (edit_of c)) ≡ 0 → ⊥) → Kept b b c
  kept-refused bad =
      let same : verdict (edit_rules c.kind s (length c.room) c.start c.end) ≡ verdict (model_rules b e) = same-verdict b s f e in
      let u = p.refuses (λ z. bad (sym same ∙ z)) in
      let says : told c.answer ≡ refused (verdict (model_rules b e)) = u.answer ∙ ap refused same in
      record {
        judged = judged-refused (verdict (model_rules b e)) (told c.answer) bad says;
        never10 = λ ten. let z : verdict (model_rules b e) ≡ 10 = cc (says, ten) in never_10 b e z;
        held = held b c.session (subst (λ (x : Model). Faithful x c.session) (step-refused b e bad) after);
        firing = λ z. absurd (bad z);
        list = handed_none c.changes c.answer (ap changes_told says) ∙ sym (changes-none t g (stands t g));
        chains = λ u v differs. absurd (differs refl);
      }

  -- the exported step: one call of the list, and the session after it
  pub kept : Kept b (step b (edit_of c)) c × Faithful (step b (edit_of c)) c.session
  kept = (
    ⊎_elim
        (λ ok. subst (λ (x : Model). Kept b x c) (sym (step-accepted b e ok)) (kept-accepted ok))
        (λ bad. subst (λ (x : Model). Kept b x c) (sym (step-refused b e bad)) (kept-refused bad))
        (accepts-or (verdict (model_rules b e))),
    after,
  )

pub follows : (b : Model) {s : List ℕ} {cs : List Call} → Faithful b s → Run s cs → Follows b cs
follows b f ended = tt
follows b {s} f (called {c = c} p run) =
    let k = kept b s f c p in
    (k.0, follows (step b (edit_of c)) k.1 run)

pub demand3 : (x : Given) (s : List ℕ) (c : List ℤ) (r : Answer) (s' : List ℕ) (c' : List ℤ) → Loaded x s c r s' c'
    → verdict (load_rules (length s) (length c) x) ≡ 0 → Demand3 x r s'
demand3 x s c r s' c' p ok =
    let f = faithful-load x s c r s' c' p ok in
    let t = given_trigger x in
    let g = given_graph x in
    record {
      loaded = held (begun x) s' f;
      firing = subst (FiresBy t (stands t g)) (sym (ap fires_told (p.accepts ok).1.answer)) (fires_iff t g);
      calls = λ cs run. follows (begun x) f run;
    }
