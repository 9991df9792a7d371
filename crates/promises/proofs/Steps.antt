-- A session that is the image of the model with its greatest simulation: a load makes it so, and each edit keeps it so.
use Prim.Native.Nat.{ℕ}
use native.Mathlib.Omega.{arith}
use mathlib.Core.Path.{◌≡◌, refl, sym, ◌∙◌, ap, subst}
use mathlib.Core.Logic.{⊎_elim}
use mathlib.Core.Bool.{true}
use mathlib.Core.List.{List, ◌++◌}
use lib.Dec.{ltb}
use lib.IntN.{ℤ}
use lib.ListN.{length, drop, length-append}
use borrow.Author.Tests.{le-ltb, eq-eqb, ne_eqb}
use Rattle.promises.specs.Answers.{Answer}
use Rattle.session.specs.Limits.{max_changes, fixed_size}
use Rattle.session.specs.Trigger.{Trigger, Graph, Marks}
use Rattle.session.specs.Layout.{image, trigger_of, graph_of, marks_of, in_layout}
use Rattle.session.proofs.Valid.{TriggerFacts, GraphFacts, trigger-facts, trigger-valid, graph-facts, graph-valid, marks-valid}
use Rattle.session.proofs.Image.{length-image, drop-image}
use Rattle.session.proofs.Decoded.{trigger-image, graph-image, marks-image, layout-image}
use Rattle.promises.specs.Standing.{stands}
use Rattle.promises.specs.Rules.{Given, edited, verdict, graph_rules, load_rules, edit_rules}
use Rattle.promises.specs.Promises.{Loaded, Edited, Carried}
use Rattle.promises.specs.Model.{Model, begun, Edit, model_rules, step}
use Rattle.promises.specs.Demands.{Faithful}
use Rattle.promises.proofs.Stands.{stands-inside, stands-admitted}
use Rattle.promises.proofs.Verdicts.{accepts-or, verdict_pass}
use Rattle.promises.proofs.Loads.{load-trigger, load-graph}
use Rattle.promises.proofs.Edits.{edited-facts, edited-samples}

-- ---- the steps of the model

pub step-accepted : (b : Model) (e : Edit) → verdict (model_rules b e) ≡ 0
    → step b e ≡ record { trigger = b.trigger; graph = edited e.kind b.graph e.start e.end }
unfolding step
step-accepted b e ok = rw (eq-eqb (verdict (model_rules b e)) 0 ok)

pub step-refused : (b : Model) (e : Edit) → (verdict (model_rules b e) ≡ 0 → ⊥) → step b e ≡ b
unfolding step
step-refused b e no_Ok = rw (ne_eqb (verdict (model_rules b e)) 0 no_Ok)

-- either way it leaves trigger and samples
pub step_keeps : (b : Model) (e : Edit) → ((step b e).trigger ≡ b.trigger) × ((step b e).graph.samples ≡ b.graph.samples)
step_keeps b e =
    ⊎_elim
    (λ ok.
    let s = step-accepted b e ok in
    (ap (λ (m : Model). m.trigger) s, ap (λ (m : Model). m.graph.samples) s ∙ edited-samples e.kind b.graph e.start e.end))
    (λ bad.
    let s = step-refused b e bad in
    (ap (λ (m : Model). m.trigger) s, ap (λ (m : Model). m.graph.samples) s))
    (accepts-or (verdict (model_rules b e)))

pub model-passed : (b : Model) (e : Edit) → verdict (model_rules b e) ≡ 0 → verdict (graph_rules e.kind b.graph e.start e.end) ≡ 0
model-passed b e ok = (verdict_pass 3 (ltb e.room max_changes) (graph_rules e.kind b.graph e.start e.end) (omega arith) ok).1

-- ---- a session that is such an image

-- what it is to leave the image of a valid trigger and graph in a memory that is long enough
pub faithful_make : (b : Model) (s s' : List ℕ) → TriggerFacts b.trigger → GraphFacts b.graph
    → s' ≡ image b.trigger b.graph (stands b.trigger b.graph) ++ drop fixed_size s → Faithful b s'
faithful_make b s s' tf gf e =
    let t = b.trigger in
    let g = b.graph in
    let m = stands t g in
    record {
      trigger = trigger-valid t tf;
      graph = graph-valid g gf;
      long = rw e (omega (arith, length-append (image t g m) (drop fixed_size s), length-image t g m));
      session = e ∙ ap (λ (rest : List ℕ). image t g m ++ rest) (sym (ap (drop fixed_size) e ∙ drop-image t g m (drop fixed_size s)));
    }

module _ (b : Model) (s : List ℕ) (f : Faithful b s) where
  abbrev t : Trigger
  t = b.trigger

  abbrev g : Graph
  g = b.graph

  abbrev m : Marks
  m = stands t g

  pub trigger-is : TriggerFacts b.trigger
  trigger-is = trigger-facts t f.trigger

  pub graph_is : GraphFacts b.graph
  graph_is = graph-facts g f.graph

  pub holds-trigger : trigger_of s ≡ b.trigger
  holds-trigger = ap trigger_of f.session ∙ trigger-image t g m (drop fixed_size s) trigger-is

  pub holds-graph : graph_of s ≡ b.graph
  holds-graph = ap graph_of f.session ∙ graph-image t g m (drop fixed_size s) graph_is

  pub holds-marks : marks_of s ≡ stands b.trigger b.graph
  holds-marks = ap marks_of f.session ∙ marks-image t g m (drop fixed_size s) graph_is.few (stands-inside t g)

  pub in_layout_lem : in_layout s ≡ true
  in_layout_lem =
      ap in_layout f.session
      ∙ layout-image t g m (drop fixed_size s) trigger-is graph_is (marks-valid t g m (λ u v l k h. stands-admitted t g u v h)) (stands-inside t g)

  -- the rules that the session meets are those of the model: 10 is not among them
  pub same-verdict : (e : Edit) → verdict (edit_rules e.kind s e.room e.start e.end) ≡ verdict (model_rules b e)
  unfolding verdict
  same-verdict e = rw (le-ltb (length s) fixed_size f.long, in_layout_lem, holds-graph)

  module _ (e : Edit) (c : List ℤ) (wide : length c ≡ e.room) (r : Answer) (s' : List ℕ) (c' : List ℤ)
      (p : Edited e.kind s e.start e.end c r s' c') where
    abbrev g' : Graph
    g' = edited e.kind b.graph e.start e.end

    call-verdict : verdict (edit_rules e.kind s (length c) e.start e.end) ≡ verdict (model_rules b e)
    call-verdict = ap (λ (n : ℕ). verdict (edit_rules e.kind s n e.start e.end)) wide ∙ same-verdict e

    -- an accepted call, in the model's terms
    pub carried : verdict (model_rules b e) ≡ 0
        → Carried e.kind b.trigger b.graph (stands b.trigger b.graph) (marks_of s') e.start e.end s c r s' c'
    carried ok = rw (holds-trigger, holds-graph, holds-marks) at (p.accepts (call-verdict ∙ ok))

    pub marks-after : verdict (model_rules b e) ≡ 0 → marks_of s' ≡ stands b.trigger (edited e.kind b.graph e.start e.end)
    marks-after ok = ((carried ok).edit.right refl).0

    -- the step: an edit keeps the session faithful to the model
    pub faithful-step : Faithful (step b e) s'
    faithful-step =
        ⊎_elim
        (λ ok.
        subst (λ (x : Model). Faithful x s') (sym (step-accepted b e ok))
        (faithful_make record { trigger = t; graph = g' } s s' trigger-is
        (edited-facts e.kind g e.start e.end graph_is (model-passed b e ok))
        ((carried ok).edit.session ∙ ap (λ (x : Marks). image t g' x ++ drop fixed_size s) (marks-after ok))))
        (λ bad.
        subst (λ (x : Model). Faithful x s') (sym (step-refused b e bad))
        (subst (Faithful b) (sym (p.refuses (λ z. bad (sym call-verdict ∙ z))).session) f))
        (accepts-or (verdict (model_rules b e)))

-- ---- a load makes it so

pub faithful-load : (x : Given) (s : List ℕ) (c : List ℤ) (r : Answer) (s' : List ℕ) (c' : List ℤ) → Loaded x s c r s' c'
    → verdict (load_rules (length s) (length c) x) ≡ 0 → Faithful (begun x) s'
faithful-load x s c r s' c' p ok =
    faithful_make (begun x) s s'
    (load-trigger (length s) (length c) x ok p.words.0 p.words.1)
    (load-graph (length s) (length c) x ok p.words.2)
    (p.accepts ok).0
