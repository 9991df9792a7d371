-- A load, from what its steps ensure.
use Prim.Native.Nat.{ℕ, ◌^◌}
use mathlib.Core.Path.{◌≡◌, refl, sym, ◌∙◌, ap, fun_ext, subst}
use mathlib.Core.Bool.{true, false}
use mathlib.Core.List.{List, ◌++◌}
use lib.IntN.{ℤ}
use lib.ListN.{length, get_or, drop}
use Rattle.simulation.proofs.Sets.{clash}
use Rattle.session.specs.Limits.{fixed_size, word_bits}
use Rattle.session.specs.Trigger.{Trigger, Graph, Marks, admits}
use Rattle.session.specs.Layout.{below, image, trigger_of, graph_of, marks_of, in_layout}
use Rattle.session.proofs.Valid.{TriggerFacts, GraphFacts, marks-valid}
use Rattle.session.proofs.Image.{drop-image}
use Rattle.session.proofs.Decoded.{trigger-image, graph-image, marks-image, layout-image}
use Rattle.pair_tables.specs.Tables.{marked}
use Rattle.pair_tables.proofs.Tabling.{marked-none}
use Rattle.listing.specs.Changes.{changes}
use Rattle.promises.specs.Answers.{Answer}
use Rattle.promises.specs.Standing.{stands, size, pairs_of}
use Rattle.promises.specs.Rules.{Given, given_trigger, given_graph, load_rules, verdict}
use Rattle.promises.specs.Promises.{Left, Reported}
use Rattle.session_parts.specs.Inside.{Inside}
use Rattle.loading.specs.Solved.{Solved}
use Rattle.promises.proofs.Stands.{stands-inside, stands-admitted}
use Rattle.promises.proofs.Loads.{load-trigger, load-graph}

module _ (x : Given) (s : List ℕ) (room : ℕ) (ok : verdict (load_rules (length s) room x) ≡ 0) (masks : below (2 ^ word_bits) x.masks ≡ true)
    (values : below (2 ^ word_bits) x.values ≡ true) (samples : below (2 ^ word_bits) x.samples ≡ true) (s₁ : List ℕ)
    (written : s₁ ≡ image (given_trigger x) (given_graph x) (λ u v. false) ++ drop fixed_size s) where
  abbrev t : Trigger
  t = given_trigger x

  abbrev g : Graph
  g = given_graph x

  abbrev m : Marks
  m = stands (given_trigger x) (given_graph x)

  tf : TriggerFacts (given_trigger x)
  tf = load-trigger (length s) room x ok masks values

  gf : GraphFacts (given_graph x)
  gf = load-graph (length s) room x ok samples

  -- once its sections are written, the session is in layout
  pub load-layout : in_layout s₁ ≡ true
  load-layout =
      ap in_layout written
      ∙ layout-image t g (λ u v. false) (drop fixed_size s) tf gf (marks-valid t g (λ u v. false) (λ u v l k h. clash h refl)) (λ u v h. clash h refl)

  holds-t : trigger_of s₁ ≡ given_trigger x
  holds-t = ap trigger_of written ∙ trigger-image t g (λ u v. false) (drop fixed_size s) tf

  holds-g : graph_of s₁ ≡ given_graph x
  holds-g = ap graph_of written ∙ graph-image t g (λ u v. false) (drop fixed_size s) gf

  module _ (n : ℕ) (ts : List ℕ) (solved : Solved s₁ n ts) where
    pub load_inside : Inside s₁ ts
    load_inside u v h = stands-inside (trigger_of s₁) (graph_of s₁) u v (sym (solved.marks u v) ∙ h)

    stands-is : marked ts ≡ stands (given_trigger x) (given_graph x)
    stands-is =
        subst (λ (y : Trigger). marked ts ≡ stands y (given_graph x)) holds-t
        (subst (λ (h : Graph). marked ts ≡ stands (trigger_of s₁) h) holds-g (fun_ext (λ u. fun_ext (λ v. solved.marks u v))))

    trials-is : n ≡ size t g (pairs_of t g (admits t g))
    trials-is =
        subst (λ (y : Trigger). n ≡ size y (given_graph x) (pairs_of y (given_graph x) (admits y (given_graph x)))) holds-t
        (subst (λ (h : Graph). n ≡ size (trigger_of s₁) h (pairs_of (trigger_of s₁) h (admits (trigger_of s₁) h))) holds-g solved.trials)

    module _ (s₂ : List ℕ) (stored : s₂ ≡ image (trigger_of s₁) (graph_of s₁) (marked ts) ++ drop fixed_size s₁) where
      -- with its marks stored it holds the greatest simulation
      held : s₂ ≡ image (given_trigger x) (given_graph x) (stands (given_trigger x) (given_graph x)) ++ drop fixed_size s
      held =
          rw (holds-t, holds-g, stands-is) at stored
          ∙ ap (λ (rest : List ℕ). image t g m ++ rest) (ap (drop fixed_size) written ∙ drop-image t g (λ u v. false) (drop fixed_size s))

      pub load-marked : in_layout s₂ ≡ true
      load-marked =
          ap in_layout held
          ∙ layout-image t g m (drop fixed_size s) tf gf (marks-valid t g m (λ u v l k h. stands-admitted t g u v h)) (stands-inside t g)

      pub load-written : (bs : List ℕ) → ((v : ℕ) → get_or bs v 0 ≡ 0) → (c : List ℤ) (r : Answer) (c' : List ℤ)
          → Reported (trigger_of s₂) (graph_of s₂) (marks_of s₂) n (changes (trigger_of s₂) (graph_of s₂) (marked bs) (marks_of s₂)) c r c'
          → Left (given_trigger x) (given_graph x) (stands (given_trigger x) (given_graph x)) s s₂
          × Reported (given_trigger x) (given_graph x) (stands (given_trigger x) (given_graph x))
          (size (given_trigger x) (given_graph x) (pairs_of (given_trigger x) (given_graph x) (admits (given_trigger x) (given_graph x))))
          (changes (given_trigger x) (given_graph x) (λ u v. false) (stands (given_trigger x) (given_graph x))) c r c'
      load-written bs none c r c' w =
          let h-t : trigger_of s₂ ≡ t = ap trigger_of held ∙ trigger-image t g m (drop fixed_size s) tf in
          let h-g : graph_of s₂ ≡ g = ap graph_of held ∙ graph-image t g m (drop fixed_size s) gf in
          let h-m : marks_of s₂ ≡ m = ap marks_of held ∙ marks-image t g m (drop fixed_size s) gf.few (stands-inside t g) in
          let w₁ : Reported t g m (size t g (pairs_of t g (admits t g))) (changes t g (λ u v. false) m) c r c' =
          rw (h-t, h-g, h-m, trials-is, marked-none bs none) at w in
          (held, w₁)
