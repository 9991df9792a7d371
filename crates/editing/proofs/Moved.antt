-- The session once the edge is put in or taken out, and once its marks are stored.
use Prim.Native.Nat.{ℕ, ◌≤◌}
use native.Mathlib.Omega.{arith}
use mathlib.Core.Path.{◌≡◌, refl, ◌∙◌, ap}
use mathlib.Core.Bool.{true, false}
use mathlib.Core.List.{List}
use lib.ListN.{length, take, drop, length-append, length-drop}
use Rattle.simulation.proofs.Sets.{clash}
use Rattle.session.specs.Limits.{fixed_size, marks_at, max_nodes}
use Rattle.session.specs.Trigger.{Trigger, Graph, Marks, admits}
use Rattle.session.specs.Layout.{image, trigger_of, graph_of, marks_of, valid_marks, in_layout}
use Rattle.session.proofs.Valid.{GraphFacts}
use Rattle.session.proofs.Image.{length-image, drop-image}
use Rattle.session.proofs.Decoded as decoded
use Rattle.session.proofs.Decoded.{LayoutFacts, layout-facts, trigger-image, graph-image, marks-image, layout-image}
use Rattle.pair_tables.specs.Tables.{marked}
use Rattle.promises.specs.Standing.{stands}
use Rattle.promises.specs.Rules.{Kind, insertion, deletion, edited, graph_rules, verdict}
use Rattle.promises.specs.Promises.{Left, Free, trial_count, Done}
use Rattle.promises.proofs.Edits.{edited-facts}
use Rattle.session_parts.specs.Inside.{Inside}
use Rattle.session_parts.proofs.Parts.{held-marks}
use Rattle.editing.specs.Steps.{Saved}

-- a session that is left with something is as long as before
pub left-length : (t : Trigger) (g : Graph) (m : Marks) (xs xs' : List ℕ) → fixed_size ≤ length xs → Left t g m xs xs' → length xs' ≡ length xs
left-length t g m xs xs' long left =
    ap length left ∙ length-append (image t g m) (drop fixed_size xs) ∙ omega (arith, length-image t g m, length-drop fixed_size xs)

-- an edit leaves the nodes and what is admitted
edited-inside : (k : Kind) (t : Trigger) (g : Graph) (a b : ℕ) (m : Marks) → decoded.Inside t g m → decoded.Inside t (edited k g a b) m
edited-inside insertion t g a b m h = h
edited-inside deletion t g a b m h = h

edited-marks : (k : Kind) (t : Trigger) (g : Graph) (a b : ℕ) (m : Marks) → valid_marks t g m ≡ true → valid_marks t (edited k g a b) m ≡ true
unfolding valid_marks admits
edited-marks insertion t g a b m h = h
edited-marks deletion t g a b m h = h

module _ (k : Kind) (xs : List ℕ) (a b : ℕ) (h : in_layout xs ≡ true) (ok : verdict (graph_rules k (graph_of xs) a b) ≡ 0) where
  abbrev t : Trigger
  t = trigger_of xs

  abbrev g' : Graph
  g' = edited k (graph_of xs) a b

  abbrev m : Marks
  m = marks_of xs

  abbrev facts : LayoutFacts xs
  facts = layout-facts xs h

  gf : GraphFacts (edited k (graph_of xs) a b)
  gf = edited-facts k (graph_of xs) a b facts.graph ok

  -- a session that holds the trigger, the graph after the edit, and marks that are admitted
  module _ (m' : Marks) (inside : decoded.Inside (trigger_of xs) (edited k (graph_of xs) a b) m') (xs' : List ℕ)
      (left : Left (trigger_of xs) (edited k (graph_of xs) a b) m' xs xs') where
    pub left-trigger : trigger_of xs' ≡ trigger_of xs
    left-trigger = ap trigger_of left ∙ trigger-image t g' m' (drop fixed_size xs) facts.trigger

    pub left-graph : graph_of xs' ≡ edited k (graph_of xs) a b
    left-graph = ap graph_of left ∙ graph-image t g' m' (drop fixed_size xs) gf

    pub left-marks : marks_of xs' ≡ m'
    left-marks = ap marks_of left ∙ marks-image t g' m' (drop fixed_size xs) gf.few inside

    pub left-rest : drop fixed_size xs' ≡ drop fixed_size xs
    left-rest = ap (drop fixed_size) left ∙ drop-image t g' m' (drop fixed_size xs)

    pub left-layout : valid_marks (trigger_of xs) (edited k (graph_of xs) a b) m' ≡ true → in_layout xs' ≡ true
    left-layout valid = ap in_layout left ∙ layout-image t g' m' (drop fixed_size xs) facts.trigger gf valid inside

  -- ---- the edge is moved, the marks are those before

  module _ (xs₁ : List ℕ) (moved : Left (trigger_of xs) (edited k (graph_of xs) a b) (marks_of xs) xs xs₁) where
    was-inside : decoded.Inside (trigger_of xs) (edited k (graph_of xs) a b) (marks_of xs)
    was-inside = edited-inside k t (graph_of xs) a b m facts.inside

    was-valid : valid_marks (trigger_of xs) (edited k (graph_of xs) a b) (marks_of xs) ≡ true
    was-valid = edited-marks k t (graph_of xs) a b m facts.marks

    pub moved-trigger : trigger_of xs₁ ≡ trigger_of xs
    moved-trigger = left-trigger m was-inside xs₁ moved

    pub moved-graph : graph_of xs₁ ≡ edited k (graph_of xs) a b
    moved-graph = left-graph m was-inside xs₁ moved

    pub moved_marks : marks_of xs₁ ≡ marks_of xs
    moved_marks = left-marks m was-inside xs₁ moved

    pub moved-layout : in_layout xs₁ ≡ true
    moved-layout = left-layout m was-inside xs₁ moved was-valid

    -- the marks that were, saved before they change; where they do not, there is nothing to save
    pub saved_calm : (bs : List ℕ) → Saved xs xs₁ bs true
    saved_calm bs = record { same = λ e. moved_marks; saved = λ e. clash refl e }

    pub saved-before : (xs₂ bs : List ℕ) → bs ≡ take max_nodes (drop marks_at xs₁) → Saved xs xs₂ bs false
    saved-before xs₂ bs e = record { same = λ t. clash t refl; saved = λ t. ap marked e ∙ held-marks xs₁ moved-layout ∙ moved_marks }

    -- no mark changes
    pub done-same : Free k (trigger_of xs) (edited k (graph_of xs) a b) (marks_of xs) (marks_of xs) 0
        → (marks_of xs ≡ stands (trigger_of xs) (graph_of xs)
        → (marks_of xs ≡ stands (trigger_of xs) (edited k (graph_of xs) a b))
        × (0 ≡ trial_count k (trigger_of xs) (edited k (graph_of xs) a b) (marks_of xs) (marks_of xs) a b))
        → Done k (trigger_of xs) (graph_of xs) (marks_of xs) (marks_of xs₁) a b 0 xs xs₁
    done-same free right = rw moved_marks record { session = moved; admitted = was-valid; free = free; right = right }

    -- ---- and those of a table are stored

    module _ (ts : List ℕ) (inside : Inside xs₁ ts) (xs₂ : List ℕ) (stored : Left (trigger_of xs₁) (graph_of xs₁) (marked ts) xs₁ xs₂) where
      now-inside : decoded.Inside (trigger_of xs) (edited k (graph_of xs) a b) (marked ts)
      now-inside = rw (moved-trigger, moved-graph) at inside

      now-left : Left (trigger_of xs) (edited k (graph_of xs) a b) (marked ts) xs xs₂
      now-left = rw (moved-trigger, moved-graph, left-rest m was-inside xs₁ moved) at stored

      pub done_stored : (n : ℕ) → valid_marks (trigger_of xs) (edited k (graph_of xs) a b) (marked ts) ≡ true
          → Free k (trigger_of xs) (edited k (graph_of xs) a b) (marks_of xs) (marked ts) n
          → (marks_of xs ≡ stands (trigger_of xs) (graph_of xs)
          → (marked ts ≡ stands (trigger_of xs) (edited k (graph_of xs) a b))
          × (n ≡ trial_count k (trigger_of xs) (edited k (graph_of xs) a b) (marks_of xs) (marked ts) a b))
          → Done k (trigger_of xs) (graph_of xs) (marks_of xs) (marks_of xs₂) a b n xs xs₂
      done_stored n valid free right =
          rw (left-marks (marked ts) now-inside xs₂ now-left) record { session = now-left; admitted = valid; free = free; right = right }
