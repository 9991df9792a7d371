-- 02, Jobs 1 and 9, the other way round: a trigger whose admissions are what they were has the marks, layout, trial sets and answers that it had, and
-- firing is told of these marks (by the rule of Job 5; where it differs from the former one is in proofs/Cut). All of it follows from the one equation of admission.
use Prim.Native.Nat.{ℕ, ◌^◌}
use mathlib.Core.Path.{◌≡◌, ap, ◌∙◌}
use mathlib.Core.Bool.{true, false, not, ◌&&◌, and-true}
use mathlib.Core.List.{List}
use lib.Dec.{leb, eqb}
use lib.ListN.{length, get_or}
use lib.Pow.{pow_pos}
use borrow.Author.Tests.{lt-ltb}
use Rattle.simulation.specs.Sets.{Set, all_below, any_below}
use Rattle.simulation.specs.System.{closure}
use Rattle.simulation.specs.Pattern.{Pattern, plain, paired, system, best}
use Rattle.session.specs.Limits.{max_states, word_bits, fixed_size}
use Rattle.session.specs.Trigger.{Trigger, Graph, Marks, states, nodes, linked, edge, admits}
use Rattle.session.specs.Former.{agreement, formerly, marks_fit, blank_inverted}
use Rattle.session.specs.Layout.{below, image, trigger_of, graph_of, marks_of, valid_trigger, valid_graph, valid_marks, in_layout}
use Rattle.session.proofs.Valid.{trigger-facts}
use Rattle.session.proofs.Admission.{admits-agreement, admits_former}
use Rattle.listing.specs.Changes.{changes}
use Rattle.promises.specs.Answers.{Summary}
use Rattle.promises.specs.Standing.{stands, fires, size, trial_set}
use Rattle.promises.specs.Rules.{Given, given_trigger, given_graph, Kind, insertion, deletion, edited}
use Rattle.promises.specs.Promises.{load_list, load_trials, ceased}
use Rattle.promises.specs.Model.{load_summary, edit_summary}

module _ (t : Trigger) (a : Graph → Marks) where
  -- what is simulated, what stands and what is tried, where the states admit what `a` says
  abbrev under : Graph → Pattern
  under g = plain (states t) (nodes g) (linked t) (a g) (edge g)

  abbrev once : Graph → Marks
  once g = best (under g)

  abbrev tried : Graph → Marks → ℕ → ℕ → Set
  tried g m x y =
      closure (system (under g)) (paired (under g) (λ u v. a g u v && not (m u v)))
      (paired (under g) (λ u v. eqb v x && any_below (states t) (λ u'. linked t u u' && a g u' y)))

  abbrev trials : Kind → Graph → Graph → ℕ → ℕ → ℕ
  trials insertion g g' x y = size t g' (tried g' (once g) x y)
  trials deletion g g' x y = ceased t g' (once g) (once g')

  -- what a load of the graph reports, and an edit
  abbrev load_by : Graph → Summary
  load_by g = record {
    fires = fires t g (once g);
    trials = size t g (paired (under g) (a g));
    changes = length (changes t g (λ u v. false) (once g));
  }

  abbrev edit_by : Graph → Kind → ℕ → ℕ → Summary
  edit_by g k x y =
      let g' = edited k g x y in
      record {
        fires = fires t g' (once g');
        trials = trials k g g' x y;
        changes = length (changes t g' (once g) (once g'));
      }

  -- all that a trigger has by these admissions
  pub record HasBy : Type 0 where
    pub marks : (g : Graph) → stands t g ≡ once g
    pub firing : (g : Graph) → fires t g (stands t g) ≡ fires t g (once g)
    pub layout : (xs : List ℕ) → trigger_of xs ≡ t
        → let g = graph_of xs in
        let m = marks_of xs in
        in_layout xs
        ≡ (leb fixed_size (length xs)
        && ((valid_trigger t && (valid_graph g && marks_fit (a g) t g m)) && all_below fixed_size (λ i. eqb (get_or xs i 0) (get_or (image t g m) i 0))))
    pub trial_sets : (g : Graph) (m : Marks) (x y : ℕ) → trial_set t g m x y ≡ tried g m x y
    pub loads : (x : Given) → given_trigger x ≡ t → load_summary x ≡ load_by (given_graph x)
    pub edits : (g : Graph) (k : Kind) (x y : ℕ) → edit_summary (record { trigger = t; graph = g }) k x y ≡ edit_by g k x y

  pub has_by : ((g : Graph) → admits t g ≡ a g) → HasBy
  unfolding stands valid_marks in_layout trial_set
  has_by same = record {
    marks = stood;
    firing = λ g. ap (fires t g) (stood g);
    layout = λ xs is. rw (is, same (graph_of xs));
    trial_sets = tries;
    loads = loading;
    edits = reports;
  }
    where
      stood : (g : Graph) → stands t g ≡ once g
      stood g = ap (λ (x : Marks). best (plain (states t) (nodes g) (linked t) x (edge g))) (same g)

      tries : (g : Graph) (m : Marks) (x y : ℕ) → trial_set t g m x y ≡ tried g m x y
      tries g m x y =
          ap
          (λ (b : Marks).
          let p = plain (states t) (nodes g) (linked t) b (edge g) in
          closure (system p) (paired p (λ u v. b u v && not (m u v)))
          (paired p (λ u v. eqb v x && any_below (states t) (λ u'. linked t u u' && b u' y))))
          (same g)

      loading : (x : Given) → given_trigger x ≡ t → load_summary x ≡ load_by (given_graph x)
      loading x is =
          let g = given_graph x in
          ap (λ (t : Trigger). record { fires = fires t g (stands t g); trials = load_trials t g; changes = length (load_list t g) }) is ∙ rw (same g)

      reports : (g : Graph) (k : Kind) (x y : ℕ) → edit_summary (record { trigger = t; graph = g }) k x y ≡ edit_by g k x y
      reports g insertion x y = let g' = edited insertion g x y in rw (stood g', stood g, tries g' (once g) x y)
      reports g deletion x y = rw (stood (edited deletion g x y), stood g)

module _ (t : Trigger) where
  -- without an inverted state: what it had when a state admitted where value and sample agree
  pub plain_has : t.inverted ≡ 0 → HasBy t (agreement t)
  plain_has none = has_by t (agreement t) (λ g. admits-agreement t g none)

  -- and its counts and numbers keep the limits that they had
  pub plain-trigger : t.inverted ≡ 0 → valid_trigger t
      ≡ ((leb 1 (states t) && leb (states t) max_states)
      && ((eqb (length t.values) (states t) && eqb (length t.links) (states t))
      && ((below (2 ^ word_bits) t.masks && below (2 ^ word_bits) t.values) && below (2 ^ states t) t.links)))
  unfolding valid_trigger
  plain-trigger none = rw (none, lt-ltb 0 (2 ^ states t) (pow_pos (states t)), and-true)

  -- without an inverted state of mask zero: what it had when such a state admitted nothing
  pub former_has : valid_trigger t ≡ true → blank_inverted t ≡ false → HasBy t (formerly t)
  former_has valid none = has_by t (formerly t) (λ g. admits_former t g (trigger-facts t valid).inverted_fit none)
