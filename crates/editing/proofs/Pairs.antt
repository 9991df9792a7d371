-- Tables, sets of pairs and marks.
use Prim.Native.Nat.{ℕ, ◌*◌, ◌/◌, ◌%◌, ◌<◌}
use native.Mathlib.Nat.{mod-lt}
use mathlib.Core.Path.{◌≡◌, sym, ◌∙◌, ap, fun_ext}
use mathlib.Core.Bool.{true}
use mathlib.Core.List.{List}
use Rattle.simulation.specs.Sets.{Set, In}
use Rattle.simulation.specs.Pattern.{pair}
use Rattle.simulation.proofs.Sets.{same}
use Rattle.simulation.proofs.Pattern.{pair_inside, pair-whole, paired-pair}
use Rattle.session.specs.Trigger.{Trigger, Graph, Marks, states, nodes, pattern}
use Rattle.session.specs.Layout.{trigger_of, graph_of}
use Rattle.session.proofs.Decoded.{Inside}
use Rattle.pair_tables.specs.Tables.{marked}
use Rattle.promises.specs.Standing.{pairs_of}
use Rattle.editing.specs.Steps.{Holds}

module _ (t : Trigger) (g : Graph) (some : 0 < states t) where
  abbrev n : ℕ
  n = states t

  -- pairs of marks inside the trigger and the graph are below the number of pairs
  pub marks-below : (m : Marks) → Inside t g m → (p : ℕ) → In (pairs_of t g m) p → p < nodes g * states t
  marks-below m inside p h =
      rw (pair-whole (pattern t g) p) at (pair_inside (pattern t g) (p % n) (p / n) (mod-lt p some) (inside (p % n) (p / n) h).1)

  -- marks with the same pairs are the same
  pub marks-same : (m m' : Marks) → Inside t g m → Inside t g m'
      → ((p : ℕ) → p < nodes g * states t → pairs_of t g m p ≡ pairs_of t g m' p) → m ≡ m'
  marks-same m m' inside inside' h = fun_ext (λ u. fun_ext (λ v. same (m u v) (m' u v) (there u v) (back u v)))
    where
      at : (u v : ℕ) → u < states t → v < nodes g → m u v ≡ m' u v
      at u v l k =
          sym (paired-pair (pattern t g) m u v l) ∙ h (pair (pattern t g) u v) (pair_inside (pattern t g) u v l k) ∙ paired-pair (pattern t g) m' u v l

      there : (u v : ℕ) → m u v ≡ true → m' u v ≡ true
      there u v e = let i = inside u v e in sym (at u v i.0 i.1) ∙ e

      back : (u v : ℕ) → m' u v ≡ true → m u v ≡ true
      back u v e = let i = inside' u v e in at u v i.0 i.1 ∙ e

  -- sets below the number of pairs that agree there are the same
  pub sets_same : (X Y : Set) → ((p : ℕ) → In X p → p < nodes g * states t) → ((p : ℕ) → In Y p → p < nodes g * states t)
      → ((p : ℕ) → p < nodes g * states t → X p ≡ Y p) → X ≡ Y
  sets_same X Y low low' h = fun_ext (λ p. same (X p) (Y p) (λ e. sym (h p (low p e)) ∙ e) (λ e. h p (low' p e) ∙ e))

-- a table that holds the pairs of marks has these marks; one that holds a set of pairs has that set
module _ (xs : List ℕ) (some : 0 < states (trigger_of xs)) (X : Set) (ts : List ℕ) (holds : Holds xs X ts) where
  pub holds-set : ((p : ℕ) → In X p → p < nodes (graph_of xs) * states (trigger_of xs)) → pairs_of (trigger_of xs) (graph_of xs) (marked ts) ≡ X
  holds-set low =
      sets_same (trigger_of xs) (graph_of xs) some (pairs_of (trigger_of xs) (graph_of xs) (marked ts)) X
      (marks-below (trigger_of xs) (graph_of xs) some (marked ts) holds.inside) low holds.pairs

  pub holds-marks : (m : Marks) → Inside (trigger_of xs) (graph_of xs) m → X ≡ pairs_of (trigger_of xs) (graph_of xs) m → marked ts ≡ m
  holds-marks m inside e =
      marks-same (trigger_of xs) (graph_of xs) some (marked ts) m holds.inside inside (λ p l. holds.pairs p l ∙ ap (λ (Y : Set). Y p) e)
