-- What is admitted, told from the parts of a session in layout: here alone admission is taken apart.
use Prim.Native.Nat.{ℕ, ◌*◌, ◌/◌, ◌%◌, ◌<◌}
use mathlib.Core.Path.{◌≡◌, sym, ap, fun_ext, ◌∙◌}
use mathlib.Core.Bool.{true, ◌&&◌}
use mathlib.Core.List.{List}
use lib.Dec.{ltb}
use lib.ListN.{length, get_or}
use borrow.Author.Tests.{ltb-true, lt-ltb}
use Rattle.simulation.specs.Sets.{Set, count}
use Rattle.simulation.proofs.Sets.{and_make, and_l, and_r}
use Rattle.bits.specs.Word.{members}
use Rattle.session.specs.Limits.{word_bits}
use Rattle.session.specs.Trigger.{states, nodes, matches, admits}
use Rattle.session.specs.Layout.{trigger_of, graph_of}
use Rattle.pair_tables.specs.Tables.{marked, Admitted}
use Rattle.pair_tables.proofs.Tabling.{turned-admits}
use Rattle.session_parts.specs.Admission.{turned_in, admitted_at, AdmittedPairs}

module _ (xs : List ℕ) {masks values samples : List ℕ} (turned : ℕ) (masks-is : masks ≡ (trigger_of xs).masks) (values-is : values ≡ (trigger_of xs).values)
    (samples-is : samples ≡ (graph_of xs).samples) (turned-is : members turned ≡ turned_in xs) where
  -- what the loops compute is admission
  one-admitted : (u v : ℕ) → matches word_bits (members turned u) (get_or masks u 0) (get_or values u 0) (get_or samples v 0) ≡ admits (trigger_of xs) (graph_of xs) u v
  unfolding admits
  one-admitted u v =
      rw (masks-is, values-is, samples-is)
      (turned-admits (trigger_of xs).masks (trigger_of xs).inverted turned turned-is u (get_or (trigger_of xs).values u 0) (get_or (graph_of xs).samples v 0))

  -- all pairs
  pub pairs-admitted : {n : ℕ} {ts : List ℕ} → Admitted masks values turned samples n ts → AdmittedPairs xs n ts
  pairs-admitted {n} {ts} a = record {
    long = a.long;
    words = λ u v. a.words u v ∙ rw (one-admitted u v, ap length masks-is, ap length samples-is);
    counted =
        a.counted
        ∙ rw (ap length masks-is, ap length samples-is)
        (ap (count (nodes (graph_of xs) * states (trigger_of xs))) (fun_ext (λ p. one-admitted (p % states (trigger_of xs)) (p / states (trigger_of xs)))));
  }

  -- the states at a node
  pub node-admitted : (v : ℕ) {X : Set}
      → X ≡ (λ u. ltb u (length masks) && matches word_bits (members turned u) (get_or masks u 0) (get_or values u 0) (get_or samples v 0))
      → X ≡ admitted_at xs v
  node-admitted v e = e ∙ fun_ext (λ u. rw (one-admitted u v, ap length masks-is))

-- a pair of the table is an admitted one, and back
module _ (xs : List ℕ) {n : ℕ} {ts : List ℕ} (a : AdmittedPairs xs n ts) where
  abbrev few : ℕ → Set
  few u v = ltb v (nodes (graph_of xs)) && admits (trigger_of xs) (graph_of xs) u v

  pub admitted-take : (u v : ℕ) → marked ts u v ≡ true → (u < states (trigger_of xs)) × (v < nodes (graph_of xs)) × (admits (trigger_of xs) (graph_of xs) u v ≡ true)
  admitted-take u v h =
      let m = states (trigger_of xs) in
      let k = nodes (graph_of xs) in
      let fit = admits (trigger_of xs) (graph_of xs) u v in
      let e = sym (a.words u v) ∙ h in
      let r = and_r (ltb u m) (few u v) e in
      (ltb-true u m (and_l (ltb u m) (few u v) e), ltb-true v k (and_l (ltb v k) fit r), and_r (ltb v k) fit r)

  pub admitted_make : (u v : ℕ) → u < states (trigger_of xs) → v < nodes (graph_of xs) → admits (trigger_of xs) (graph_of xs) u v ≡ true → marked ts u v ≡ true
  admitted_make u v l k h = a.words u v ∙ and_make (lt-ltb u (states (trigger_of xs)) l) (and_make (lt-ltb v (nodes (graph_of xs)) k) h)
