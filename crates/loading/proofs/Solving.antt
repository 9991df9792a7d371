-- From the admitted table and its refinement to the greatest simulation.
use Prim.Native.Nat.{ℕ, ◌-◌, ◌*◌, ◌/◌, ◌%◌, ◌^◌, ◌<◌}
use native.Mathlib.Omega.{arith}
use mathlib.Core.Path.{◌≡◌, refl, sym, ◌∙◌, ap}
use mathlib.Core.Bool.{true}
use mathlib.Core.List.{List}
use lib.ListN.{get_or, replicate, get_or-replicate}
use borrow.Author.Tests.{lt-ltb}
use Rattle.simulation.specs.Sets.{Set, none}
use Rattle.simulation.specs.System.{System, greatest, refined}
use Rattle.simulation.specs.Pattern.{pair, paired, system, best}
use Rattle.simulation.proofs.Sets.{clash, same}
use Rattle.simulation.proofs.System.{greatest-simulates, sandwich}
use Rattle.simulation.proofs.Pattern.{pair_inside, paired-pair, best_make, best-pair, node-inside, state-inside}
use Rattle.bits.specs.Word.{members, set_bits}
use Rattle.bits.proofs.Words.{full-members}
use Rattle.session.specs.Limits.{max_nodes}
use Rattle.session.specs.Trigger.{Trigger, Graph, Marks, states, nodes, pattern}
use Rattle.session.specs.Layout.{trigger_of, graph_of, in_layout}
use Rattle.session.proofs.Decoded.{LayoutFacts, layout-facts}
use Rattle.pair_tables.specs.Tables.{marked}
use Rattle.pair_tables.proofs.Tabling.{marked-none}
use Rattle.session_parts.specs.Admission.{AdmittedPairs}
use Rattle.session_parts.proofs.Admitted.{admitted-take, admitted_make}
use Rattle.worklist.specs.Waiting.{waits, waiting_words}
use Rattle.refinement.specs.Refining.{Settled}
use Rattle.promises.specs.Standing.{stands}
use Rattle.promises.proofs.Stands.{stands-inside}
use Rattle.refinement.proofs.Systems.{settled_refined}
use Rattle.loading.specs.Solved.{Solved}

-- words that are all ones: every node waits
pub all_wait : (v : ℕ) → v < max_nodes → waits (replicate waiting_words (2 ^ set_bits - 1)) v ≡ true
all_wait v l =
    ap (λ (w : ℕ). members w (v % set_bits)) (get_or-replicate waiting_words (v / set_bits) (2 ^ set_bits - 1) 0 (omega arith))
    ∙ ap (λ (X : Set). X (v % set_bits)) (full-members set_bits)
    ∙ lt-ltb (v % set_bits) set_bits (omega arith)

module _ (xs : List ℕ) (h : in_layout xs ≡ true) (r : ℕ) (ts₀ : List ℕ) (admitted : AdmittedPairs xs r ts₀) where
  abbrev facts : LayoutFacts xs
  facts = layout-facts xs h

  abbrev t : Trigger
  t = trigger_of xs

  abbrev g : Graph
  g = graph_of xs

  abbrev n : ℕ
  n = states (trigger_of xs)

  pub held-inside : (u v : ℕ) → marked ts₀ u v ≡ true → v < get_or xs 1 0
  held-inside u v e = rw facts.counts.1 (admitted-take xs admitted u v e).1

  module _ (ss ws ts : List ℕ) (empty : (v : ℕ) → get_or ss v 0 ≡ 0) (all_wait : (v : ℕ) → v < max_nodes → waits ws v ≡ true)
      (settled : Settled (nodes (graph_of xs)) (trigger_of xs).links (graph_of xs).edges ss ts₀ ws ts) where
    abbrev s : System
    s = system (pattern (trigger_of xs) (graph_of xs))

    T : List ℕ → Set
    T zs = paired (pattern t g) (marked zs)

    -- what is left is refined from all that is admitted: no pair is settled before
    left : (p : ℕ) → p < nodes (graph_of xs) * states (trigger_of xs) → T ts p ≡ refined s none (T ts₀) p
    unfolding T
    left p l =
        settled_refined t g facts.trigger facts.graph ss ts₀ ws ts settled
        (λ q k h idle. clash (all_wait (q / n) (omega (arith, facts.graph.few, node-inside (pattern t g) q k))) idle)
        p l
        ∙ ap (λ (m : Marks). refined s (paired (pattern t g) m) (paired (pattern t g) (marked ts₀)) p) (marked-none ss empty)

    refined-greatest : refined s none (T ts₀) ≡ greatest s
    unfolding T
    refined-greatest =
        sandwich s none (T ts₀) (λ p h. clash h refl)
        (λ p h.
        let i = (greatest-simulates s).inside p h in
        admitted_make xs admitted (p % n) (p / n) (state-inside (pattern t g) p i) (node-inside (pattern t g) p i) ((greatest-simulates s).admits p h))
        (λ p h. (admitted-take xs admitted (p % n) (p / n) h).2)

    solved : (u v : ℕ) → marked ts u v ≡ stands (trigger_of xs) (graph_of xs) u v
    unfolding stands T
    solved u v = same (marked ts u v) (stands t g u v) there back
      where
        at_pair : u < states t → v < nodes g → marked ts u v ≡ greatest s (pair (pattern t g) u v)
        at_pair l k =
            sym (paired-pair (pattern t g) (marked ts) u v l)
            ∙ left (pair (pattern t g) u v) (pair_inside (pattern t g) u v l k)
            ∙ ap (λ (X : Set). X (pair (pattern t g) u v)) refined-greatest

        there : marked ts u v ≡ true → best (pattern t g) u v ≡ true
        there h =
            let i = admitted-take xs admitted u v (settled.within u v h) in
            best_make (pattern t g) u v i.0 (sym (at_pair i.0 i.1) ∙ h)

        back : best (pattern t g) u v ≡ true → marked ts u v ≡ true
        back h =
            let i = stands-inside t g u v h in
            at_pair i.0 i.1 ∙ best-pair (pattern t g) u v h

  pub held_solved : (links edges ss ws ts : List ℕ) → links ≡ (trigger_of xs).links → edges ≡ (graph_of xs).edges → ((v : ℕ) → get_or ss v 0 ≡ 0)
      → ((v : ℕ) → v < max_nodes → waits ws v ≡ true) → Settled (get_or xs 1 0) links edges ss ts₀ ws ts → Solved xs r ts
  held_solved links edges ss ws ts links-is edges-is empty all_wait settled =
      let done : Settled (nodes (graph_of xs)) (trigger_of xs).links (graph_of xs).edges ss ts₀ ws ts =
      rw (facts.counts.1, links-is, edges-is) at settled in
      record {
        long = done.long ∙ admitted.long;
        marks = solved ss ws ts empty all_wait done;
        trials = admitted.counted;
      }
