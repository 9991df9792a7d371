-- One accepted edit of a valid graph: it stays valid, what stands grows or shrinks with it, and every changed pair has its chain.
use Prim.Native.Nat.{ℕ, ◌<◌}
use native.Mathlib.Nat.{lt_of_lt_of_le}
use native.Mathlib.Omega.{arith}
use mathlib.Core.Path.{◌≡◌, refl, sym, ◌∙◌}
use mathlib.Core.Bool.{Bool, true, false, not, ◌&&◌}
use lib.Dec.{ltb, leb}
use lib.ListN.{length}
use borrow.Author.Tests.{ltb-true, leb-false, not-false}
use Rattle.simulation.proofs.Terms.{joined}
use Rattle.simulation.proofs.Sets.{clash, and_l, and_r}
use Rattle.simulation.proofs.Plain.{joined-parted}
use Rattle.session.specs.Limits.{max_edges}
use Rattle.session.specs.Trigger.{Trigger, Graph, Marks, nodes, edge}
use Rattle.session.proofs.Valid.{GraphFacts, edge-insert, edge-remove, graph-insert, graph-remove}
use Rattle.listing.specs.Changes.{changes}
use Rattle.promises.specs.Standing.{stands}
use Rattle.promises.specs.Rules.{Kind, insertion, deletion, edited, graph_rules, verdict}
use Rattle.promises.specs.Demands.{Chain, holding}
use Rattle.promises.proofs.Verdicts.{verdict_pass}
use Rattle.promises.proofs.Chains.{stands_grows, stands-chain, only_gained}

module _ (g : Graph) (a b : ℕ) where
  abbrev inside : Bool
  inside = ltb a (nodes g) && ltb b (nodes g)

  -- rule 11 is passed: both nodes are in the graph
  named : not (ltb a (nodes g) && ltb b (nodes g)) ≡ false → (a < nodes g) × (b < nodes g)
  named h =
      let e = not-false inside h in
      (ltb-true a (nodes g) (and_l (ltb a (nodes g)) (ltb b (nodes g)) e), ltb-true b (nodes g) (and_r (ltb a (nodes g)) (ltb b (nodes g)) e))

  -- the rules of an accepted insertion, and of an accepted deletion
  pub insertion_passed : verdict (graph_rules insertion g a b) ≡ 0
      → (a < nodes g) × (b < nodes g) × (edge g a b ≡ false) × (length g.edges < max_edges)
  insertion_passed ok =
      let r11 = verdict_pass 11 (not inside) _ (omega arith) ok in
      let r12 = verdict_pass 12 (edge g a b) _ (omega arith) r11.1 in
      let r13 = verdict_pass 13 (leb max_edges (length g.edges)) _ (omega arith) r12.1 in
      let w = named r11.0 in
      (w.0, w.1, r12.0, leb-false max_edges (length g.edges) r13.0)

  pub deletion_passed : verdict (graph_rules deletion g a b) ≡ 0 → (a < nodes g) × (b < nodes g) × (edge g a b ≡ true)
  deletion_passed ok =
      let r11 = verdict_pass 11 (not inside) _ (omega arith) ok in
      let r14 = verdict_pass 14 (not (edge g a b)) _ (omega arith) r11.1 in
      let w = named r11.0 in
      (w.0, w.1, not-false (edge g a b) r14.0)

pub edited-facts : (k : Kind) (g : Graph) (a b : ℕ) → GraphFacts g → verdict (graph_rules k g a b) ≡ 0 → GraphFacts (edited k g a b)
edited-facts insertion g a b f ok = let w = insertion_passed g a b ok in graph-insert g a b f w.0 w.1 w.2 w.3
edited-facts deletion g a b f ok = graph-remove g a b f

-- an edit leaves the nodes, and so where a change stands in the list
pub edited-changes : (k : Kind) (t : Trigger) (g : Graph) (a b : ℕ) (before after : Marks) → changes t (edited k g a b) before after ≡ changes t g before after
unfolding changes
edited-changes insertion t g a b before after = refl
edited-changes deletion t g a b before after = refl

pub edited-samples : (k : Kind) (g : Graph) (a b : ℕ) → (edited k g a b).samples ≡ g.samples
edited-samples insertion g a b = refl
edited-samples deletion g a b = refl

pub edited-chain : (k : Kind) (t : Trigger) (g : Graph) (a b : ℕ) → GraphFacts g → verdict (graph_rules k g a b) ≡ 0
    → (u v : ℕ) → (stands t g u v ≡ stands t (edited k g a b) u v → ⊥)
    → Chain t (holding k g (edited k g a b)) (stands t g) (stands t (edited k g a b)) a u v
edited-chain insertion t g a b f ok u v differs =
    let w = insertion_passed g a b ok in
    let g' = edited insertion g a b in
    let more = edge-insert g a b (lt_of_lt_of_le w.1 f.few) in
    let d = only_gained (stands t g) (stands t g') u v (stands_grows t g.samples g.edges g'.edges a b more u v) differs in
    stands-chain t g.samples g.edges g'.edges a b more (stands t g) (stands t g') (λ u v old new e. clash new (sym e ∙ old)) u v d.0 d.1
edited-chain deletion t g a b f ok u v differs =
    let w = deletion_passed g a b ok in
    let g' = edited deletion g a b in
    let more : edge g ≡ joined (edge g') a b = rw (edge-remove g a b (lt_of_lt_of_le w.1 f.few)) (joined-parted (edge g) a b w.2) in
    let d = only_gained (stands t g') (stands t g) u v (stands_grows t g.samples g'.edges g.edges a b more u v) (λ e. differs (sym e)) in
    stands-chain t g.samples g'.edges g.edges a b more (stands t g) (stands t g') (λ u v old new e. clash new (e ∙ old)) u v d.0 d.1
