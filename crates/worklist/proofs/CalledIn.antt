-- The predecessors of a node called in: by the index, or by all edges.
use Prim.Native.Nat.{ℕ, ◌+◌, ◌-◌, ◌/◌, ◌%◌, ◌<◌}
use native.Mathlib.Numerals.{add-one}
use mathlib.Core.Path.{◌≡◌, refl, sym, ap, subst, fun_ext, ◌∙◌}
use mathlib.Core.Logic.{⊎_elim}
use mathlib.Core.Bool.{Bool, true, false, ◌&&◌, ◌||◌, or-false, or_comm}
use mathlib.Core.List.{List}
use lib.Dec.{eqb}
use lib.ListN.{length, get_or}
use borrow.Author.Tests.{eqb-true, eqb-false, eq-eqb}
use Rattle.simulation.specs.Sets.{Set, any_below, also}
use Rattle.simulation.proofs.Sets.{clash, split, refuted, and_l, and_r, or-both}
use Rattle.worklist.specs.Waiting.{waits}
use Rattle.edge_indexes.specs.Indexes.{ends_at, Indexed, predecessors}
use Rattle.edge_indexes.proofs.Incoming.{called, called-all, Chained, chained_head, called-head, chained_next, called-next}
use Rattle.session.specs.Limits.{max_nodes}

-- ---- the predecessors called in

-- those by the edges that are not left, and that pass the test P, wait
pub record Calling (es : List ℕ) (P : Set) (v : ℕ) (ws ws' : List ℕ) (n : ℕ) : Type 0 where
  pub chain : Chained es v n
  pub waiting : waits ws' ≡ (λ w. waits ws w || (called es v n w && P w))

pub calling_done : {es : List ℕ} {P : Set} {v : ℕ} {ws ws' : List ℕ} → Calling es P v ws ws' 0 → waits ws' ≡ (λ w. waits ws w || (predecessors es v w && P w))
calling_done {es} {P} {v} {ws} y = y.waiting ∙ fun_ext (λ w. ap (λ (b : Bool). waits ws w || (b && P w)) (called-all es v w))

module _ {es heads nexts : List ℕ} (x : Indexed es heads nexts) (P : Set) where
  pub calling_none : (v : ℕ) (ws : List ℕ) → v < max_nodes → Calling es P v ws ws (get_or heads v 0)
  calling_none v ws h =
      record {
        chain = chained_head x v h;
        waiting = fun_ext (λ w. sym (ap (λ (b : Bool). waits ws w || (b && P w)) (called-head x v w h) ∙ or-false (waits ws w)));
      }

  module _ {v n : ℕ} {ws ws' : List ℕ} (y : Calling es P v ws ws' n) (some : n ≡ 0 → ⊥) where
    abbrev start : ℕ
    start = get_or es (n - 1) 0 / max_nodes

    -- with one edge less left
    one_more : (w : ℕ) → (waits ws w || (called es v (get_or nexts (n - 1) 0) w && P w)) ≡ (waits ws' w || (eqb w start && P w))
    one_more w =
        ap (λ (b : Bool). waits ws w || (b && P w)) (called-next x y.chain some w)
        ∙ sym (or-both (waits ws w) (called es v n w) (eqb w start) (P w))
        ∙ ap (λ (X : Set). X w || (eqb w start && P w)) (sym y.waiting)

    -- the start of the edge passes and is put in, or fails
    pub calling_more : {ws'' : List ℕ} → P start ≡ true → waits ws'' ≡ also (waits ws') start → Calling es P v ws ws'' (get_or nexts (n - 1) 0)
    calling_more {ws''} pass e =
        record {
          chain = chained_next x y.chain some;
          waiting = e ∙ fun_ext (λ w. ap (λ (b : Bool). waits ws' w || b) (here w) ∙ sym (one_more w));
        }
      where
        here : (w : ℕ) → eqb w start ≡ (eqb w start && P w)
        here w =
            ⊎_elim
            (λ (t : eqb w start ≡ true). rw t (rw (eqb-true w start t) (sym pass)))
            (λ (t : eqb w start ≡ false). rw t refl)
            (split (eqb w start))

    pub calling_pass : P start ≡ false → Calling es P v ws ws' (get_or nexts (n - 1) 0)
    calling_pass fails =
        record {
          chain = chained_next x y.chain some;
          waiting = fun_ext (λ w. sym (one_more w ∙ ap (λ (b : Bool). waits ws' w || b) (none w) ∙ or-false (waits ws' w)));
        }
      where
        none : (w : ℕ) → (eqb w start && P w) ≡ false
        none w =
            ⊎_elim
            (λ (t : eqb w start ≡ true). rw t (rw (eqb-true w start t) fails))
            (λ (t : eqb w start ≡ false). rw t refl)
            (split (eqb w start))

-- ---- without an index: those by the first k edges, and that pass the test P, wait

module _ (es : List ℕ) (P : Set) (v : ℕ) where
  -- w has one of the first k edges, and it leads to v
  abbrev pub leads_to : ℕ → Set
  leads_to k w = any_below k (λ j. ends_at es v j && eqb (get_or es j 0 / max_nodes) w)

  pub leads-none : (ws : List ℕ) → waits ws ≡ (λ w. waits ws w || (leads_to 0 w && P w))
  unfolding any_below
  leads-none ws = fun_ext (λ w. sym (or-false (waits ws w)))

  pub leads-more : (ws ws' ws'' : List ℕ) (k : ℕ) → waits ws' ≡ (λ w. waits ws w || (leads_to k w && P w))
      → waits ws'' ≡ (λ w. waits ws' w || ((ends_at es v k && eqb (get_or es k 0 / max_nodes) w) && P w))
      → waits ws'' ≡ (λ w. waits ws w || (leads_to (k + 1) w && P w))
  unfolding any_below
  leads-more ws ws' ws'' k e h =
      h
      ∙ fun_ext
      (λ w.
      ap (λ (X : Set). X w || ((ends_at es v k && eqb (get_or es k 0 / max_nodes) w) && P w)) e
      ∙ or-both (waits ws w) (leads_to k w) (ends_at es v k && eqb (get_or es k 0 / max_nodes) w) (P w)
      ∙ ap (λ (b : Bool). waits ws w || (b && P w)) (or_comm (leads_to k w) (ends_at es v k && eqb (get_or es k 0 / max_nodes) w))
      ∙ ap (λ (n : ℕ). waits ws w || (leads_to n w && P w)) (sym (add-one k)))

  pub leads-all : (w : ℕ) → leads_to (length es) w ≡ predecessors es v w
  unfolding predecessors
  leads-all w = refl

-- one edge: its start is put in, or nothing is
module _ (edge v : ℕ) (P : Set) (ws : List ℕ) where
  abbrev starts_here : Set
  starts_here w = (eqb (edge % max_nodes) v && eqb (edge / max_nodes) w) && P w

  pub one_in : (ws' : List ℕ) → edge % max_nodes ≡ v → P (edge / max_nodes) ≡ true → waits ws' ≡ also (waits ws) (edge / max_nodes)
      → waits ws' ≡ (λ w. waits ws w || starts_here w)
  one_in ws' at pass e =
      e
      ∙ fun_ext
      (λ w.
      ap (λ (b : Bool). waits ws w || b)
      (⊎_elim
      (λ (t : eqb w (edge / max_nodes) ≡ true).
      t ∙ sym (rw (eqb-true w (edge / max_nodes) t, eq-eqb (edge % max_nodes) v at, eq-eqb (edge / max_nodes) (edge / max_nodes) refl) pass))
      (λ (t : eqb w (edge / max_nodes) ≡ false).
      t
      ∙ sym
      (refuted (starts_here w)
      (λ h.
      eqb-false w (edge / max_nodes) t
      (sym (eqb-true (edge / max_nodes) w (and_r (eqb (edge % max_nodes) v) (eqb (edge / max_nodes) w) (and_l (eqb (edge % max_nodes) v && eqb (edge / max_nodes) w) (P w) h)))))))
      (split (eqb w (edge / max_nodes)))))

  pub start_fails : P (edge / max_nodes) ≡ false → (w : ℕ) → starts_here w ≡ false
  start_fails fails w =
      refuted (starts_here w)
      (λ h.
      let here = eqb-true (edge / max_nodes) w (and_r (eqb (edge % max_nodes) v) (eqb (edge / max_nodes) w) (and_l (eqb (edge % max_nodes) v && eqb (edge / max_nodes) w) (P w) h)) in
      clash (and_r (eqb (edge % max_nodes) v && eqb (edge / max_nodes) w) (P w) h) (subst (λ (x : ℕ). P x ≡ false) here fails))
