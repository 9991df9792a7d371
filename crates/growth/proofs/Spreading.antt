-- One look at a node: a node that gains states, and the predecessors one by one.
use Prim.Native.Nat.{ℕ, ◌-◌, ◌/◌, ◌<◌}
use mathlib.Core.Path.{◌≡◌, refl, sym, ap, ap₂, fun_ext, ◌∙◌}
use mathlib.Core.Logic.{⊎_elim}
use mathlib.Core.Bool.{Bool, true, false, not, ◌&&◌, ◌||◌, or-false, or_assoc, and_comm}
use mathlib.Core.List.{List}
use lib.Bits.{bit_and}
use lib.Dec.{eqb}
use lib.ListN.{length, get_or, set, length-set}
use lib.Seq.{get_or-set_same, get_or-set_other}
use borrow.Author.Tests.{eqb-true, eqb-false, eq-eqb, ne_eqb}
use Rattle.simulation.specs.Sets.{Set, also, union, without}
use Rattle.simulation.proofs.Sets.{split, same, or_l, or-both}
use Rattle.bits.specs.Word.{members}
use Rattle.bits.proofs.Words.{and-members, same-members}
use Rattle.links.specs.Links.{links_to}
use Rattle.pair_tables.specs.Tables.{marked}
use Rattle.worklist.specs.Waiting.{waits, waiting_words}
use Rattle.edge_indexes.specs.Indexes.{Indexed}
use Rattle.edge_indexes.proofs.Incoming.{Chained, chained_head, chained_next, called, called-head, called-next, called-all}
use Rattle.growth.specs.Growth.{TriedAt, Spread}
use Rattle.session.specs.Limits.{max_nodes}

-- ---- a node that gains states

module _ (ts ws : List ℕ) (v more wider : ℕ) (wide : members wider ≡ union (members (get_or ts v 0)) (members more)) where
  pub tried-more : {ws' : List ℕ} → v < length ts → length ws' ≡ length ws → (wider ≡ get_or ts v 0 → ⊥) → waits ws' ≡ also (waits ws) v
      → TriedAt ts ws v more (set ts v wider) ws'
  tried-more {ws'} l long ne e =
      record {
        table_long = length-set ts v wider;
        waits_long = long;
        words = λ u w. ⊎_elim (λ (t : eqb w v ≡ true). here u w t) (λ (t : eqb w v ≡ false). away u w t) (split (eqb w v));
        waiting = λ w. ap (λ (X : Set). X w) e ∙ ap (λ (b : Bool). waits ws w || b) (changed w);
      }
    where
      here : (u w : ℕ) → eqb w v ≡ true → marked (set ts v wider) u w ≡ (marked ts u w || (eqb w v && members more u))
      here u w t = rw t (rw (eqb-true w v t, get_or-set_same ts v wider 0 l) (ap (λ (X : Set). X u) wide))

      away : (u w : ℕ) → eqb w v ≡ false → marked (set ts v wider) u w ≡ (marked ts u w || (eqb w v && members more u))
      away u w t = rw (t, or-false, get_or-set_other ts v w wider 0 (eqb-false w v t)) refl

      changed : (w : ℕ) → eqb w v ≡ not (eqb (get_or (set ts v wider) w 0) (get_or ts w 0))
      changed w =
          ⊎_elim
          (λ (t : eqb w v ≡ true).
          rw t (rw (eqb-true w v t, get_or-set_same ts v wider 0 l, ne_eqb wider (get_or ts v 0) ne) refl))
          (λ (t : eqb w v ≡ false).
          rw (t, get_or-set_other ts v w wider 0 (eqb-false w v t), eq-eqb (get_or ts w 0) (get_or ts w 0) refl) refl)
          (split (eqb w v))

  pub tried-none : wider ≡ get_or ts v 0 → TriedAt ts ws v more ts ws
  tried-none e =
      record {
        table_long = refl;
        waits_long = refl;
        words = λ u w. sym (⊎_elim (λ (t : eqb w v ≡ true). here u w t) (λ (t : eqb w v ≡ false). rw (t, or-false) refl) (split (eqb w v)));
        waiting = λ w. sym (rw (eq-eqb (get_or ts w 0) (get_or ts w 0) refl, or-false) refl);
      }
    where
      here : (u w : ℕ) → eqb w v ≡ true → (marked ts u w || (eqb w v && members more u)) ≡ marked ts u w
      here u w t = rw t (rw (eqb-true w v t) (sym (ap (λ (X : Set). X u) wide) ∙ ap (λ (x : ℕ). members x u) e))

-- ---- the predecessors of v: n edges are left

-- `able` are the states with a link to v; the predecessors by the other edges have their pairs, and wait where they gained one
pub record Spreading (es fs : List ℕ) (v able : ℕ) (ts ws ts' ws' : List ℕ) (n : ℕ) : Type 0 where
  pub table_long : length ts' ≡ max_nodes
  pub waits_long : length ws' ≡ waiting_words
  pub chain : Chained es v n
  pub words : (u w : ℕ) → marked ts' u w ≡ (marked ts u w || (called es v n w && (marked fs u w && members able u)))
  pub waiting : (w : ℕ) → waits ws' w ≡ (waits ws w || not (eqb (get_or ts' w 0) (get_or ts w 0)))

module _ {es heads nexts : List ℕ} (x : Indexed es heads nexts) (fs : List ℕ) (v able : ℕ) (ts ws : List ℕ) where
  pub spreading_start : v < max_nodes → length ts ≡ max_nodes → length ws ≡ waiting_words → Spreading es fs v able ts ws ts ws (get_or heads v 0)
  spreading_start h long waits_long =
      record {
        table_long = long;
        waits_long = waits_long;
        chain = chained_head x v h;
        words = λ u w. sym (rw (called-head x v w h, or-false) refl);
        waiting = λ w. sym (rw (eq-eqb (get_or ts w 0) (get_or ts w 0) refl, or-false) refl);
      }

  module _ {ts' ws' : List ℕ} {n : ℕ} (y : Spreading es fs v able ts ws ts' ws' n) (some : n ≡ 0 → ⊥) where
    abbrev start : ℕ
    start = get_or es (n - 1) 0 / max_nodes

    pub spreading_more : {ts'' ws'' : List ℕ} → TriedAt ts' ws' (get_or es (n - 1) 0 / max_nodes) (bit_and able (get_or fs (get_or es (n - 1) 0 / max_nodes) 0)) ts'' ws''
        → Spreading es fs v able ts ws ts'' ws'' (get_or nexts (n - 1) 0)
    spreading_more {ts''} {ws''} t =
        record {
          table_long = t.table_long ∙ y.table_long;
          waits_long = t.waits_long ∙ y.waits_long;
          chain = chained_next x y.chain some;
          words = words;
          waiting = waiting;
        }
      where
        more : (u w : ℕ) → (eqb w start && members (bit_and able (get_or fs start 0)) u) ≡ (eqb w start && (marked fs u w && members able u))
        more u w =
            ⊎_elim
            (λ (q : eqb w start ≡ true). rw q (rw (eqb-true w start q) (and-members able (get_or fs start 0) u ∙ and_comm (members able u) (marked fs u start))))
            (λ (q : eqb w start ≡ false). rw q refl)
            (split (eqb w start))

        words : (u w : ℕ) → marked ts'' u w ≡ (marked ts u w || (called es v (get_or nexts (n - 1) 0) w && (marked fs u w && members able u)))
        words u w =
            t.words u w
            ∙ ap₂ ◌||◌ (y.words u w) (more u w)
            ∙ or-both (marked ts u w) (called es v n w) (eqb w start) (marked fs u w && members able u)
            ∙ ap (λ (b : Bool). marked ts u w || (b && (marked fs u w && members able u))) (sym (called-next x y.chain some w))

        -- words only gain states, so one that changed stays changed
        grows : (w : ℕ) → get_or ts'' w 0 ≡ get_or ts w 0 → get_or ts' w 0 ≡ get_or ts w 0
        grows w e =
            same-members (get_or ts' w 0) (get_or ts w 0)
            (fun_ext
            (λ u.
            same (marked ts' u w) (marked ts u w)
            (λ h. sym (ap (λ (k : ℕ). members k u) e) ∙ t.words u w ∙ or_l (eqb w start && members (bit_and able (get_or fs start 0)) u) h)
            (λ h. y.words u w ∙ or_l (called es v n w && (marked fs u w && members able u)) h)))

        joined : (a b c : ℕ) → (c ≡ a → b ≡ a) → (not (eqb b a) || not (eqb c b)) ≡ not (eqb c a)
        joined a b c h =
            ⊎_elim
            (λ (q : eqb c a ≡ true).
            let ca = eqb-true c a q in
            rw (h ca, ca, eq-eqb a a refl) refl)
            (λ (q : eqb c a ≡ false).
            ⊎_elim
            (λ (p : eqb b a ≡ true). rw (p, eqb-true b a p) refl)
            (λ (p : eqb b a ≡ false). rw (p, q) refl)
            (split (eqb b a)))
            (split (eqb c a))

        waiting : (w : ℕ) → waits ws'' w ≡ (waits ws w || not (eqb (get_or ts'' w 0) (get_or ts w 0)))
        waiting w =
            t.waiting w
            ∙ ap (λ (b : Bool). b || not (eqb (get_or ts'' w 0) (get_or ts' w 0))) (y.waiting w)
            ∙ or_assoc (waits ws w) (not (eqb (get_or ts' w 0) (get_or ts w 0))) (not (eqb (get_or ts'' w 0) (get_or ts' w 0)))
            ∙ ap (λ (b : Bool). waits ws w || b) (joined (get_or ts w 0) (get_or ts' w 0) (get_or ts'' w 0) (grows w))

-- no edge is left
pub spreading_done : (links : List ℕ) {es fs : List ℕ} {v able : ℕ} {ts ws ws₁ ts' ws' : List ℕ} → Spreading es fs v able ts ws₁ ts' ws' 0
    → length ts ≡ max_nodes → length ws ≡ waiting_words → members able ≡ links_to links (get_or ts v 0) → waits ws₁ ≡ without (waits ws) v
    → Spread links es fs ts ws v ts' ws'
spreading_done links {es} {fs} {v} {able} {ts} {ws} {ws₁} {ts'} {ws'} y long waits_long linked out =
    record {
      table_long = y.table_long ∙ sym long;
      waits_long = y.waits_long ∙ sym waits_long;
      words = λ u w.
          y.words u w
          ∙ ap₂ (λ (b c : Bool). marked ts u w || (b && (marked fs u w && c))) (called-all es v w) (ap (λ (X : Set). X u) linked);
      waiting = λ w. y.waiting w ∙ ap (λ (X : Set). X w || not (eqb (get_or ts' w 0) (get_or ts w 0))) out;
    }
