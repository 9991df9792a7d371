-- One look at a node, from what its calls ensure.
use Prim.Native.Nat.{ℕ, ◌<◌}
use native.Mathlib.Omega.{arith}
use mathlib.Core.Path.{◌≡◌, refl, sym, ◌∙◌, ap}
use mathlib.Core.Bool.{Bool, true, false, ◌&&◌, ◌||◌, or-false, and-not_self}
use mathlib.Core.Path.{fun_ext}
use mathlib.Core.List.{List}
use lib.ListN.{length, get_or, set, length-set}
use lib.Seq.{get_or-set_same, get_or-set_other}
use Rattle.simulation.specs.Sets.{Set, minus, without, any_below}
use Rattle.simulation.proofs.Sets.{clash, refuted, and_none, any_take}
use Rattle.bits.specs.Word.{members, overlaps, set_bits}
use Rattle.bits.proofs.Words.{zero-members}
use Rattle.session.specs.Limits.{edge_numbers}
use Rattle.session.specs.Layout.{below}
use Rattle.session.proofs.Tables.{below_make}
use Rattle.links.specs.Links.{links_to}
use Rattle.refinement.specs.Refining.{kept_of, Sound, Turned}
use Rattle.edge_indexes.specs.Indexes.{edges_from, predecessors}
use Rattle.worklist.specs.Waiting.{waits}
use Rattle.links.proofs.LinkSets.{links-none}

-- edges between nodes are small numbers
pub sound_below : (nodes : ℕ) (links es : List ℕ) → Sound nodes links es → below edge_numbers es ≡ true
sound_below nodes links es s = below_make edge_numbers es (λ k l. omega (arith, s.starts k l, s.few_nodes))

module _ (links es ss ts ws : List ℕ) (v : ℕ) (inside : v < length ts) (ws₁ : List ℕ) (long : length ws₁ ≡ length ws)
    (out : waits ws₁ ≡ without (waits ws) v) (left : ℕ) (kept : members left ≡ kept_of (get_or ts v 0) links (edges_from es v) ss ts) where
  -- pairs were cleared, and the predecessors that hold a state with a link to one that went are called in
  pub turned_cleared : (ws' : List ℕ) (gone shaken : ℕ) → length ws' ≡ length ws → members gone ≡ minus (members (get_or ts v 0)) (members left)
      → members shaken ≡ links_to links gone
      → waits ws' ≡ (λ w. waits ws₁ w || (predecessors es v w && overlaps (get_or (set ts v left) w 0) shaken))
      → Turned links es ss ts ws v (set ts v left) ws'
  turned_cleared ws' gone shaken long' lost shakes called =
      let here : get_or (set ts v left) v 0 ≡ left = get_or-set_same ts v left 0 inside in
      record {
        table_long = length-set ts v left;
        waits_long = long';
        others = λ w away. get_or-set_other ts v w left 0 away;
        here = ap members here ∙ kept;
        gone = gone;
        went = lost ∙ ap (λ (x : ℕ). minus (members (get_or ts v 0)) (members x)) (sym here);
        waiting = called
            ∙ fun_ext
            (λ w.
            ap (λ (X : Set). X w || (predecessors es v w && overlaps (get_or (set ts v left) w 0) shaken)) out
            ∙ ap (λ (Y : Set). without (waits ws) v w || (predecessors es v w && any_below set_bits (λ u. members (get_or (set ts v left) w 0) u && Y u))) shakes);
      }

  -- nothing was cleared
  pub turned_stayed : left ≡ get_or ts v 0 → Turned links es ss ts ws v ts ws₁
  turned_stayed e = record {
    table_long = refl;
    waits_long = long;
    others = λ w away. refl;
    here = ap members (sym e) ∙ kept;
    gone = 0;
    went = fun_ext (λ u. zero-members u ∙ sym (and-not_self (members (get_or ts v 0) u)));
    waiting = out
        ∙ fun_ext
        (λ w.
        sym
        (ap (λ (b : Bool). without (waits ws) v w || b)
        (ap (λ (X : Set). predecessors es v w && any_below set_bits X) (fun_ext (λ u. and_none (members (get_or ts w 0) u) (links-none set_bits links u)))
        ∙ and_none (predecessors es v w) (any_none set_bits))
        ∙ or-false (without (waits ws) v w)));
  }
    where
      any_none : (k : ℕ) → any_below k (λ u. false) ≡ false
      any_none k = refuted (any_below k (λ u. false)) (λ h. clash (any_take k (λ u. false) h).2 refl)
