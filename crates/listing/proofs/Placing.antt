-- The change list as it is written: state by state, node by node, from a place of the room on.
use Prim.Native.Nat.{ℕ, zero, suc, ◌+◌, ◌*◌, ◌/◌, ◌%◌, ◌<◌, ◌≤◌}
use native.Mathlib.Nat.{add-zero, add-suc, add_assoc, zero-mul, suc-mul}
use native.Mathlib.Numerals.{add-one}
use native.Mathlib.Omega.{arith}
use mathlib.Core.Path.{◌≡◌, refl, sym, ap, ap₂, ◌∙◌}
use mathlib.Core.Logic.{⊎_elim}
use mathlib.Core.Bool.{Bool, true, false, not, ◌&&◌, beq, cond, and-true}
use mathlib.Core.List.{List, [], ◌∷◌, ◌++◌, append-nil, append_assoc}
use lib.Arith.{digits_mod, digits_div}
use lib.Bits.{bit_and}
use lib.Dec.{ltb, eqb}
use lib.IntN.{ℤ}
use lib.ListN.{length, get_or, take, drop, set, length-append, length-take, length-drop, length-set, take-append-drop}
use lib.Seq.{set_split, take_at, drop-append-add, drop-drop, length-take-le}
use borrow.Author.Tests.{ltb-true, lt-ltb, eq-eqb, ne_eqb}
use Rattle.simulation.specs.Sets.{Set, without}
use Rattle.simulation.proofs.Sets.{and_l, and_r}
use Rattle.simulation.proofs.Search.{lt-or-le}
use Rattle.bits.specs.Word.{members}
use Rattle.bits.proofs.Words.{zero-members, and-members}
use Rattle.pair_tables.specs.Tables.{marked}
use Rattle.listing.specs.Changes.{size_of, signed, change, join_to}
use Rattle.listing.specs.Placed.{node_changes, table_changes, Placed}
use Rattle.listing.proofs.Lists.{change-short, change-none, join_short, join_none}

-- ---- lists joined one after the other

join_add : (a b : ℕ) (f : ℕ → List ℤ) → join_to (a + b) f ≡ join_to a f ++ join_to b (λ u. f (a + u))
unfolding join_to
join_add a zero f = rw add-zero (sym (append-nil (join_to a f)))
join_add a (suc b) f =
    rw (add-suc, join_add a b f) (append_assoc (join_to a f) (join_to b (λ u. f (a + u))) (f (a + b)))

join_same : (n : ℕ) (f g : ℕ → List ℤ) → ((u : ℕ) → u < n → f u ≡ g u) → join_to n f ≡ join_to n g
unfolding join_to
join_same zero f g h = refl
join_same (suc n) f g h = ap₂ ◌++◌ (join_same n f g (λ u l. h u (omega arith))) (h n (omega arith))

-- ---- the changes of a node, and of the nodes below v

pub node-same : (v n b : ℕ) → node_changes v n b b ≡ []
unfolding node_changes
node-same v n b =
    join_none (λ u. change (members b u) (members b u) (size_of u v)) n (λ u l. change-none (members b u) (size_of u v))

pub node-short : (v n b a : ℕ) → length (node_changes v n b a) ≤ n
unfolding node_changes
node-short v n b a =
    join_short (λ u. change (members b u) (members a u) (size_of u v)) (λ u. change-short (members b u) (members a u) (size_of u v)) n

module _ (n : ℕ) (bs cs : List ℕ) where
  abbrev at_pair : ℕ → ℕ → List ℤ
  at_pair u v = change (marked bs u v) (marked cs u v) (size_of u v)

  pub table_none : table_changes n 0 bs cs ≡ []
  unfolding table_changes join_to
  table_none = rw zero-mul

  pub table_more : (v : ℕ) → table_changes n (v + 1) bs cs ≡ table_changes n v bs cs ++ node_changes v n (get_or bs v 0) (get_or cs v 0)
  unfolding table_changes node_changes
  table_more v =
      rw (add-one, suc-mul)
      (join_add (v * n) n (λ p. at_pair (p % n) (p / n))
      ∙ ap (λ (l : List ℤ). join_to (v * n) (λ p. at_pair (p % n) (p / n)) ++ l)
      (join_same n (λ u. at_pair ((v * n + u) % n) ((v * n + u) / n)) (λ u. at_pair u v)
      (λ u l. ap₂ at_pair (digits_mod v l) (digits_div v l))))

  -- tables that agree
  pub table_same : (v : ℕ) → ((k : ℕ) → k < v → get_or bs k 0 ≡ get_or cs k 0) → table_changes n v bs cs ≡ []
  table_same zero h = table_none
  table_same (suc v) h =
      ap (λ (k : ℕ). table_changes n k bs cs) (sym (add-one v))
      ∙ table_more v
      ∙ ap₂ ◌++◌ (table_same v (λ k l. h k (omega arith)))
      (ap (λ (x : ℕ). node_changes v n x (get_or cs v 0)) (h v (omega arith)) ∙ node-same v n (get_or cs v 0))

  pub table-short : (v : ℕ) → length (table_changes n v bs cs) ≤ v * n
  unfolding table_changes
  table-short v =
      join_short (λ p. at_pair (p % n) (p / n))
      (λ p. change-short (marked bs (p % n) (p / n)) (marked cs (p % n) (p / n)) (size_of (p % n) (p / n))) (v * n)

-- ---- the room, and any list that is written into another

pub placed-start : {A : Type 0} (room : List A) (at : ℕ) → Placed room at [] room at
placed-start room at = record { written = rw add-zero (sym (take-append-drop at room)); past = omega arith }

-- a list after another
pub placed-append : {A : Type 0} {room l₁ room₁ l₂ room₂ : List A} {at n₁ n₂ : ℕ} → at ≤ length room → Placed room at l₁ room₁ n₁ → Placed room₁ n₁ l₂ room₂ n₂
    → Placed room at (l₁ ++ l₂) room₂ n₂
placed-append {A} {room} {l₁} {room₁} {l₂} {room₂} {at} {n₁} {n₂} h p q =
    record {
      written = q.written ∙ ap₂ (λ (x y : List A). x ++ (l₂ ++ y)) front back
          ∙ append_assoc (take at room) l₁ (l₂ ++ drop (at + length (l₁ ++ l₂)) room)
          ∙ ap (λ (x : List A). take at room ++ x) (sym (append_assoc l₁ l₂ (drop (at + length (l₁ ++ l₂)) room)));
      past = omega (arith, p.past, q.past, length-append l₁ l₂);
    }
  where
    apart : room₁ ≡ (take at room ++ l₁) ++ drop (at + length l₁) room
    apart = p.written ∙ sym (append_assoc (take at room) l₁ (drop (at + length l₁) room))

    long : length (take at room ++ l₁) ≡ n₁
    long = omega (arith, length-append (take at room) l₁, length-take-le at room h, p.past)

    front : take n₁ room₁ ≡ take at room ++ l₁
    front = rw apart (take_at (take at room ++ l₁) (drop (at + length l₁) room) n₁ long)

    back : drop (n₁ + length l₂) room₁ ≡ drop (at + length (l₁ ++ l₂)) room
    back =
        rw (apart, ← long, drop-append-add (take at room ++ l₁) (drop (at + length l₁) room) (length l₂), drop-drop, length-append, add_assoc)

-- one number
pub placed_one : {A : Type 0} (room : List A) (at : ℕ) (z : A) → at < length room → Placed room at (z ∷ []) (set room at z) (at + 1)
placed_one room at z h = record { written = rw add-one (set_split room at z h); past = refl }

-- the room keeps its length
pub placed-long : {A : Type 0} {room list now : List A} {at next : ℕ} → Placed room at list now next → next ≤ length room → length now ≡ length room
placed-long {A} {room} {list} {now} {at} {next} p h =
    omega (
      arith,
      ap length p.written,
      p.past,
      length-append (take at room) (list ++ drop (at + length list) room),
      length-append list (drop (at + length list) room),
      length-take at room,
      length-drop (at + length list) room,
    )

-- ---- the numbers of a set, listed by f

unfoldable pub listed : ℕ → (ℕ → ℤ) → Set → List ℤ
listed n f X = join_to n (λ u. cond (X u) (f u ∷ []) [])

listed-none : (n : ℕ) (f : ℕ → ℤ) (X : Set) → ((u : ℕ) → u < n → X u ≡ false) → listed n f X ≡ []
unfolding listed
listed-none n f X h = join_none (λ u. cond (X u) (f u ∷ []) []) n (λ u l. rw (h u l))

-- the lowest number, then the others
listed_next : (n : ℕ) (f : ℕ → ℤ) (X : Set) (u : ℕ) → u < n → X u ≡ true → ((i : ℕ) → i < u → X i ≡ false)
    → listed n f X ≡ f u ∷ listed n f (without X u)
unfolding listed join_to
listed_next zero f X u l m h = absurd (omega arith)
listed_next (suc n) f X u l m h =
    ⊎_elim
    (λ (k : u < n).
    rw (listed_next n f X u k m h, ne_eqb n u (omega arith), and-true))
    (λ (k : n ≤ u).
    let e : u ≡ n = omega arith in
    let here : X n ≡ true = ap X (sym e) ∙ m in
    rw (
      e,
      here,
      eq-eqb n n refl,
      listed-none n f X (λ i b. h i (omega arith)),
      listed-none n f (without X n) (λ i b. rw (h i (omega arith))),
    ))
    (lt-or-le u n)

-- ---- the changes of a node: those that are left are the states of a word

-- where the marks differ there is a change, by the mark after
change-is : (b c : Bool) (n : ℕ) → cond (not (beq b c)) (signed c n ∷ []) [] ≡ change b c n
change-is true true n = refl
change-is true false n = refl
change-is false true n = refl
change-is false false n = refl

-- the changes of the states in X, at the node v
abbrev pub left : ℕ → ℕ → ℕ → Set → List ℤ
left v n a X = listed n (λ u. signed (members a u) (size_of u v)) X

-- the changes of the node v in the words b and a, below the state n; those of the states in `rest` are not written yet
pub record Writing (room : List ℤ) (at v n b a : ℕ) (now : List ℤ) (next rest : ℕ) : Type 0 where
  pub long : length now ≡ length room
  pub inside : (u : ℕ) → members rest u ≡ true → u < n
  pub done : List ℤ
  pub placed : Placed room at done now next
  pub whole : done ++ left v n a (members rest) ≡ node_changes v n b a

module _ (room : List ℤ) (at v n b a : ℕ) where
  pub writing_start : (d f : ℕ) → members d ≡ (λ i. not (beq (members b i) (members a i))) → members f ≡ (λ i. ltb i n)
      → Writing room at v n b a room at (bit_and d f)
  unfolding node_changes listed
  writing_start d f p q = record {
    long = refl;
    inside = λ u h. ltb-true u n (ap (λ (X : Set). X u) (sym q) ∙ and_r (members d u) (members f u) (sym (and-members d f u) ∙ h));
    done = [];
    placed = placed-start room at;
    whole = join_same n (λ u. cond (members (bit_and d f) u) (signed (members a u) (size_of u v) ∷ []) [])
        (λ u. change (members b u) (members a u) (size_of u v))
        (λ u l.
        ap (λ (t : Bool). cond t (signed (members a u) (size_of u v) ∷ []) [])
        (and-members d f u
        ∙ ap₂ (λ (X Y : Set). X u && Y u) p q
        ∙ ap (λ (t : Bool). not (beq (members b u) (members a u)) && t) (lt-ltb u n l)
        ∙ and-true (not (beq (members b u) (members a u))))
        ∙ change-is (members b u) (members a u) (size_of u v));
  }

  module _ {now : List ℤ} {next rest : ℕ} (w : Writing room at v n b a now next rest) where
    pub writing_end : rest ≡ 0 → Placed room at (node_changes v n b a) now next
    writing_end e =
        let none : left v n a (members rest) ≡ [] = listed-none n (λ u. signed (members a u) (size_of u v)) (members rest) (λ u l. rw e (zero-members u)) in
        let all : w.done ≡ node_changes v n b a = sym (append-nil w.done) ∙ ap (λ (l : List ℤ). w.done ++ l) (sym none) ∙ w.whole in
        rw (← all) w.placed

    -- the lowest of those that are left is written
    module _ (u : ℕ) (m : members rest u ≡ true) (h : (i : ℕ) → i < u → members rest i ≡ false) where
      split_left : left v n a (members rest) ≡ signed (members a u) (size_of u v) ∷ left v n a (without (members rest) u)
      split_left = listed_next n (λ u. signed (members a u) (size_of u v)) (members rest) u (w.inside u m) m h

      pub writing_room : next < at + n
      writing_room =
          omega (
            arith,
            w.placed.past,
            ap length split_left,
            ap length w.whole,
            length-append w.done (left v n a (members rest)),
            node-short v n b a,
          )

      module _ (rest' : ℕ) (e : members rest' ≡ without (members rest) u) where
        pub writing_less : length (left v n a (members rest')) < length (left v n a (members rest))
        writing_less = omega (arith, ap length split_left, ap (λ (X : Set). length (left v n a X)) e)

        pub writing_next : (z : ℤ) → at + n ≤ length room → z ≡ signed (members a u) (size_of u v)
            → Writing room at v n b a (set now next z) (next + 1) rest'
        writing_next z k q =
            let inner : next < length now = omega (arith, writing_room, w.long) in
            record {
              long = length-set now next z ∙ w.long;
              inside = λ x t. w.inside x (and_l (members rest x) (not (eqb x u)) (ap (λ (X : Set). X x) (sym e) ∙ t));
              done = w.done ++ (z ∷ []);
              placed = placed-append (omega arith) w.placed (placed_one now next z inner);
              whole = append_assoc w.done (z ∷ []) (left v n a (members rest'))
                  ∙ ap (λ (l : List ℤ). w.done ++ l) (ap₂ ◌∷◌ q (ap (left v n a) e) ∙ sym split_left)
                  ∙ w.whole;
            }

-- ---- one node: its changes are written, or its word is the same

module _ {room now : List ℤ} {next : ℕ} (n : ℕ) (bs cs : List ℕ) (v : ℕ) (r : Placed room 0 (table_changes n v bs cs) now next) where
  pub table_wrote : {room₁ : List ℤ} {next₁ : ℕ} → Placed now next (node_changes v n (get_or bs v 0) (get_or cs v 0)) room₁ next₁
      → Placed room 0 (table_changes n (v + 1) bs cs) room₁ next₁
  table_wrote q = rw table_more (placed-append (omega arith) r q)

  pub table-passed : get_or bs v 0 ≡ get_or cs v 0 → Placed room 0 (table_changes n (v + 1) bs cs) now next
  table-passed e = rw (table_more, e, node-same, append-nil) r
