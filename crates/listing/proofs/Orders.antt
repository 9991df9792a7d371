-- The laws of the walk order: what a visit writes, that its depth is enough, and that the order has each state once.
use Prim.Native.Nat.{ℕ, zero, suc, ◌+◌, ◌≤◌, ◌<◌}
use native.Mathlib.Nat.{suc-add, zero-add}
use native.Mathlib.Numerals.{add-one}
use native.Mathlib.Omega.{arith}
use mathlib.Core.Path.{◌≡◌, refl, sym, ◌∙◌, ap}
use mathlib.Core.Logic.{◌⊎◌, inl, inr, ⊎_elim}
use mathlib.Core.Bool.{Bool, true, false, ◌||◌, cond, or_comm}
use mathlib.Core.List.{List, [], ◌∷◌, ◌++◌, map, append_assoc, append-nil}
use lib.Dec.{eqb}
use lib.ListN.{length, get_or, length-append, length-map}
use borrow.Author.Tests.{eqb-true, eqb-false, eq-eqb}
use Rattle.simulation.specs.Sets.{count, also}
use Rattle.simulation.specs.Ordered.{elem}
use Rattle.simulation.proofs.Sets.{clash, split, same, refuted, or_l, or_r, or-take, count-le, count-full}
use Rattle.simulation.proofs.Ordered.{elem-head, elem_tail, elem-take, elem-append}
use Rattle.simulation.proofs.Loops.{count_same}
use Rattle.simulation.proofs.Loops.{count_none, count-also}
use Rattle.session.specs.Trigger.{Trigger, states, linked}
use Rattle.session.specs.Reached.{reached}
use Rattle.session.proofs.Reached.{reached-inside, reached-one, reached-link, reached_least}
use Rattle.listing.specs.Order.{fold, visit, order}

-- no entry twice
abbrev pub Once : List ℕ → Type 0
Once [] = Unit {0}
Once (x ∷ xs) = (elem x xs ≡ false) × Once xs

-- every entry below n
abbrev pub Below : ℕ → List ℕ → Type 0
Below n xs = (y : ℕ) → elem y xs ≡ true → y < n

-- ---- one at the end

-- what is in the front is in the whole; the last entry is in
pub elem-front : (y : ℕ) (xs ys : List ℕ) → elem y xs ≡ true → elem y (xs ++ ys) ≡ true
elem-front y xs ys h = elem-append y xs ys ∙ or_l (elem y ys) h

pub elem-last : (x : ℕ) (xs : List ℕ) → elem x (xs ++ (x ∷ [])) ≡ true
elem-last x xs = elem-append x xs (x ∷ []) ∙ or_r (elem x xs) (elem-head x [])

pub snoc_take : (y x : ℕ) (xs : List ℕ) → elem y (xs ++ (x ∷ [])) ≡ true → (elem y xs ≡ true) ⊎ (y ≡ x)
unfolding elem
snoc_take y x xs h =
    ⊎_elim
    (λ e. inl e)
    (λ e. ⊎_elim (λ d. inr d) (λ d. clash d refl) (elem-take y x [] e))
    (or-take (elem y xs) (elem y (x ∷ [])) (sym (elem-append y xs (x ∷ [])) ∙ h))

pub once_snoc : (x : ℕ) (xs : List ℕ) → Once xs → elem x xs ≡ false → Once (xs ++ (x ∷ []))
unfolding elem
once_snoc x [] o h = (refl, tt)
once_snoc x (y ∷ ys) o h = (
  refuted (elem y (ys ++ (x ∷ [])))
      (λ m. ⊎_elim (λ e. clash e o.0) (λ (e : y ≡ x). clash (or_l (elem x ys) (eq-eqb x y (sym e))) h) (snoc_take y x ys m)),
  once_snoc x ys o.1 (refuted (elem x ys) (λ m. clash (elem_tail x y ys m) h)),
)

pub below_snoc : (n x : ℕ) (xs : List ℕ) → Below n xs → x < n → Below n (xs ++ (x ∷ []))
below_snoc n x xs b l y h = ⊎_elim (λ e. b y e) (λ (e : y ≡ x). omega arith) (snoc_take y x xs h)

-- ---- how long a list without repeats is

-- it counts as many numbers as it is long
pub once-count : (n : ℕ) (xs : List ℕ) → Once xs → Below n xs → count n (λ u. elem u xs) ≡ length xs
unfolding elem
once-count n [] o b = count_none n (λ u. false) (λ p l. refl)
once-count n (x ∷ xs) o b =
    count_same n (λ u. eqb u x || elem u xs) (also (λ u. elem u xs) x) (λ u l. or_comm (eqb u x) (elem u xs))
    ∙ count-also n (λ u. elem u xs) x (b x (elem-head x xs)) o.0
    ∙ ap suc (once-count n xs o.1 (λ y m. b y (elem_tail y x xs m)))

count-whole : (n : ℕ) → count n (λ u. true) ≡ n
unfolding count
count-whole zero = refl
count-whole (suc n) = omega (arith, count-whole n)

module _ (n : ℕ) (xs : List ℕ) (o : Once xs) (b : Below n xs) where
  -- and no more than there are
  pub pigeonhole : length xs ≤ n
  pigeonhole = omega (arith, once-count n xs o b, count-le n (λ u. elem u xs))

  -- as long as it can be, it has every number below n
  pub full : n ≤ length xs → (u : ℕ) → u < n → elem u xs ≡ true
  full l = count-full n (λ u. elem u xs) (omega (arith, once-count n xs o b))

  -- and the other way round
  pub full-length : ((u : ℕ) → u < n → elem u xs ≡ true) → length xs ≡ n
  full-length h = sym (once-count n xs o b) ∙ count_same n (λ u. elem u xs) (λ u. true) h ∙ count-whole n

-- ---- n steps

-- what each step keeps, n steps keep
pub fold-keeps : (P : List ℕ → Type 0) (n : ℕ) (step : ℕ → List ℕ → List ℕ) (xs : List ℕ)
    → ((u : ℕ) (ys : List ℕ) → u < n → P ys → P (step u ys)) → P xs → P (fold n step xs)
unfolding fold
fold-keeps P zero step xs h p = p
fold-keeps P (suc n) step xs h p = h n (fold n step xs) (omega arith) (fold-keeps P n step xs (λ u ys l. h u ys (omega arith)) p)

-- what step u makes and the other steps keep holds for each u at the end
pub fold_makes : (P : List ℕ → Type 0) (Q : ℕ → List ℕ → Type 0) (n : ℕ) (step : ℕ → List ℕ → List ℕ) (xs : List ℕ)
    → ((u : ℕ) (ys : List ℕ) → u < n → P ys → P (step u ys))
    → ((u : ℕ) (ys : List ℕ) → u < n → P ys → Q u (step u ys))
    → ((j u : ℕ) (ys : List ℕ) → Q j ys → Q j (step u ys))
    → P xs → (j : ℕ) → j < n → Q j (fold n step xs)
unfolding fold
fold_makes P Q zero step xs keeps makes stays p j l = absurd (omega arith)
fold_makes P Q (suc n) step xs keeps makes stays p j l =
    ⊎_elim
    (λ (e : eqb j n ≡ true).
    rw (eqb-true j n e) (makes n (fold n step xs) (omega arith) (fold-keeps P n step xs (λ u ys m. keeps u ys (omega arith)) p)))
    (λ (e : eqb j n ≡ false).
    let away = eqb-false j n e in
    stays j n (fold n step xs)
    (fold_makes P Q n step xs (λ u ys m. keeps u ys (omega arith)) (λ u ys m. makes u ys (omega arith)) stays p j (omega arith)))
    (split (eqb j n))

-- steps that agree, where P holds, end in the same list
pub fold_same : (P : List ℕ → Type 0) (n : ℕ) (step step' : ℕ → List ℕ → List ℕ) (xs : List ℕ)
    → ((u : ℕ) (ys : List ℕ) → u < n → P ys → P (step' u ys))
    → ((u : ℕ) (ys : List ℕ) → u < n → P ys → step u ys ≡ step' u ys)
    → P xs → fold n step xs ≡ fold n step' xs
unfolding fold
fold_same P zero step step' xs keeps agree p = refl
fold_same P (suc n) step step' xs keeps agree p =
    ap (step n) (fold_same P n step step' xs (λ u ys l. keeps u ys (omega arith)) (λ u ys l. agree u ys (omega arith)) p)
    ∙ agree n (fold n step' xs) (omega arith) (fold-keeps P n step' xs (λ u ys l. keeps u ys (omega arith)) p)

cond_when : (P : List ℕ → Type 0) (b : Bool) {xs ys : List ℕ} → (b ≡ true → P xs) → P ys → P (cond b xs ys)
cond_when P true p q = p refl
cond_when P false p q = q

cond-keeps : (P : List ℕ → Type 0) (b : Bool) {xs ys : List ℕ} → P xs → P ys → P (cond b xs ys)
cond-keeps P b p q = cond_when P b (λ e. p) q

-- xs is the front of ys
abbrev pub Front : List ℕ → List ℕ → Type 0
Front xs ys = (zs : List ℕ) × (ys ≡ xs ++ zs)

pub front_refl : (xs : List ℕ) → Front xs xs
front_refl xs = ([], sym (append-nil xs))

pub front_snoc : (u : ℕ) (xs ys : List ℕ) → Front xs ys → Front xs (ys ++ (u ∷ []))
front_snoc u xs ys w = (w.0 ++ (u ∷ []), ap (λ (l : List ℕ). l ++ (u ∷ [])) w.1 ∙ append_assoc xs w.0 (u ∷ []))

pub front-elem : (u : ℕ) (xs ys : List ℕ) → Front xs ys → elem u xs ≡ true → elem u ys ≡ true
front-elem u xs ys w h = rw w.1 (elem-front u xs w.0 h)

module _ (t : Trigger) where
  -- ---- a visit

  -- the step along the link from u to u'
  abbrev pub along : ℕ → ℕ → ℕ → List ℕ → List ℕ
  along depth u u' ys = cond (linked t u u') (visit t depth u' ys) ys

  -- a visit of a written state does nothing; else it writes the state and goes along its links
  pub visit-old : (depth u : ℕ) (xs : List ℕ) → elem u xs ≡ true → visit t depth u xs ≡ xs
  unfolding visit
  visit-old zero u xs e = refl
  visit-old (suc depth) u xs e = rw e

  pub visit-new : (depth u : ℕ) (xs : List ℕ) → elem u xs ≡ false
      → visit t (suc depth) u xs ≡ fold (states t) (along depth u) (xs ++ (u ∷ []))
  unfolding visit
  visit-new depth u xs e = rw e

  -- what a new state at the end keeps, a visit keeps; Q holds of the state, and along links
  pub visit-holds : (Q : ℕ → Type 0) (P : List ℕ → Type 0)
      → ((u u' : ℕ) → Q u → u' < states t → linked t u u' ≡ true → Q u')
      → ((u : ℕ) (xs : List ℕ) → Q u → elem u xs ≡ false → P xs → P (xs ++ (u ∷ [])))
      → (depth u : ℕ) (xs : List ℕ) → Q u → P xs → P (visit t depth u xs)
  unfolding visit
  visit-holds Q P all add zero u xs q p = p
  visit-holds Q P all add (suc depth) u xs q p =
      ⊎_elim
      (λ (e : elem u xs ≡ true). rw e p)
      (λ (e : elem u xs ≡ false).
      rw e
      (fold-keeps P (states t) (along depth u) (xs ++ (u ∷ []))
      (λ u' ys l r. cond_when P (linked t u u') (λ k. visit-holds Q P all add depth u' ys (all u u' q l k) r) r)
      (add u xs q e p)))
      (split (elem u xs))

  -- what is written stays, in front
  pub visit-front : (depth u : ℕ) (xs ys : List ℕ) → Front xs ys → Front xs (visit t depth u ys)
  visit-front depth u xs ys w =
      visit-holds (λ v. Unit {0}) (Front xs) (λ v w q l k. tt) (λ v zs q e p. front_snoc v xs zs p) depth u ys tt w

  pub visit-keeps : (depth u : ℕ) (xs : List ℕ) → (ys : List ℕ) × (visit t depth u xs ≡ xs ++ ys)
  visit-keeps depth u xs = visit-front depth u xs xs (front_refl xs)

  pub visit_stays : (depth u x : ℕ) (xs : List ℕ) → elem x xs ≡ true → elem x (visit t depth u xs) ≡ true
  visit_stays depth u x xs h = front-elem x xs (visit t depth u xs) (visit-keeps depth u xs) h

  -- nothing is written twice, and only states are
  pub visit-once : (depth u : ℕ) (xs : List ℕ) → Once xs → Once (visit t depth u xs)
  visit-once depth u xs o =
      visit-holds (λ v. Unit {0}) Once (λ v w q l k. tt) (λ v ys q e p. once_snoc v ys p e) depth u xs tt o

  pub visit-below : (depth u : ℕ) (xs : List ℕ) → u < states t → Below (states t) xs → Below (states t) (visit t depth u xs)
  visit-below depth u xs l b =
      visit-holds (λ v. v < states t) (Below (states t)) (λ v w q l k. l) (λ v ys q e p. below_snoc (states t) v ys p q) depth u xs l b

  pub visit-longer : (depth u : ℕ) (xs : List ℕ) → length xs ≤ length (visit t depth u xs)
  visit-longer depth u xs =
      let w = visit-keeps depth u xs in
      omega (arith, ap length w.1, length-append xs w.0)

  -- a state that is not written is written next
  pub visit-next : (depth u : ℕ) (xs : List ℕ) → elem u xs ≡ false → Front (xs ++ (u ∷ [])) (visit t (suc depth) u xs)
  visit-next depth u xs e =
      rw (visit-new depth u xs e)
      (fold-keeps (Front (xs ++ (u ∷ []))) (states t) (along depth u) (xs ++ (u ∷ []))
      (λ u' ys l w. cond-keeps (Front (xs ++ (u ∷ []))) (linked t u u') (visit-front depth u' (xs ++ (u ∷ [])) ys w) w)
      (front_refl (xs ++ (u ∷ []))))

  pub visit_writes : (depth u : ℕ) (xs : List ℕ) → elem u (visit t (suc depth) u xs) ≡ true
  visit_writes depth u xs =
      ⊎_elim
      (λ (e : elem u xs ≡ true). visit_stays (suc depth) u u xs e)
      (λ (e : elem u xs ≡ false).
      front-elem u (xs ++ (u ∷ [])) (visit t (suc depth) u xs) (visit-next depth u xs e) (elem-last u xs))
      (split (elem u xs))

  -- ---- how deep is enough

  -- as many levels as states that are not written
  pub record Enough (depth : ℕ) (xs : List ℕ) : Type 0 where
    pub each_once : Once xs
    pub each_below : Below (states t) xs
    pub deep : states t ≤ depth + length xs

  pub enough_visit : (depth d u : ℕ) (xs : List ℕ) → u < states t → Enough depth xs → Enough depth (visit t d u xs)
  enough_visit depth d u xs l g = record {
    each_once = visit-once d u xs g.each_once;
    each_below = visit-below d u xs l g.each_below;
    deep = omega (arith, visit-longer d u xs);
  }

  pub enough_snoc : (depth u : ℕ) (xs : List ℕ) → u < states t → elem u xs ≡ false → Enough (suc depth) xs → Enough depth (xs ++ (u ∷ []))
  enough_snoc depth u xs l e g = record {
    each_once = once_snoc u xs g.each_once e;
    each_below = below_snoc (states t) u xs g.each_below l;
    deep = omega (arith, length-append xs (u ∷ []));
  }

  pub enough_along : (depth d u u' : ℕ) (ys : List ℕ) → u' < states t → Enough depth ys → Enough depth (along d u u' ys)
  enough_along depth d u u' ys l g = cond-keeps (Enough depth) (linked t u u') (enough_visit depth d u' ys l g) g

  -- one level more changes nothing
  pub visit_enough : (depth u : ℕ) (xs : List ℕ) → Enough depth xs → u < states t → visit t (suc depth) u xs ≡ visit t depth u xs
  visit_enough zero u xs g l =
      visit-old 1 u xs (full (states t) xs g.each_once g.each_below (omega arith) u l)
      ∙ sym (visit-old 0 u xs (full (states t) xs g.each_once g.each_below (omega arith) u l))
  visit_enough (suc depth) u xs g l =
      ⊎_elim
      (λ (e : elem u xs ≡ true). visit-old (suc (suc depth)) u xs e ∙ sym (visit-old (suc depth) u xs e))
      (λ (e : elem u xs ≡ false).
      visit-new (suc depth) u xs e
      ∙ fold_same (Enough depth) (states t) (along (suc depth) u) (along depth u) (xs ++ (u ∷ []))
      (λ u' ys m h. enough_along depth depth u u' ys m h)
      (λ u' ys m h. ap (λ (zs : List ℕ). cond (linked t u u') zs ys) (visit_enough depth u' ys h m))
      (enough_snoc depth u xs l e g)
      ∙ sym (visit-new depth u xs e))
      (split (elem u xs))

  -- nor do more
  pub visit_any_depth : (k depth u : ℕ) (xs : List ℕ) → Enough depth xs → u < states t → visit t (k + depth) u xs ≡ visit t depth u xs
  visit_any_depth zero depth u xs g l = rw zero-add
  visit_any_depth (suc k) depth u xs g l =
      rw suc-add
      (visit_enough (k + depth) u xs (record { each_once = g.each_once; each_below = g.each_below; deep = omega arith }) l
      ∙ visit_any_depth k depth u xs g l)

  -- the visited state is written
  pub visit-reaches : (depth u : ℕ) (xs : List ℕ) → Enough depth xs → u < states t → elem u (visit t depth u xs) ≡ true
  visit-reaches depth u xs g l = rw (← visit_enough depth u xs g l) (visit_writes depth u xs)

  -- ---- a visit goes along every link

  -- each link of what ys has and xs has not leads into ys
  abbrev pub Follows : List ℕ → List ℕ → Type 0
  Follows xs ys = (x y : ℕ) → elem x ys ≡ true → elem x xs ≡ false → y < states t → linked t x y ≡ true → elem y ys ≡ true

  follows_on : (xs ys zs : List ℕ) → Follows xs ys → Follows ys zs → ((v : ℕ) → elem v ys ≡ true → elem v zs ≡ true) → Follows xs zs
  follows_on xs ys zs f g stays x y m n l k =
      ⊎_elim (λ (e : elem x ys ≡ true). stays y (f x y e n l k)) (λ (e : elem x ys ≡ false). g x y m e l k) (split (elem x ys))

  links-reached : (depth u : ℕ) (xs : List ℕ) → Enough depth xs
      → (y : ℕ) → y < states t → linked t u y ≡ true → elem y (fold (states t) (along depth u) xs) ≡ true
  links-reached depth u xs g =
      fold_makes (Enough depth) (λ y zs. linked t u y ≡ true → elem y zs ≡ true) (states t) (along depth u) xs
      (λ u' zs l h. enough_along depth depth u u' zs l h)
      (λ u' zs l h k. rw k (visit-reaches depth u' zs h l))
      (λ y u' zs h k. cond-keeps (λ ws. elem y ws ≡ true) (linked t u u') (visit_stays depth u' y zs (h k)) (h k))
      g

  links-follow : (depth u : ℕ) (xs : List ℕ) → Enough depth xs
      → ((u' : ℕ) (ys : List ℕ) → Enough depth ys → u' < states t → Follows ys (visit t depth u' ys))
      → Follows xs (fold (states t) (along depth u) xs)
  links-follow depth u xs g each =
      (fold-keeps (λ ys. Enough depth ys × Follows xs ys) (states t) (along depth u) xs
      (λ u' ys l p.
      cond-keeps (λ zs. Enough depth zs × Follows xs zs) (linked t u u') (
        enough_visit depth depth u' ys l p.0,
        follows_on xs ys (visit t depth u' ys) p.1 (each u' ys p.0 l) (λ v. visit_stays depth u' v ys),
      )
      p)
      (g, λ x y m n. clash m n)).1

  -- each link of a newly written state leads to a written state
  pub visit-follows : (depth u : ℕ) (xs : List ℕ) → Enough depth xs → u < states t → Follows xs (visit t depth u xs)
  unfolding visit
  visit-follows zero u xs g l = λ x y m n. clash m n
  visit-follows (suc depth) u xs g l =
      ⊎_elim
      (λ (e : elem u xs ≡ true). rw e (λ x y m n. clash m n))
      (λ (e : elem u xs ≡ false).
      let start = enough_snoc depth u xs l e g in
      let more = links-follow depth u (xs ++ (u ∷ [])) start (visit-follows depth) in
      rw e
      (λ x y m n j k.
      ⊎_elim
      (λ (d : elem x (xs ++ (u ∷ [])) ≡ true).
      ⊎_elim (λ i. clash i n) (λ (i : x ≡ u). links-reached depth u (xs ++ (u ∷ [])) start y j (rw i at k)) (snoc_take x u xs d))
      (λ (d : elem x (xs ++ (u ∷ [])) ≡ false). more x y m d j k)
      (split (elem x (xs ++ (u ∷ []))))))
      (split (elem u xs))

-- ---- numbers of states

-- states are numbered from 1
abbrev pub numbers : List ℕ → List ℕ
numbers xs = map (λ u. u + 1) xs

-- a state is among the numbers where its index is among the indices
pub elem-numbers : (u : ℕ) (xs : List ℕ) → elem (u + 1) (numbers xs) ≡ elem u xs
unfolding elem
elem-numbers u [] = refl
elem-numbers u (x ∷ xs) =
    rw (
      same (eqb (u + 1) (x + 1)) (eqb u x)
          (λ e. eq-eqb u x (omega (arith, eqb-true (u + 1) (x + 1) e)))
          (λ e. eq-eqb (u + 1) (x + 1) (omega (arith, eqb-true u x e))),
      elem-numbers u xs,
    )

pub numbers-take : (k : ℕ) (xs : List ℕ) → elem k (numbers xs) ≡ true → (u : ℕ) × (k ≡ u + 1) × (elem u xs ≡ true)
unfolding elem
numbers-take k [] h = clash h refl
numbers-take k (x ∷ xs) h =
    ⊎_elim
    (λ (e : k ≡ x + 1). (x, e, elem-head x xs))
    (λ e. let w = numbers-take k xs e in (w.0, w.1, elem_tail w.0 x xs w.2))
    (elem-take k (x + 1) (numbers xs) h)

pub once-numbers : (xs : List ℕ) → Once xs → Once (numbers xs)
once-numbers [] o = tt
once-numbers (x ∷ xs) o = (elem-numbers x xs ∙ o.0, once-numbers xs o.1)

-- ---- the order

-- a state that is not written follows
abbrev pub follow : ℕ → List ℕ → List ℕ
follow u xs = cond (elem u xs) xs (xs ++ (u ∷ []))

follow-holds : (P : List ℕ → Type 0) (u : ℕ) (xs : List ℕ) → (elem u xs ≡ false → P xs → P (xs ++ (u ∷ []))) → P xs → P (follow u xs)
follow-holds P u xs add p = ⊎_elim (λ (e : elem u xs ≡ true). rw e p) (λ (e : elem u xs ≡ false). rw e (add e p)) (split (elem u xs))

module _ (t : Trigger) where
  -- what the visit of State One writes, and all states in their order, by index
  abbrev pub visited : List ℕ
  visited = visit t (states t) 0 []

  abbrev pub indices : List ℕ
  indices = fold (states t) follow visited

  pub order-numbers : order t ≡ numbers indices
  unfolding order
  order-numbers = refl

  -- the visit of State One writes just the states that are reached
  pub visited-reached : (u : ℕ) → elem u visited ≡ reached t u
  unfolding visit elem
  visited-reached u = same (elem u visited) (reached t u) (by (states t) (omega arith) u) (reached_least t (λ v. elem v visited ≡ true) first next u)
    where
      all : Enough t (states t) []
      all = record { each_once = tt; each_below = λ y h. clash h refl; deep = omega arith }

      first : 0 < states t → elem 0 visited ≡ true
      first l = visit-reaches t (states t) 0 [] all l

      next : (v v' : ℕ) → elem v visited ≡ true → v' < states t → linked t v v' ≡ true → elem v' visited ≡ true
      next v v' h l k = visit-follows t (states t) 0 [] all (omega arith) v v' h refl l k

      by : (d : ℕ) → d ≤ states t → (y : ℕ) → elem y (visit t d 0 []) ≡ true → reached t y ≡ true
      by zero l = λ y h. clash h refl
      by (suc d) l =
          visit-holds t (λ v. reached t v ≡ true) (λ ys. (y : ℕ) → elem y ys ≡ true → reached t y ≡ true) (λ v v' q m k. reached-link t v v' m q k)
          (λ v ys q e p y h. ⊎_elim (p y) (λ (i : y ≡ v). rw i q) (snoc_take y v ys h))
          (suc d) 0 [] (reached-one t (omega arith)) (λ y h. clash h refl)

  visited-below : Below (states t) visited
  visited-below y h = reached-inside t y (sym (visited-reached y) ∙ h)

  -- each state once, and nothing else
  pub indices-once : Once indices
  indices-once =
      fold-keeps Once (states t) follow visited
      (λ u ys l o. follow-holds Once u ys (λ e p. once_snoc u ys p e) o)
      (visit-once t (states t) 0 [] tt)

  pub indices-below : Below (states t) indices
  indices-below =
      fold-keeps (Below (states t)) (states t) follow visited
      (λ u ys l b. follow-holds (Below (states t)) u ys (λ e p. below_snoc (states t) u ys p l) b)
      visited-below

  pub indices-all : (u : ℕ) → u < states t → elem u indices ≡ true
  indices-all =
      fold_makes (λ ys. Unit {0}) (λ u ys. elem u ys ≡ true) (states t) follow visited
      (λ u ys l p. tt)
      (λ u ys l p. ⊎_elim (λ (e : elem u ys ≡ true). rw (e, e)) (λ (e : elem u ys ≡ false). rw e (elem-last u ys)) (split (elem u ys)))
      (λ v u ys h. follow-holds (λ zs. elem v zs ≡ true) u ys (λ e m. elem-front v ys (u ∷ []) m) h)
      tt

  -- what the visit writes comes first, in its order
  pub indices-front : Front visited indices
  indices-front =
      fold-keeps (Front visited) (states t) follow visited
      (λ u ys l w. follow-holds (Front visited) u ys (λ e v. front_snoc u visited ys v) w)
      (front_refl visited)

  -- the order has the numbers from 1 to that of the states, each once
  pub order-states : (k : ℕ) → 1 ≤ k → k ≤ states t → elem k (order t) ≡ true
  order-states zero l m = absurd (omega arith)
  order-states (suc u) l m = rw (order-numbers, ← add-one u) (elem-numbers u indices ∙ indices-all u (omega arith))

  pub order-once : Once (order t)
  order-once = rw order-numbers (once-numbers indices indices-once)

  pub order-length : length (order t) ≡ states t
  order-length =
      ap length order-numbers ∙ length-map indices (λ u. u + 1)
      ∙ full-length (states t) indices indices-once indices-below indices-all

  pub order_below : (k : ℕ) → elem k (order t) ≡ true → (1 ≤ k) × (k ≤ states t)
  order_below k h =
      let w = numbers-take k indices (rw order-numbers at h) in
      let l : w.0 < states t = indices-below w.0 w.2 in
      (omega arith, omega arith)

  -- State One is first
  pub order-first : 0 < states t → get_or (order t) 0 0 ≡ 1
  unfolding elem
  order-first l = let w = by (states t) l in rw (order-numbers, indices-front.1, w.1)
    where
      by : (d : ℕ) → 0 < d → Front (0 ∷ []) (visit t d 0 [])
      by zero m = absurd (omega arith)
      by (suc d) m = visit-next t d 0 [] refl
