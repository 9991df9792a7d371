-- The three demands, over the promises of the calls. They are proved in proofs/Demands.
use Rattle.std.specs.Prelude.{ℕ, ◌-◌, ◌≤◌, ◌≡◌, ◌↔◌, Bool, true, List, [], ◌∷◌, ◌++◌, ℤ, length, take, drop}
use Rattle.session.specs.Limits.{max_states, max_changes, fixed_size}
use Rattle.session.specs.Trigger.{Trigger, Graph, Marks, states, linked, edge}
use Rattle.session.specs.Reached.{Reached}
use Rattle.session.specs.Layout.{section, image, valid_trigger, valid_graph, trigger_of, graph_of, marks_of}
use Rattle.listing.specs.Changes.{changes}
use Rattle.listing.specs.Order as listing
use Rattle.promises.specs.Standing.{Simulation, stands, fires}
use Rattle.promises.specs.Answers.{Answer, FiringAnswer, OrderAnswer, StandingAnswer, Outcome, accepted, refused, outcome, fires_told, told, told_standing, told_firing, told_order, handed_back, places_told}
use Rattle.promises.specs.Rules.{Kind, insertion, deletion, Given, given_trigger, given_graph, edited, verdict, load_rules, edit_rules, question_rules, pair_rules}
use Rattle.promises.specs.Promises.{Left, load_list, Loaded, Carried, Edited, Matches, Fires, Ordered}
use Rattle.promises.specs.Model.{Model, begun, Edit, model_rules, step, freshly, load_summary}

-- ---- Demand 1

-- the call is accepted where the number of the first rule broken is 0, and is else refused with that number
abbrev pub Judged : {A : Type 0} → ℕ → Outcome A → Type 0
Judged {A} n o = (a : A) × (o ≡ outcome n a)

-- "refused with the number of the first rule broken, session and change room untouched", where that number is n; and where no rule is broken,
-- "is carried out"
pub record Answered (n : ℕ) (s : List ℕ) (c : List ℤ) (r : Answer) (s' : List ℕ) (c' : List ℤ) (Effect : Type 0) : Type 0 where
  pub judged : Judged n (told r)
  pub untouched : (n ≡ 0 → ⊥) → (s' ≡ s) × (c' ≡ c) × (handed_back c' r ≡ [])
  pub carried : n ≡ 0 → Effect

-- what a load that is carried out leaves and tells: the trigger and graph given, with their greatest simulation, and the list of what stands
pub record LoadCarried (x : Given) (s : List ℕ) (c : List ℤ) (r : Answer) (s' : List ℕ) (c' : List ℤ) : Type 0 where
  pub session : Left (given_trigger x) (given_graph x) (stands (given_trigger x) (given_graph x)) s s'
  pub trigger : trigger_of s' ≡ given_trigger x
  pub graph : graph_of s' ≡ given_graph x
  pub marks : marks_of s' ≡ stands (given_trigger x) (given_graph x)
  pub tells : told r ≡ accepted (load_summary x)
  pub list : handed_back c' r ≡ load_list (given_trigger x) (given_graph x)
  pub room : c' ≡ handed_back c' r ++ drop (length (handed_back c' r)) c

-- what an edit that is carried out leaves and tells: the edge in or out, and the list of the marks that changed; of the marks, see `Done`
pub record EditCarried (k : Kind) (a b : ℕ) (s : List ℕ) (c : List ℤ) (r : Answer) (s' : List ℕ) (c' : List ℤ) : Type 0 where
  pub edit : Carried k (trigger_of s) (graph_of s) (marks_of s) (marks_of s') a b s c r s' c'
  pub trigger : trigger_of s' ≡ trigger_of s
  pub graph : graph_of s' ≡ edited k (graph_of s) a b
  pub list : handed_back c' r ≡ changes (trigger_of s) (graph_of s') (marks_of s) (marks_of s')

-- The questions write nothing and tell what they are asked, of the marks held: that is their promise itself. The lines of the frame program have
-- a demand 1 of their own.
pub record Demand1 : Type 0 where
  pub load : (x : Given) (s : List ℕ) (c : List ℤ) (r : Answer) (s' : List ℕ) (c' : List ℤ)
      → Loaded x s c r s' c' → Answered (verdict (load_rules (length s) (length c) x)) s c r s' c' (LoadCarried x s c r s' c')
  pub edit : (k : Kind) (s : List ℕ) (a b : ℕ) (c : List ℤ) (r : Answer) (s' : List ℕ) (c' : List ℤ)
      → Edited k s a b c r s' c' → Answered (verdict (edit_rules k s (length c) a b)) s c r s' c' (EditCarried k a b s c r s' c')
  pub standing : (s : List ℕ) (state v : ℕ) (r : StandingAnswer) → Matches s state v r
      → told_standing r ≡ outcome (verdict (pair_rules s state v)) (marks_of s (state - 1) v)
  pub firing : (s : List ℕ) (r : FiringAnswer) → Fires s r
      → told_firing r ≡ outcome (verdict (question_rules s [])) (fires (trigger_of s) (graph_of s) (marks_of s))
  pub order : (s : List ℕ) (r : OrderAnswer) → Ordered s r
      → (told_order r ≡ outcome (verdict (question_rules s [])) (states (trigger_of s)))
      × (verdict (question_rules s []) ≡ 0 → take (states (trigger_of s)) (places_told r) ≡ listing.order (trigger_of s))
      × ((verdict (question_rules s []) ≡ 0 → ⊥) → places_told r ≡ section max_states [])

-- ---- Demand 2

-- firing, as a demand says it: yes exactly when every reached state has a node, by these marks
abbrev pub FiresBy : Trigger → Marks → Bool → Type 0
FiresBy t m told = (told ≡ true) ↔ ((u : ℕ) → Reached t u → (v : ℕ) × (m u v ≡ true))

pub record Demand2 (x : Given) (r : Answer) (s : List ℕ) : Type 1 where
  -- "each marked pair lies in some simulation and no simulation holds an unmarked one"
  pub simulates : Simulation (given_trigger x) (given_graph x) (λ u v. marks_of s u v ≡ true)
  pub greatest : (R : ℕ → ℕ → Type 0) → Simulation (given_trigger x) (given_graph x) R → (u v : ℕ) → R u v → marks_of s u v ≡ true
  -- "The trigger fires exactly when every state stands at some node", and 02, Job 5: every reached state
  pub firing : FiresBy (given_trigger x) (marks_of s) (fires_told (told r))

-- ---- Demand 3

-- a call of the list, with its change room before and after, its answer, and the session that it leaves
pub record Call : Type 0 where
  pub kind : Kind
  pub start : ℕ
  pub end : ℕ
  pub room : List ℤ
  pub answer : Answer
  pub session : List ℕ
  pub changes : List ℤ

-- "each working on the session as the one before left it and nobody but the engine writing there"
pub data Run : List ℕ → List Call → Type 0 where
  ended : {s : List ℕ} → Run s []
  called : {s : List ℕ} {c : Call} {cs : List Call} → Edited c.kind s c.start c.end c.room c.answer c.session c.changes
      → Run c.session cs → Run s (c ∷ cs)

abbrev pub edit_of : Call → Edit
edit_of c = record { kind = c.kind; start = c.start; end = c.end; room = length c.room }

-- "A chain in demand 3 is one or more changed pairs, the first being the pair it is for, each next one reached from the one before by a link
-- and an edge of the graph that holds the edited edge .. Its last pair is at that edge's start."
pub data Chain (t : Trigger) (g : Graph) (before after : Marks) (a : ℕ) : ℕ → ℕ → Type 0 where
  last : {u : ℕ} → (before u a ≡ after u a → ⊥) → Chain t g before after a u a
  link : {u v : ℕ} (u' v' : ℕ) → (before u v ≡ after u v → ⊥) → linked t u u' ≡ true → edge g v v' ≡ true → Chain t g before after a u' v'
      → Chain t g before after a u v

-- "the present graph after an insertion, before a deletion"
abbrev pub holding : Kind → Graph → Graph → Graph
holding insertion before after = after
holding deletion before after = before

-- the session's fixed part is the image of the model with its greatest simulation
pub record Faithful (b : Model) (s : List ℕ) : Type 0 where
  pub trigger : valid_trigger b.trigger ≡ true
  pub graph : valid_graph b.graph ≡ true
  pub long : fixed_size ≤ length s
  pub session : s ≡ image b.trigger b.graph (stands b.trigger b.graph) ++ drop fixed_size s

-- "After the load and after each call the session holds the book's trigger, samples and edges, and a pair is marked exactly when it stands in
-- the present graph. .. A fresh load .. into any memory and room long enough .. leaves these same marks."
pub record Held (b : Model) (s : List ℕ) : Type 0 where
  pub trigger : trigger_of s ≡ b.trigger
  pub graph : graph_of s ≡ b.graph
  pub marks : (u v : ℕ) → marks_of s u v ≡ stands b.trigger b.graph u v
  pub fresh : (s₀ : List ℕ) (c₀ : List ℤ) (r : Answer) (s₁ : List ℕ) (c₁ : List ℤ) → fixed_size ≤ length s₀ → max_changes ≤ length c₀
      → Loaded (freshly b) s₀ c₀ r s₁ c₁ → Judged 0 (told r) × (marks_of s₁ ≡ marks_of s)

-- one call of the list, from the model b to the model b'
pub record Kept (b b' : Model) (c : Call) : Type 0 where
  -- "Each call of the list is accepted, or refused with the same number, as in the book."
  pub judged : Judged (verdict (model_rules b (edit_of c))) (told c.answer)
  pub never10 : told c.answer ≡ refused 10 → ⊥
  pub held : Held b' c.session
  -- "The load and each accepted call report firing exactly when the trigger fires in the present graph": when every reached state stands there
  pub firing : verdict (model_rules b (edit_of c)) ≡ 0 → FiresBy b'.trigger (stands b'.trigger b'.graph) (fires_told (told c.answer))
  -- "The change list of an accepted edit equals the list, ascending by size, of the changes for exactly the pairs that stand in the present
  -- graph before it or after it and not in both"
  pub list : handed_back c.changes c.answer
      ≡ changes b.trigger b.graph (stands b.trigger b.graph) (stands b'.trigger b'.graph)
  -- "each of these pairs has its chain"
  pub chains : (u v : ℕ) → (stands b.trigger b.graph u v ≡ stands b'.trigger b'.graph u v → ⊥)
      → Chain b.trigger (holding c.kind b.graph b'.graph) (stands b.trigger b.graph) (stands b'.trigger b'.graph) c.start u v

-- the whole list
abbrev pub Follows : Model → List Call → Type 0
Follows b [] = Unit {0}
Follows b (c ∷ cs) = Kept b (step b (edit_of c)) c × Follows (step b (edit_of c)) cs

-- "For every accepted load and every list of insertions and deletions after it, refused ones included"
pub record Demand3 (x : Given) (r : Answer) (s : List ℕ) : Type 0 where
  pub loaded : Held (begun x) s
  pub firing : FiresBy (given_trigger x) (stands (given_trigger x) (given_graph x)) (fires_told (told r))
  pub calls : (cs : List Call) → Run s cs → Follows (begun x) cs
