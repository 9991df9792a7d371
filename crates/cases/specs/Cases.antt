-- 01, "The marked cases are gathered as rows of one list with one proved fact over all rows": the rows, those of 02 with them, and the fact. It is proved in proofs/Worked.
use Rattle.std.specs.Prelude.{ℕ, ◌+◌, ◌-◌, ◌/◌, ◌%◌, ◌^◌, ◌≤◌, ◌≡◌, Bool, true, false, cond, List, [], ◌∷◌, eqb, ℤ, pos, neg_ℤ, length, take}
use Rattle.bits.specs.Word.{half_bits}
use Rattle.session.specs.Limits.{max_states, max_nodes, max_edges, max_changes, fixed_size}
use Rattle.session.specs.Layout.{table}
use Rattle.promises.specs.Answers.{Answer, StandingAnswer, FiringAnswer, OrderAnswer, places_told, Outcome, accepted, refused, Summary, told, told_standing, told_firing, told_order, handed_back}
use Rattle.promises.specs.Rules.{Kind, insertion, deletion, Given, given}
use Rattle.promises.specs.Promises.{Loaded, Edited, Matches, Fires, Ordered}

-- what is asked after the load: an insertion or deletion of (start, end), and the three questions: "does u stand at v; does the trigger fire;
-- what is the walk order"; a state is asked for by its number
pub data Asked : Type 0 where
  edit : Kind → ℕ → ℕ → Asked
  standing : ℕ → ℕ → Asked
  firing : Asked
  order : Asked

-- "An accepted call reports whether the trigger fires, a trial count, and the change list", or it is "refused with one number"; and the answers
-- to the questions
pub data Told : Type 0 where
  reported : Summary → List ℤ → Told
  refusal : ℕ → Told
  says : Bool → Told
  lists : List ℕ → Told

-- of a load or an edit: its answer, with the change list handed back
abbrev pub heard : Outcome Summary → List ℤ → Told
heard (accepted s) list = reported s list
heard (refused n) list = refusal n

-- firing, the trial count, and the change list: its length is the number of changes that the answer says
abbrev pub report : Bool → ℕ → List ℤ → Told
report fires trials list = reported record { fires = fires; trials = trials; changes = length list } list

-- of a question that is answered yes or no; and of the walk order: as many states as the answer says
abbrev pub heard_said : Outcome Bool → Told
heard_said (accepted b) = says b
heard_said (refused n) = refusal n

abbrev pub heard_order : Outcome ℕ → List ℕ → Told
heard_order (accepted n) states = lists (take n states)
heard_order (refused n) states = refusal n

-- What is told where these are asked one after the other, from the session s on: each answer keeps the promise of its call, and each edit
-- "has a change room of its own", of any content, that is long enough.
pub data Played : List ℕ → List Asked → List Told → Type 0 where
  done : {s : List ℕ} → Played s [] []
  edited : {s : List ℕ} {k : Kind} {a b : ℕ} {qs : List Asked} {ts : List Told} (room : List ℤ) (r : Answer) (s' : List ℕ) (room' : List ℤ)
      → max_changes ≤ length room → Edited k s a b room r s' room' → Played s' qs ts
      → Played s (edit k a b ∷ qs) (heard (told r) (handed_back room' r) ∷ ts)
  stood : {s : List ℕ} {u v : ℕ} {qs : List Asked} {ts : List Told} (r : StandingAnswer) → Matches s u v r → Played s qs ts
      → Played s (standing u v ∷ qs) (heard_said (told_standing r) ∷ ts)
  fired : {s : List ℕ} {qs : List Asked} {ts : List Told} (r : FiringAnswer) → Fires s r → Played s qs ts
      → Played s (firing ∷ qs) (heard_said (told_firing r) ∷ ts)
  ordered : {s : List ℕ} {qs : List Asked} {ts : List Told} (r : OrderAnswer) → Ordered s r → Played s qs ts
      → Played s (order ∷ qs) (heard_order (told_order r) (places_told r) ∷ ts)

-- a row: what is loaded, what is then asked, and what is told, by the load first
pub record Case : Type 0 where
  pub given : Given
  pub asked : List Asked
  pub told : List Told

abbrev pub row : Given → List Asked → List Told → Case
row x qs ts = record { given = x; asked = qs; told = ts }

-- The fact of a row: every load and every run after it that keep their promises, "into any memory and room long enough", tell this. The calls of
-- the crate matching keep them.
abbrev pub Fact : Case → Type 0
Fact c = (s : List ℕ) (room : List ℤ) (r : Answer) (s' : List ℕ) (room' : List ℤ) (ts : List Told)
    → fixed_size ≤ length s → max_changes ≤ length room
    → Loaded c.given s room r s' room' → Played s' c.asked ts → heard (told r) (handed_back room' r) ∷ ts ≡ c.told

-- of every row of a list
infixr 40 ◌and◌
pub data Every {A : Type 0} (P : A → Type 0) : List A → Type 0 where
  none : Every P []
  ◌and◌ : {c : A} {cs : List A} → P c → Every P cs → Every P (c ∷ cs)

-- ---- the rows

-- "so is the session above, answer by answer (one run, four edits, one walk order)"
unfoldable pub session : Case
session =
    row
    (given (0xFFFF ∷ 0xFFFF ∷ []) (1 ∷ 2 ∷ []) (2 ∷ 1 ∷ []) 0 (1 ∷ 2 ∷ []) [] [])
    (edit insertion 0 1 ∷ edit insertion 1 0 ∷ edit insertion 1 0 ∷ edit deletion 0 1 ∷ order ∷ [])
    (report false 2 []
    ∷ report false 1 []
    ∷ report true 2 (pos 1 ∷ pos 66 ∷ [])
    ∷ refusal 12
    ∷ report false 2 (neg_ℤ (pos 1) ∷ neg_ℤ (pos 66) ∷ [])
    ∷ lists (1 ∷ 2 ∷ [])
    ∷ [])

-- "One state without links, one admitted node, no edges: stands, fires."
unfoldable pub alone : Case
alone =
    row
    (given (0xFFFF ∷ []) (1 ∷ []) (0 ∷ []) 0 (1 ∷ []) [] [])
    (standing 1 0 ∷ firing ∷ [])
    (report true 1 (pos 1 ∷ []) ∷ says true ∷ says true ∷ [])

-- "The same with no nodes: nothing stands, does not fire."
unfoldable pub nowhere : Case
nowhere =
    row
    (given (0xFFFF ∷ []) (1 ∷ []) (0 ∷ []) 0 [] [] [])
    (firing ∷ [])
    (report false 0 [] ∷ says false ∷ [])

-- "One state linked to itself, one admitted node, insert (0,0): trial count 1, change +1, fires."
unfoldable pub loop : Case
loop =
    row
    (given (0xFFFF ∷ []) (1 ∷ []) (1 ∷ []) 0 (1 ∷ []) [] [])
    (edit insertion 0 0 ∷ [])
    (report false 1 [] ∷ report true 1 (pos 1 ∷ []) ∷ [])

-- "Two nodes both admitted by that state, edges (0,1) and (1,0): both stand; delete (0,1): both cease."
unfoldable pub ring : Case
ring =
    row
    (given (0xFFFF ∷ []) (1 ∷ []) (1 ∷ []) 0 (1 ∷ 1 ∷ []) (0 ∷ 1 ∷ []) (1 ∷ 0 ∷ []))
    (edit deletion 0 1 ∷ [])
    (report true 2 (pos 1 ∷ pos 65 ∷ []) ∷ report false 2 (neg_ℤ (pos 1) ∷ neg_ℤ (pos 65) ∷ []) ∷ [])

-- "State 1 linked to an unlinked state 2; node 0 admitted by 1 alone, nodes 1 and 2 by 2 alone; edges (0,1) and (0,2); delete (0,1): no change,
-- trial count 0."
unfoldable pub spare : Case
spare =
    row
    (given (0xFFFF ∷ 0xFFFF ∷ []) (1 ∷ 2 ∷ []) (2 ∷ 0 ∷ []) 0 (1 ∷ 2 ∷ 2 ∷ []) (0 ∷ 0 ∷ []) (1 ∷ 2 ∷ []))
    (edit deletion 0 1 ∷ [])
    (report true 3 (pos 1 ∷ pos 66 ∷ pos 130 ∷ []) ∷ report true 0 [] ∷ [])

-- "Mask zero, value 00FF: admits 0000 and FFFF."
unfoldable pub unmasked : Case
unmasked =
    row
    (given (0 ∷ []) (0xFF ∷ []) (0 ∷ []) 0 (0 ∷ 0xFFFF ∷ []) [] [])
    []
    (report true 2 (pos 1 ∷ pos 65 ∷ []) ∷ [])

-- "Edges 2,048 and one more, absent: 13; one more, present: 12.": 512 nodes, and the edges from nodes 0 to 3 to every node
unfoldable pub full : Case
full =
    row
    (given (0xFFFF ∷ []) (1 ∷ []) (0 ∷ []) 0 (table max_nodes (λ v. 0)) (table max_edges (λ k. k / max_nodes)) (table max_edges (λ k. k % max_nodes)))
    (edit insertion 4 0 ∷ edit insertion 0 0 ∷ [])
    (report false 0 [] ∷ refusal 13 ∷ refusal 12 ∷ [])

-- "Two states without links, one node admitted by state 1 alone: its mark held", and 02, Job 5, "fires if the standing one is State One and the other is
-- unreached"
unfoldable pub half : Case
half =
    row
    (given (0xFFFF ∷ 0xFFFF ∷ []) (1 ∷ 2 ∷ []) (0 ∷ 0 ∷ []) 0 (1 ∷ []) [] [])
    (standing 1 0 ∷ standing 2 0 ∷ firing ∷ [])
    (report true 1 (pos 1 ∷ []) ∷ says true ∷ says false ∷ says true ∷ [])

-- 02, Job 1, "Users hunt for anything but the idle word": an inverted state stands at each node but the idle ones
unfoldable pub hunted : Case
hunted =
    row
    (given (0xFFFF ∷ []) (0 ∷ []) (0 ∷ []) 1 (0 ∷ 0xA5 ∷ 0xFFFF ∷ 0 ∷ []) [] [])
    (standing 1 0 ∷ standing 1 1 ∷ firing ∷ [])
    (report true 2 (pos 65 ∷ pos 129 ∷ []) ∷ says false ∷ says true ∷ says true ∷ [])

-- an inverted state and a plain one linked to each other: one edge closes the ring, and one opens it
unfoldable pub turned : Case
turned =
    row
    (given (0xFFFF ∷ 0xFFFF ∷ []) (0 ∷ 0 ∷ []) (2 ∷ 1 ∷ []) 1 (0xA5 ∷ 0 ∷ []) [] [])
    (edit insertion 0 1 ∷ edit insertion 1 0 ∷ edit deletion 0 1 ∷ [])
    (report false 2 [] ∷ report false 1 [] ∷ report true 2 (pos 1 ∷ pos 66 ∷ []) ∷ report false 2 (neg_ℤ (pos 1) ∷ neg_ℤ (pos 66) ∷ []) ∷ [])

-- 02, Job 9, "A mask of zero admits every node, inverted or not": alone
unfoldable pub blank : Case
blank =
    row
    (given (0 ∷ []) (0xFF ∷ []) (0 ∷ []) 1 (0 ∷ 0xFFFF ∷ []) [] [])
    (standing 1 0 ∷ standing 1 1 ∷ firing ∷ [])
    (report true 2 (pos 1 ∷ pos 65 ∷ []) ∷ says true ∷ says true ∷ says true ∷ [])

-- and in a ring with a plain state
unfoldable pub blank_ring : Case
blank_ring =
    row
    (given (0 ∷ 0xFFFF ∷ []) (0 ∷ 0 ∷ []) (2 ∷ 1 ∷ []) 1 (0xA5 ∷ 0 ∷ []) [] [])
    (edit insertion 0 1 ∷ edit insertion 1 0 ∷ edit deletion 0 1 ∷ [])
    (report false 3 [] ∷ report false 1 [] ∷ report true 2 (pos 1 ∷ pos 66 ∷ []) ∷ report false 2 (neg_ℤ (pos 1) ∷ neg_ℤ (pos 66) ∷ []) ∷ [])

-- 02, Job 5: the standing one is the other, so that State One holds the trigger back; "Marks and changes still cover all states"
unfoldable pub other_half : Case
other_half =
    row
    (given (0xFFFF ∷ 0xFFFF ∷ []) (1 ∷ 2 ∷ []) (0 ∷ 0 ∷ []) 0 (2 ∷ []) [] [])
    (standing 1 0 ∷ standing 2 0 ∷ firing ∷ [])
    (report false 1 (pos 2 ∷ []) ∷ says false ∷ says true ∷ says false ∷ [])

-- state 2 is unreached and links to State One: whether it stands or not, the trigger fires
unfoldable pub links_back : Case
links_back =
    row
    (given (0xFFFF ∷ 0xFFFF ∷ []) (1 ∷ 2 ∷ []) (0 ∷ 1 ∷ []) 0 (1 ∷ 2 ∷ []) [] [])
    (edit insertion 1 0 ∷ edit deletion 1 0 ∷ firing ∷ [])
    (report true 2 (pos 1 ∷ []) ∷ report true 1 (pos 66 ∷ []) ∷ report true 1 (neg_ℤ (pos 66) ∷ []) ∷ says true ∷ [])

-- a ring of states 2 and 3 away from State One, which links to itself: standing, the ring fires nothing, and broken it holds nothing back
unfoldable pub ring_away : Case
ring_away =
    row
    (given (0xFFFF ∷ 0xFFFF ∷ 0xFFFF ∷ []) (1 ∷ 2 ∷ 3 ∷ []) (1 ∷ 4 ∷ 2 ∷ []) 0 (1 ∷ 2 ∷ 3 ∷ []) (1 ∷ 2 ∷ []) (2 ∷ 1 ∷ []))
    (firing ∷ edit insertion 0 0 ∷ edit deletion 1 2 ∷ firing ∷ order ∷ [])
    (report false 3 (pos 66 ∷ pos 131 ∷ [])
    ∷ says false
    ∷ report true 1 (pos 1 ∷ [])
    ∷ report true 2 (neg_ℤ (pos 66) ∷ neg_ℤ (pos 131) ∷ [])
    ∷ says true
    ∷ lists (1 ∷ 2 ∷ 3 ∷ [])
    ∷ [])

-- every state reached, by a chain of three: one of them nowhere holds the trigger back, as before
unfoldable pub chain : Case
chain =
    row
    (given (0xFFFF ∷ 0xFFFF ∷ 0xFFFF ∷ []) (1 ∷ 2 ∷ 3 ∷ []) (2 ∷ 4 ∷ 0 ∷ []) 0 (1 ∷ 2 ∷ 3 ∷ []) (0 ∷ []) (1 ∷ []))
    (firing ∷ edit insertion 1 2 ∷ firing ∷ [])
    (report false 3 (pos 131 ∷ []) ∷ says false ∷ report true 2 (pos 1 ∷ pos 66 ∷ []) ∷ says true ∷ [])

-- 02, Job 6: n states, and State One linked to the last of them, whose marks and number tell whether the upper half of a set is kept
unfoldable pub to_the_last : ℕ → Case
to_the_last n =
    row
    (given (table n (λ u. 0xFFFF)) (table n (λ u. cond (eqb u 0) 1 (cond (eqb u (n - 1)) 2 3))) (table n (λ u. cond (eqb u 0) (2 ^ (n - 1)) 0)) 0
    (1 ∷ 2 ∷ [])
    []
    [])
    (standing n 1 ∷ edit insertion 0 1 ∷ edit deletion 0 1 ∷ order ∷ [])
    (report false 2 (pos (64 + n) ∷ [])
    ∷ says true
    ∷ report true 1 (pos 1 ∷ [])
    ∷ report false 1 (neg_ℤ (pos 1) ∷ [])
    ∷ lists (1 ∷ n ∷ table (n - 2) (λ i. i + 2))
    ∷ [])

-- the first number of states that a half word has no bit for, and the last
abbrev pub seventeen : Case
seventeen = to_the_last (half_bits + 1)

abbrev pub thirty_two : Case
thirty_two = to_the_last max_states

-- the session and the cases that 01 marks, and those of the requests
unfoldable pub cases : List Case
cases = session ∷ alone ∷ nowhere ∷ loop ∷ ring ∷ spare ∷ unmasked ∷ full ∷ half ∷ hunted ∷ turned ∷ blank ∷ blank_ring ∷ other_half ∷ links_back ∷ ring_away ∷ chain ∷ seventeen ∷ thirty_two ∷ []
