-- What listing a sheet's gaps and doubles answers on a file, and what the lent buffer holds afterwards (document 02, C-16). Definitions only.
-- Assumes nothing.
use Rattle.std.specs.Prelude.{◌≡◌, ◌↔◌, Bool, not, ◌&&◌, ◌||◌, cond, List, [], ◌∷◌, ◌++◌, ℕ, zero, suc, ◌*◌, eqb, ltb, length, take, drop}
use Rattle.spec_basics.specs.Elements.{In, any, concat_map}
use Rattle.relation.specs.Relation.{states}
use Rattle.spec_language.specs.Automaton.{Transition, Automaton}
use Rattle.spec_language.specs.Remarks.{first_remark}
use Rattle.spec_file.specs.Refusals.{Refusal, refuse, fault}
use Rattle.spec_file.specs.Views.{cons_if, transitions_of, automaton_of}
use Rattle.spec_calls.specs.Replies.{Reply, refused, answered, reply}
use Rattle.spec_calls.specs.Gaps.{StateTaken, LetterUsed, moves_on, ListEntry, Gap, Ordered, ExactlyOne}

-- ---- the tests of a pair

-- a transition from the state or to it
abbrev pub touches : List Transition → ℕ → Bool
touches ts s = any (λ t. eqb t.source s || eqb t.target s) ts

-- state 0, or a state in a transition or final
unfoldable pub takes_state : Automaton → ℕ → Bool
takes_state A s = eqb s 0 || (touches A.transitions s || any (λ f. eqb f s) A.finals)

-- a letter of a transition
unfoldable pub uses_letter : Automaton → ℕ → Bool
uses_letter A c = any (λ t. eqb t.letter c) A.transitions

-- both, and the number of transitions isn't one
unfoldable pub gap_at : Automaton → ℕ → ℕ → Bool
gap_at A s c = takes_state A s && (uses_letter A c && not (eqb (moves_on A.transitions s c) 1))

-- ---- the list

abbrev pub gap_of : Automaton → ℕ → ℕ → ListEntry
gap_of A s c = record { state = s; letter = c; moves = moves_on A.transitions s c }

-- of state s, the letters below m
unfoldable pub state_gaps : Automaton → ℕ → ℕ → List ListEntry
state_gaps A s zero = []
state_gaps A s (suc c) = state_gaps A s c ++ cons_if (gap_at A s c) (gap_of A s c) []

-- of the states below n, the letters below m
unfoldable pub gaps_in : Automaton → ℕ → ℕ → List ListEntry
gaps_in A m zero = []
gaps_in A m (suc s) = gaps_in A m s ++ state_gaps A s m

-- the gaps and doubles of a file's automaton. The letters from the first remark on are not looked at: a file with a transition on one is
-- refused with 12
unfoldable pub gaps_of : List ℕ → List ListEntry
gaps_of bs = gaps_in (automaton_of bs) first_remark states

-- ---- the call

-- "stage, code, number of moves"
abbrev pub bytes_of : ListEntry → List ℕ
bytes_of e = e.state ∷ e.letter ∷ e.moves ∷ []

-- bytes of a list buffer at least: three for each of 16 states and 120 letters
abbrev pub list_bytes : ℕ
list_bytes = 5760

-- 15: the list buffer is too small, however long the list is
unfoldable pub list_fault : ℕ → ℕ
list_fault room = cond (ltb room list_bytes) 15 0

-- what may refuse the call, in its order: the file's refusal, then 15
abbrev pub list_refusals : List ℕ → ℕ → List Refusal
list_refusals bs room = fault bs ∷ refuse (list_fault room) 0 ∷ []

-- the first of them, and else the count of entries
unfoldable pub list_of : List ℕ → ℕ → Reply ℕ
list_of bs room = reply (list_refusals bs room) (length (gaps_of bs))

-- the bytes of the entries over a buffer, and then the old bytes
unfoldable pub over : List ℕ → List ListEntry → List ℕ
over old es = concat_map bytes_of es ++ drop (length (concat_map bytes_of es)) old

-- the old bytes whole on a refusal
abbrev pub listed_by : List ListEntry → List ℕ → Reply ℕ → List ℕ
listed_by es old (refused r) = old
listed_by es old (answered n) = over old es

unfoldable pub list_after : List ℕ → List ℕ → List ℕ
list_after bs old = listed_by (gaps_of bs) old (list_of bs (length old))

-- ---- what the reply means

-- of an answer of n entries, where the buffer holds old before and new afterwards
pub record ListShows (bs old new : List ℕ) (n : ℕ) : Type 0 where
  pub entries : List ListEntry
  pub count : n ≡ length entries
  -- they are just the gaps and doubles of the sheet, in their order
  pub exactly : (e : ListEntry) → In e entries ↔ Gap (automaton_of bs) e
  pub ordered : Ordered entries
  -- the first bytes of the buffer are theirs, three for each, and the others keep their values
  pub first-bytes : take (n * 3) new ≡ concat_map bytes_of entries
  pub other-bytes : drop (n * 3) new ≡ drop (n * 3) old
  -- "On a sheet with an empty list, a run of codes used in its moves has exactly one path from each stage taken"
  pub one-path : n ≡ 0 → (a : ℕ) → StateTaken (automaton_of bs) a → (w : List ℕ) → ((c : ℕ) → In c w → LetterUsed (automaton_of bs) c) → ExactlyOne (transitions_of bs) a w

-- a refused call leaves the buffer as it was
abbrev pub ListMeans : List ℕ → List ℕ → List ℕ → Reply ℕ → Type 0
ListMeans bs old new (refused r) = new ≡ old
ListMeans bs old new (answered n) = ListShows bs old new n
