-- What the code reads of a sheet, and what it writes: the count of transitions for each pair, marks of the states that are taken and of
-- the letters that are used, and entries in a buffer. Definitions only. Assumes nothing.
use Rattle.std.specs.Prelude.{◌≡◌, Bool, true, false, not, ◌&&◌, cond, List, ℕ, zero, suc, ◌+◌, ◌*◌, ◌<◌, eqb, ltb, length, get_or, set}
use Rattle.relation.specs.Relation.{states}
use Rattle.spec_language.specs.Automaton.{Automaton}
use Rattle.spec_language.specs.Remarks.{first_remark}
use Rattle.spec_file.specs.Records.{record_at, kind_at, transition_kind, final_kind}
use Rattle.spec_file.specs.Views.{transition_of, final_of, collect}
use Rattle.spec_calls.specs.Gaps.{moves_on, ListEntry}
use Rattle.spec_calls.specs.Listing.{takes_state, uses_letter}

-- ---- reading

-- the place of a pair's count
abbrev pub cell_of : ℕ → ℕ → ℕ
cell_of s c = s * first_remark + c

-- one transition more from s on c; the same counts where c is no letter or s no state
abbrev pub with_move : List ℕ → ℕ → ℕ → List ℕ
with_move counts s c = cond (ltb c first_remark) (set counts (cell_of s c) (get_or counts (cell_of s c) 0 + 1)) counts

-- one mark more; the same marks where there is no such place
abbrev pub with_mark : List Bool → ℕ → List Bool
with_mark marks k = set marks k true

-- the tables say what the automaton has
pub record Sheet (A : Automaton) (counts : List ℕ) (taken used : List Bool) : Type 0 where
  pub count-size : length counts ≡ states * first_remark
  pub taken-size : length taken ≡ states
  pub used-size : length used ≡ first_remark
  pub counted : (s c : ℕ) → s < states → c < first_remark → get_or counts (cell_of s c) 0 ≡ moves_on A.transitions s c
  pub state-marked : (s : ℕ) → s < states → get_or taken s false ≡ takes_state A s
  pub letter-marked : (c : ℕ) → c < first_remark → get_or used c false ≡ uses_letter A c

-- the transitions and final states among the first i records
abbrev pub up_to_record : List ℕ → ℕ → Automaton
up_to_record bs i = record { transitions = collect transition_kind transition_of bs i 0; finals = collect final_kind final_of bs i 0 }

-- the tables after record i
pub record Taken (bs : List ℕ) (i : ℕ) (counts : List ℕ) (taken used : List Bool) (counts' : List ℕ) (taken' used' : List Bool) : Type 0 where
  pub counts-then : let t = transition_of (record_at bs i) in counts' ≡ cond (eqb (kind_at bs i) transition_kind) (with_move counts t.source t.letter) counts
  pub taken_then : let t = transition_of (record_at bs i) in
      let moved = cond (eqb (kind_at bs i) transition_kind) (with_mark (with_mark taken t.source) t.target) taken in
      taken' ≡ cond (eqb (kind_at bs i) final_kind) (with_mark moved (final_of (record_at bs i))) moved
  pub used-then : let t = transition_of (record_at bs i) in used' ≡ cond (eqb (kind_at bs i) transition_kind) (with_mark used t.letter) used

-- ---- writing

-- a buffer with so many entries
pub record Lines : Type 0 where
  pub bytes : List ℕ
  pub count : ℕ

abbrev pub lines_in : List ℕ → ℕ → Lines
lines_in b n = record { bytes = b; count = n }

-- three bytes behind the entries so far
abbrev pub put : List ℕ → ℕ → ListEntry → List ℕ
put b n e = set (set (set b (n * 3) e.state) (n * 3 + 1) e.letter) (n * 3 + 2) e.moves

abbrev pub with_entry : Lines → ListEntry → Lines
with_entry l e = lines_in (put l.bytes l.count e) (l.count + 1)

-- by the tables
abbrev pub gap_in : List ℕ → List Bool → List Bool → ℕ → ℕ → Bool
gap_in counts taken used s c = get_or taken s false && (get_or used c false && not (eqb (get_or counts (cell_of s c) 0) 1))

abbrev pub entry_in : List ℕ → ℕ → ℕ → ListEntry
entry_in counts s c = record { state = s; letter = c; moves = get_or counts (cell_of s c) 0 }

abbrev pub pair_into : List ℕ → List Bool → List Bool → ℕ → ℕ → Lines → Lines
pair_into counts taken used s c l = cond (gap_in counts taken used s c) (with_entry l (entry_in counts s c)) l

-- of state s, the letters below m
unfoldable pub state_into : List ℕ → List Bool → List Bool → ℕ → ℕ → Lines → Lines
state_into counts taken used s zero l = l
state_into counts taken used s (suc c) l = pair_into counts taken used s c (state_into counts taken used s c l)

-- of the states below n
unfoldable pub all_into : List ℕ → List Bool → List Bool → ℕ → Lines → Lines
all_into counts taken used zero l = l
all_into counts taken used (suc s) l = state_into counts taken used s first_remark (all_into counts taken used s l)

-- each count is a byte
abbrev pub Bytes : List ℕ → Type 0
Bytes counts = (s c : ℕ) → s < states → c < first_remark → get_or counts (cell_of s c) 0 < 256
