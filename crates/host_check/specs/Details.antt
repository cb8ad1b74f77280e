-- What a host is told of a check's reply: eight numbers, and the run at the front of the buffer. Definitions only. Assumes nothing.
use Rattle.std.specs.Prelude.{List, [], ◌∷◌, ℕ, get_or}
use Rattle.relation.specs.Relation.{states, pairs}
use Rattle.spec_order.specs.Journal.{Row}
use Rattle.spec_order.specs.Order.{Answer, Verdict, holds, broken, full, spent, empty}
use Rattle.spec_calls.specs.Checking.{shown_head}
use Rattle.spec_calls.specs.Replies.{Reply, refused, answered}
use Rattle.spec_calls.specs.Writing.{write_of, buffer_after}
use Rattle.spec_calls.specs.Codes.{verdict_code, refused_by}

-- what is read past the end of a journal: a row of zeros
abbrev pub zero_row : Row ℕ
zero_row = record { head = 0; rule = 0; effect = 0; left = 0; right = 0; len = 0; birth = 0; retired = 0 }

-- one thing where the verdict is broken, and another where it is not
abbrev pub if_broken : {A : Type 0} → Verdict → A → A → A
if_broken broken x y = x
if_broken holds x y = y
if_broken full x y = y
if_broken spent x y = y
if_broken empty x y = y

-- ---- the result

abbrev pub answer_code : Answer ℕ → ℕ
answer_code a = verdict_code a.verdict

-- ---- the eight numbers: record, joins, used rows, pass, row, pairs, length, refused

-- row i of the journal after the check
abbrev pub row_after : List (Row ℕ) → ℕ → Row ℕ
row_after rows i = get_or rows i zero_row

-- the last three, of the row and of writing its run; 0 unless broken
abbrev pub last_three : Verdict → Row ℕ → Reply ℕ → List ℕ
last_three v r w = if_broken v (pairs states r.effect ∷ r.len ∷ refused_by w ∷ []) (0 ∷ 0 ∷ 0 ∷ [])

-- of the file bs, with the journal's rows after the check and a buffer of so many bytes
abbrev pub details_of : List ℕ → List (Row ℕ) → ℕ → Reply (Answer ℕ) → List ℕ
details_of bs rows room (refused r) = r.place ∷ 0 ∷ 0 ∷ 0 ∷ 0 ∷ 0 ∷ 0 ∷ 0 ∷ []
details_of bs rows room (answered a) =
    0 ∷ a.joins ∷ a.used ∷ a.pass ∷ a.row ∷ last_three a.verdict (row_after rows a.row) (write_of bs rows a.used a.row room)

-- of a check after which no run is written, so that none is refused
abbrev pub row_numbers : List (Row ℕ) → Reply (Answer ℕ) → List ℕ
row_numbers rows (refused r) = r.place ∷ 0 ∷ 0 ∷ 0 ∷ 0 ∷ 0 ∷ 0 ∷ 0 ∷ []
row_numbers rows (answered a) = 0 ∷ a.joins ∷ a.used ∷ a.pass ∷ a.row ∷ last_three a.verdict (row_after rows a.row) (answered 0)

-- the nonterminal of a broken answer's row, which derives the run; 0 unless broken
abbrev pub head_of : Reply (Answer ℕ) → ℕ
head_of (refused r) = 0
head_of (answered a) = if_broken a.verdict (shown_head a) 0

-- ---- the buffer

-- a broken answer has the run behind its row written; no other changes the buffer
abbrev pub shown_by : Verdict → List ℕ → List ℕ → List ℕ
shown_by v written old = if_broken v written old

abbrev pub shown_of : List ℕ → List (Row ℕ) → List ℕ → Reply (Answer ℕ) → List ℕ
shown_of bs rows old (refused r) = old
shown_of bs rows old (answered a) = shown_by a.verdict (buffer_after bs rows a.used a.row old) old
