-- The candidate of the place of a state, formed from rows as the code has them. Definitions only. Assumes nothing.
use Rattle.std.specs.Prelude.{List, [], ℕ}
use Rattle.spec_calls.specs.Rows.{row_of, blank}
use Rattle.spec_calls.specs.declared.Row.{Row as LentRow}
use Rattle.search_state.specs.Forming as forming
use Rattle.search_state.specs.Forming.{entry_at, formed_from}
use Rattle.search_state.specs.declared.State.{State}
use Rattle.search_rows.specs.Base.{Candidate}
use Rattle.search_rows.specs.Meanings.{composing_of}

-- the row at position i, if it is one of the first n
abbrev pub among_first : LentRow → ℕ → ℕ → LentRow
among_first r i n = forming.among_first blank r i n

-- the candidate of the place, from the used rows
abbrev pub formed_in : List ℕ → List (List ℕ) → State → LentRow → LentRow → Candidate
formed_in letters rules s left right = formed_from (composing_of letters) row_of blank (entry_at rules s.place.rule) s left right

-- the candidate with the effect e
abbrev pub with_effect : ℕ → Candidate → Candidate
with_effect e c = record { head = c.head; rule = c.rule; effect = e; left = c.left; right = c.right; len = c.len }

-- the candidate of the place with the effect e: no letter is read
abbrev pub formed_with : ℕ → List (List ℕ) → State → LentRow → LentRow → Candidate
formed_with e rules s left right = with_effect e (formed_in [] rules s left right)
