-- The part of the library's array that is lent as the journal, and the rows of it that are looked at afterwards. Definitions only.
-- Assumes nothing.
use Rattle.std.specs.Prelude.{cond, List, ℕ, leb, ltb, take, drop, replicate}
use Rattle.spec_calls.specs.Checking.{journal_limit}
use Rattle.spec_calls.specs.declared.Row.{Row}
use Rattle.search_laws.specs.declared.Answer.{Answer}
use Rattle.search_laws.specs.declared.Answer.TheVariants as answer
use Rattle.std.specs.declared.result.Result.{Result}
use Rattle.search_laws.specs.declared.Answer.{Answer as Answered}
use Rattle.std.specs.Prelude.{Ok, Err}
use Rattle.host_result.specs.declared.RowToWrite.{RowToWrite}

-- the rows that are lent where n are asked for: n, or none where a journal may not have n
abbrev pub front_of : ℕ → ℕ
front_of n = cond (leb n journal_limit) n 0

-- the journal, and the rows of the array after it
unfoldable pub journal_of : ℕ → Row → List Row
journal_of n old = take (front_of n) (replicate journal_limit old)

unfoldable pub rest_of : ℕ → Row → List Row
rest_of n old = drop (front_of n) (replicate journal_limit old)

-- ---- the rows that are looked at

-- row i, or row 0 where a journal may not have it
abbrev pub place_of : ℕ → ℕ
place_of i = cond (ltb i journal_limit) i 0

-- what to write after an answer on a file of s bytes: the row, the used rows, and how many bytes of the file writing is given. Where nothing is
-- broken, a row that is not used and no bytes
abbrev pub unnamed : RowToWrite
unnamed = record { used = 0; row = 0; bytes = 0 }

abbrev pub name_of : Answer → ℕ → RowToWrite
name_of (answer.Ended v n) s = unnamed
name_of (answer.Broken i n) s = record { used = n.used; row = i; bytes = s }

abbrev pub name_in : {E : Type 0} → Result Answered E → ℕ → RowToWrite
name_in (Err r) s = unnamed
name_in (Ok a) s = name_of a s
