-- What writing from a journal with one row replaced ensures. Definitions only. Assumes nothing.
use Rattle.std.specs.Prelude.{List, map, ℕ, set}
use Rattle.spec_order.specs.Journal.{Row}
use Rattle.spec_calls.specs.Checking.{journal_after}
use Rattle.spec_calls.specs.Rows.{row_of}
use Rattle.spec_calls.specs.declared.Options.{Options}
use Rattle.spec_calls.specs.declared.Row.{Row as LentRow}
use Rattle.call_check.specs.Clauses.{settings_over}
use Rattle.host_result.specs.Fronts.{journal_of, place_of}
use Rattle.call_write.specs.Clauses.{Writes}
use Rattle.std.specs.declared.result.Result.{Result}
use Rattle.spec_file.specs.declared.Refusal.{Refusal as Refused}

-- the journal after a check of bs over n rows, each x before, with the options o, and then with x as row i
abbrev pub damaged_rows : List ℕ → ℕ → Options → ℕ → LentRow → List (Row ℕ)
damaged_rows bs n o i x = set (journal_after bs (settings_over o (journal_of n x)) (map row_of (journal_of n x))) (place_of i) (row_of x)

-- the run behind row k of that journal is written, with u rows used; old and new are the buffer before and after, r what writing answers
abbrev pub WritesDamaged : List ℕ → ℕ → Options → ℕ → LentRow → ℕ → ℕ → List ℕ → List ℕ → Result ℕ Refused → Type 0
WritesDamaged bs n o i x u k old new r = Writes bs (damaged_rows bs n o i x) u k old new r
