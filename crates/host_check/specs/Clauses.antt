-- What a check with the run of its answer ensures, in one record. Definitions only. Assumes nothing.
use Rattle.std.specs.Prelude.{◌≡◌, List, ◌++◌, map, ℕ, length}
use Rattle.spec_order.specs.Journal.{Row}
use Rattle.spec_order.specs.Order.{Answer}
use Rattle.spec_calls.specs.Checking.{Settings, check_of, journal_after}
use Rattle.spec_calls.specs.DemandThree.{Promises}
use Rattle.spec_calls.specs.Replies.{Reply, answered}
use Rattle.spec_calls.specs.Rows.{row_of, Journal}
use Rattle.spec_calls.specs.declared.Options.{Options}
use Rattle.spec_calls.specs.declared.Row.{Row as LentRow}
use Rattle.call_check.specs.Clauses.{settings_over}
use Rattle.spec_calls.specs.Codes.{code_by}
use Rattle.host_result.specs.Fronts.{journal_of, rest_of, place_of}
use Rattle.host_check.specs.Details.{answer_code, row_after, details_of, head_of, shown_of}
use Rattle.host_result.specs.Results.{numbers_in}
use Rattle.host_result.specs.declared.CheckResult.{CheckResult}

-- a reply x to a check of the file bs, which left these rows in the journal, told as the number r, the eight numbers d, and the buffer
pub record Tells (bs : List ℕ) (rows : List (Row ℕ)) (x : Reply (Answer ℕ)) (d old new : List ℕ) (r : ℕ) : Type 0 where
  pub code : r ≡ code_by answer_code x
  pub details : d ≡ details_of bs rows (length old) x
  -- the run and then the old bytes, where one is written; else the old bytes whole
  pub buffer : new ≡ shown_of bs rows old x

-- a check with the settings g, told so
pub record ChecksBy (bs : List ℕ) (g : Settings) (rows : List (Row ℕ)) (d old new : List ℕ) (r : ℕ) : Type 0 where
  pub told : Tells bs rows (check_of bs g) d old new r
  -- demand 3, where the verdict comes and what the joins are, the least height, what the rows are, writing the word that is shown,
  -- and stability, of the answer
  pub promises : (a : Answer ℕ) → check_of bs g ≡ answered a → Promises bs g a

-- with the options o over a journal
abbrev pub ChecksOver : List ℕ → Journal → Options → List ℕ → List ℕ → List ℕ → ℕ → Type 0
ChecksOver bs journal o d old new r = ChecksBy bs (settings_over o journal) (journal_after bs (settings_over o journal) (map row_of journal)) d old new r

-- a check with n rows, each x before, and the options o, with the row at p as the sample
pub record ChecksAlone (bs : List ℕ) (n : ℕ) (x : LentRow) (o : Options) (p : ℕ) (old new : List ℕ) (r : CheckResult) : Type 0 where
  pub over : ChecksOver bs (journal_of n x) o (numbers_in r) old new r.code
  -- the nonterminal of the run that is shown
  pub head : r.head ≡ head_of (check_of bs (settings_over o (journal_of n x)))
  -- the row at p: of the journal after the check, and of the rows after it
  pub sample : row_of r.sample ≡ row_after (journal_after bs (settings_over o (journal_of n x)) (map row_of (journal_of n x)) ++ map row_of (rest_of n x)) (place_of p)
