-- What a check ensures, in one record. Definitions only. Assumes nothing.
use Rattle.std.specs.Prelude.{◌≡◌, List, map, ℕ, length, drop}
use Rattle.spec_order.specs.Order.{Answer}
use Rattle.spec_calls.specs.Replies.{answered}
use Rattle.spec_calls.specs.Rows.{row_of, settings_of, Journal}
use Rattle.spec_calls.specs.Checking.{Settings, check_of, journal_after}
use Rattle.spec_calls.specs.DemandThree.{Promises}
use Rattle.spec_calls.specs.declared.Options.{Options}
use Rattle.std.specs.declared.result.Result.{Result}
use Rattle.spec_file.specs.declared.Refusal.{Refusal}
use Rattle.search_laws.specs.declared.Answer.{Answer as SearchAnswer}
use Rattle.call_check.specs.Answers.{checked_of, used_in}

-- the settings of a check with the options o over a journal with the rows old
abbrev pub settings_over : Options → Journal → Settings
settings_over o old = settings_of (length old) o

-- a check of the file bs with the options o, over a journal with the rows old before and new afterwards
pub record Checks (bs : List ℕ) (o : Options) (old new : Journal) (r : Result SearchAnswer Refusal) : Type 0 where
  -- the refusal, or the working order's verdict, joins, used rows, pass, row and journal
  pub answer : checked_of r new ≡ check_of bs (settings_over o old)
  -- the working order's rows, and then the old contents; the old contents whole on a refusal
  pub journal : map row_of new ≡ journal_after bs (settings_over o old) (map row_of old)
  -- and so number by number
  pub untouched : drop (used_in (check_of bs (settings_over o old))) new ≡ drop (used_in (check_of bs (settings_over o old))) old
  -- demand 3, where the verdict comes and what the joins are, the least height, what the rows are, writing the word that is shown,
  -- and stability, of the answer
  pub promises : (a : Answer ℕ) → check_of bs (settings_over o old) ≡ answered a → Promises bs (settings_over o old) a
