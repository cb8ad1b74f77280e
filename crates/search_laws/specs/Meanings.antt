-- What the code's counts, outcomes, states and answers stand for in the working order. Definitions only. Assumes nothing.
use Rattle.std.specs.Prelude.{Bool, true, false, cond, List, ℕ, ◌+◌, eqb}
use Rattle.spec_order.specs.Journal.{Row, absent}
use Rattle.spec_order.specs.Order.{Verdict, holds, broken, full, spent, empty, going, stopped}
use Rattle.spec_calls.specs.Codes.{verdict_code, holds_code, broken_code, full_code, empty_code}
use Rattle.spec_order.specs.Order as order
use Rattle.search_links.specs.Rows.{rows_read}
use Rattle.search_state.specs.declared.Counts.{Counts}
use Rattle.search_state.specs.declared.Fate.{Fate}
use Rattle.search_state.specs.declared.Phase.TheVariants as phase
use Rattle.search_state.specs.declared.Phase.{Phase}
use Rattle.search_state.specs.declared.State.{State}
use Rattle.search_state.specs.declared.Unbroken.TheVariants as unbroken
use Rattle.search_state.specs.declared.Unbroken.{Unbroken}
use Rattle.search_laws.specs.declared.Answer.TheVariants as answer
use Rattle.search_laws.specs.declared.Answer.{Answer}
use Rattle.search_laws.specs.declared.Outcome.TheVariants as outcome
use Rattle.search_laws.specs.declared.Outcome.{Outcome}
use Rattle.search_laws.specs.declared.Stop.TheVariants as stop
use Rattle.search_laws.specs.declared.Stop.{Stop}
use Rattle.search_laws.specs.declared.Totals.{Totals}

abbrev pub verdict_of : Unbroken → Verdict
verdict_of unbroken.Holds = holds
verdict_of unbroken.Full = full
verdict_of unbroken.Spent = spent
verdict_of unbroken.Empty = empty

-- over a journal j of rows that `row_of` reads
module _ {E R : Type 0} (row_of : R → Row E) where
  abbrev pub progress_of : Counts → List R → order.Progress E
  progress_of w j = record { rows = rows_read row_of w.used j; joins = w.joins }

  -- its row is absent unless broken
  abbrev pub stop_of : Stop → List R → order.Outcome E
  stop_of (stop.Ended v w) j = stopped (verdict_of v) absent (progress_of w j)
  stop_of (stop.Broken i w) j = stopped broken i (progress_of w j)

  abbrev pub outcome_of : Outcome → List R → order.Outcome E
  outcome_of (outcome.Going w) j = going (progress_of w j)
  outcome_of (outcome.Stopped x) j = stop_of x j

  abbrev pub answer_by : Verdict → ℕ → Totals → List R → order.Answer E
  answer_by v i n j = record { verdict = v; joins = n.joins; used = n.used; pass = n.pass; row = i; journal = rows_read row_of n.used j }

  -- the answer over the journal as it stands then; its row is absent unless broken
  abbrev pub answer_of : Answer → List R → order.Answer E
  answer_of (answer.Ended v n) j = answer_by (verdict_of v) absent n j
  answer_of (answer.Broken i n) j = answer_by broken i n j

abbrev pub counts_at : Stop → Counts
counts_at (stop.Ended v w) = w
counts_at (stop.Broken i w) = w

abbrev pub counts_in : Outcome → Counts
counts_in (outcome.Going w) = w
counts_in (outcome.Stopped x) = counts_at x

-- ---- the counts

-- a join more
abbrev pub with_join : Counts → Counts
with_join w = record { used = w.used; joins = w.joins + 1; added = w.added }

-- a row more
abbrev pub with_row : Counts → Counts
with_row w = record { used = w.used + 1; joins = w.joins; added = w.added + 1 }

-- the next pass begins: it has added no row yet
abbrev pub in_next_pass : Counts → Counts
in_next_pass w = record { used = w.used; joins = w.joins; added = 0 }

-- ---- one candidate

-- a new row, whether it breaks or not
abbrev pub born_by : Bool → ℕ → Counts → Outcome
born_by true i w = outcome.Stopped (stop.Broken i w)
born_by false i w = outcome.Going w

abbrev pub full_by : Bool → Bool → Counts → Outcome
full_by true b w = outcome.Stopped (stop.Ended unbroken.Full w)
full_by false b w = born_by b w.used (with_row w)

-- whether a row covers, there is no room, it breaks
abbrev pub decided_by : Bool → Bool → Bool → Counts → Outcome
decided_by true f b w = outcome.Going w
decided_by false f b w = full_by f b w

-- one join more, by the candidate's fate
abbrev pub decided_in : State → Fate → Outcome
decided_in s f = decided_by f.covered f.full f.breaks (with_join s.counts)

-- ---- answers

abbrev pub totals_of : Counts → ℕ → Totals
totals_of w k = record { joins = w.joins; used = w.used; pass = k }

abbrev pub totals_in : Answer → Totals
totals_in (answer.Ended v n) = n
totals_in (answer.Broken i n) = n

-- what stopped in pass k, as the answer
abbrev pub answer_to : ℕ → Stop → Answer
answer_to k (stop.Ended v w) = answer.Ended v (totals_of w k)
answer_to k (stop.Broken i w) = answer.Broken i (totals_of w k)

-- the verdict of a search whose last pass added no row, by whether a nonterminal whose words count has a live row (the working order's
-- `finish_by`)
abbrev pub finished_by : Bool → Unbroken
finished_by true = unbroken.Holds
finished_by false = unbroken.Empty

-- ---- the verdict of a search that has ended

-- its number, as hosts get it
abbrev pub code_of : Unbroken → ℕ
code_of v = verdict_code (verdict_of v)

-- the verdict that has this number
abbrev pub unbroken_at : ℕ → Unbroken
unbroken_at c = cond (eqb c holds_code) unbroken.Holds (cond (eqb c full_code) unbroken.Full (cond (eqb c empty_code) unbroken.Empty unbroken.Spent))

-- the answer with the verdict that has this number, or the broken one, which names row i
abbrev pub answer_numbered : ℕ → ℕ → Totals → Answer
answer_numbered c i n = cond (eqb c broken_code) (answer.Broken i n) (answer.Ended (unbroken_at c) n)

-- only a search that has ended is asked
abbrev pub answer_at : Phase → Totals → Answer
answer_at phase.Going n = answer.Ended unbroken.Spent n
answer_at phase.Waiting n = answer.Ended unbroken.Spent n
answer_at (phase.Ended v) n = answer.Ended v n
answer_at (phase.Broken i) n = answer.Broken i n

abbrev pub answer_in : State → Answer
answer_in s = answer_at s.phase (totals_of s.counts s.terms.pass)
