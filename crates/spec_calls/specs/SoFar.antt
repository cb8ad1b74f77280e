-- The check as it was before request C-18, for the initial symbol alone: only its new rows break, and at the end only it is asked for a row.
-- Definitions only. Assumes nothing.
use Rattle.std.specs.Prelude.{Bool, true, false, ◌&&◌, List, ℕ, zero, suc, eqb, length}
use Rattle.spec_basics.specs.Elements.{any}
use Rattle.relation.specs.Relation.{states, contained, rejects}
use Rattle.spec_language.specs.Grammar.{initial, Rule}
use Rattle.spec_language.specs.Automaton.{Automaton}
use Rattle.spec_language.specs.WordRelation.{is_final}
use Rattle.spec_file.specs.Views.{rules_of, automaton_of}
use Rattle.spec_order.specs.Candidates.{pass_candidates}
use Rattle.spec_order.specs.Journal.{Row, absent, live}
use Rattle.spec_order.specs.Order.{Progress, start, Verdict, full, Outcome, going, stopped, Answer, answer, walk, finish_by, pass_limit}
use Rattle.spec_calls.specs.Base.{forms_on}
use Rattle.spec_calls.specs.Checking.{check_refusals}
use Rattle.spec_calls.specs.Replies.{Reply, reply}

-- a live row of the initial symbol
abbrev pub initial_row : Row ℕ → Bool
initial_row r = eqb r.head initial && live r

-- the verdict of a check whose last pass added no row
abbrev pub finish_then : List (Row ℕ) → Verdict
finish_then rows = finish_by (any initial_row rows)

-- the flag says whether pass k added no row; `next` is the rest of the check otherwise
abbrev pub close_then_by : Bool → ℕ → (Progress ℕ → Answer ℕ) → Progress ℕ → Answer ℕ
close_then_by true k next s = answer (finish_then s.rows) k absent s
close_then_by false k next s = next s

abbrev pub close_then : ℕ → ℕ → (Progress ℕ → Answer ℕ) → Outcome ℕ → Answer ℕ
close_then k u next (stopped v i s) = answer v k i s
close_then k u next (going s) = close_then_by (eqb (length s.rows) u) k next s

module _ (n : ℕ) (A : Automaton) (rules : List Rule) (J B : ℕ) where
  -- a new row of the initial symbol whose relation rejects
  abbrev pub breaks_then : ℕ → ℕ → Bool
  breaks_then x e = eqb x initial && rejects n (is_final A) e

  unfoldable pub pass_then : ℕ → Progress ℕ → Outcome ℕ
  pass_then k s = walk contained breaks_then J B k (pass_candidates (forms_on n A) s.rows 0 rules) s

  unfoldable pub passes_before : ℕ → ℕ → Progress ℕ → Answer ℕ
  passes_before zero k s = answer full k absent s
  passes_before (suc f) k s = close_then k (length s.rows) (passes_before f (suc k)) (pass_then k s)

  unfoldable pub order_then : Answer ℕ
  order_then = passes_before (pass_limit J B) 1 start

-- what the call answered on a file, with J rows and a budget of B joins
unfoldable pub check_then : List ℕ → ℕ → ℕ → Reply (Answer ℕ)
check_then bs J B = let a = order_then states (automaton_of bs) (rules_of bs) J B in reply (check_refusals bs J) a
