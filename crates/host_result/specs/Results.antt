-- The result of a check for a host, case by case, as the code has it; and its eight numbers. Definitions only. Assumes nothing.
use Rattle.std.specs.Prelude.{List, [], ◌∷◌, ℕ}
use Rattle.relation.specs.Relation.{states, pairs}
use Rattle.relation.specs.Representation.{value}
use Rattle.spec_order.specs.Journal.{absent}
use Rattle.spec_calls.specs.Codes.{broken_code}
use Rattle.spec_calls.specs.declared.Row.{Row}
use Rattle.search_laws.specs.Meanings.{code_of}
use Rattle.search_laws.specs.declared.Answer.{Answer}
use Rattle.search_laws.specs.declared.Answer.TheVariants as answer
use Rattle.search_laws.specs.declared.Totals.{Totals}
use Rattle.std.specs.declared.result.Result.{Result}
use Rattle.spec_calls.specs.Replies.{Reply, refused, answered}
use Rattle.spec_file.specs.Answers.{refusal_of}
use Rattle.spec_file.specs.Refusals.{Refusal, refuse}
use Rattle.spec_file.specs.declared.Refusal.{Refusal as Refused}
use Rattle.search_laws.specs.declared.Answer.{Answer as Answered}
use Rattle.std.specs.Prelude.{Ok, Err}
use Rattle.host_result.specs.declared.CheckResult.{CheckResult}
use Rattle.host_result.specs.declared.Numbered.{Numbered}

-- with the sample y
abbrev pub unbroken_by : ℕ → Totals → Row → CheckResult
unbroken_by c n y =
    record { code = c; place = 0; joins = n.joins; used = n.used; pass = n.pass; row = absent; pairs = 0; length = 0; refused = 0; head = 0; sample = y }

-- row i, which is x, and what refused to write its run, f
abbrev pub broken_by : ℕ → Totals → Row → Row → ℕ → CheckResult
broken_by i n x y f =
    record { code = broken_code; place = 0; joins = n.joins; used = n.used; pass = n.pass; row = i; pairs = pairs states (value x.relation); length = x.len; refused = f; head = x.head; sample = y }

abbrev pub told_of : Answer → Row → Row → ℕ → CheckResult
told_of (answer.Ended v n) x y f = unbroken_by (code_of v) n y
told_of (answer.Broken i n) x y f = broken_by i n x y f

-- of any refusals, by what one says
abbrev pub told_as : {E : Type 0} → (E → Refusal) → Result Answered E → Row → Row → ℕ → CheckResult
told_as says (Err r) x y f =
    record { code = (says r).number; place = (says r).place; joins = 0; used = 0; pass = 0; row = 0; pairs = 0; length = 0; refused = 0; head = 0; sample = y }
told_as says (Ok a) x y f = told_of a x y f

abbrev pub told_by : Result Answered Refused → Row → Row → ℕ → CheckResult
told_by = told_as refusal_of

-- the answer of writing a run, by what a refusal says
abbrev pub written_as : {E : Type 0} → (E → Refusal) → Result ℕ E → Reply ℕ
written_as says (Err r) = refused (says r)
written_as says (Ok n) = answered n

-- what a refusal with any number says
abbrev pub numbered_of : Numbered → Refusal
numbered_of r = refuse r.number r.place

-- place, joins, used rows, pass, row, pairs, length, refused
abbrev pub numbers_in : CheckResult → List ℕ
numbers_in t = t.place ∷ t.joins ∷ t.used ∷ t.pass ∷ t.row ∷ t.pairs ∷ t.length ∷ t.refused ∷ []
