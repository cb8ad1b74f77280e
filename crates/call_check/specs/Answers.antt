-- What the answers of a check say, case by case, in the terms of the definitions. Definitions only. Assumes nothing.
use Rattle.std.specs.Prelude.{ℕ, Ok, Err}
use Rattle.std.specs.declared.result.Result.{Result}
use Rattle.spec_file.specs.Answers.{refusal_of}
use Rattle.spec_file.specs.declared.Refusal.{Refusal}
use Rattle.spec_order.specs.Order as order
use Rattle.spec_calls.specs.Replies.{Reply, refused, answered}
use Rattle.spec_calls.specs.Rows.{row_of, Journal}
use Rattle.search_laws.specs.Meanings.{answer_of}
use Rattle.search_laws.specs.declared.Answer.{Answer}

-- the answer, over the journal as it stands then
abbrev pub checked_of : Result Answer Refusal → Journal → Reply (order.Answer ℕ)
checked_of (Err r) j = refused (refusal_of r)
checked_of (Ok a) j = answered (answer_of row_of a j)

-- the rows that a reply uses; none on a refusal
abbrev pub used_in : Reply (order.Answer ℕ) → ℕ
used_in (refused r) = 0
used_in (answered a) = a.used
