-- The numbers of the verdicts, above those of the refusals of document 01. Definitions only. Assumes nothing.
use Rattle.std.specs.Prelude.{ℕ}
use Rattle.spec_order.specs.Order.{Verdict, holds, broken, full, spent, empty}
use Rattle.spec_calls.specs.Replies.{Reply, refused, answered}

-- numbers below this one refuse a call; answers have this one or a higher one
abbrev pub first_answer_code : ℕ
first_answer_code = 100

abbrev pub holds_code : ℕ
holds_code = 100

abbrev pub broken_code : ℕ
broken_code = 101

abbrev pub full_code : ℕ
full_code = 102

abbrev pub spent_code : ℕ
spent_code = 103

abbrev pub empty_code : ℕ
empty_code = 104

abbrev pub verdict_code : Verdict → ℕ
verdict_code holds = holds_code
verdict_code broken = broken_code
verdict_code full = full_code
verdict_code spent = spent_code
verdict_code empty = empty_code

-- ---- replies

module _ {A : Type 0} where
  -- the number that refuses the call, or the answer's own
  abbrev pub code_by : (A → ℕ) → Reply A → ℕ
  code_by own (refused r) = r.number
  code_by own (answered a) = own a

-- the number that refuses to write the run, or 0
abbrev pub refused_by : Reply ℕ → ℕ
refused_by w = code_by (λ n. 0) w
