-- Forms for a journal of numbers. Definitions only. Assumes nothing.
use Rattle.std.specs.Prelude.{[], ℕ}
use Rattle.spec_order.specs.Algebra.{Forms}
use Rattle.spec_calls.specs.Rows.{row_of, blank}

-- fitting takes forms only for the row that is never read: with these it is the blank row. Any others say the same of fitting
abbrev pub no_forms : Forms ℕ
no_forms = record { of_empty = (row_of blank).effect; of_terminal = λ c. 0; of_pair = λ x y. [] }
