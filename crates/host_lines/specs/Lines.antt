-- The lines of an answer, from the numbers of a check and the run buffer, as the code has them. Definitions only. Assumes nothing.
use Rattle.std.specs.Prelude.{Bool, true, false, List, [], ◌∷◌, ◌++◌, ℕ, zero, suc, eqb, take}
use Rattle.spec_order.specs.Order.{holds, broken, full, spent, empty}
use Rattle.spec_calls.specs.Printing.{verdict_word, numbers_line, word_line, refused_line}
use Rattle.spec_calls.specs.Codes.{holds_code, broken_code, full_code, spent_code, empty_code}
use Rattle.host_result.specs.declared.CheckResult.{CheckResult}

-- line 1: the word of the verdict, joins, used rows, pass
unfoldable pub totals_line : List ℕ → CheckResult → List ℕ
totals_line word t = word_line word (t.joins ∷ t.used ∷ t.pass ∷ [])

-- line 2: the row, its pairs, its length
unfoldable pub row_line : CheckResult → List ℕ
row_line t = numbers_line (t.row ∷ t.pairs ∷ t.length ∷ [])

-- line 3: what refused to write the run, f, where it is not 0, or the n steps at the front of the buffer
abbrev pub run_by : ℕ → ℕ → List ℕ → List ℕ
run_by zero n buffer = numbers_line (take n buffer)
run_by (suc f) n buffer = refused_line (suc f)

unfoldable pub run_line : CheckResult → List ℕ → List ℕ
run_line t buffer = run_by t.refused t.length buffer

unfoldable pub broken_text : CheckResult → List ℕ → List ℕ
broken_text t buffer = totals_line (verdict_word broken) t ++ (row_line t ++ run_line t buffer)

abbrev pub pick : Bool → List ℕ → List ℕ → List ℕ
pick true x y = x
pick false x y = y

-- all lines, by the number of the answer
unfoldable pub text_told : CheckResult → List ℕ → List ℕ
text_told t buffer =
    pick (eqb t.code holds_code) (totals_line (verdict_word holds) t)
    (pick (eqb t.code full_code) (totals_line (verdict_word full) t)
    (pick (eqb t.code spent_code) (totals_line (verdict_word spent) t)
    (pick (eqb t.code empty_code) (totals_line (verdict_word empty) t)
    (pick (eqb t.code broken_code) (broken_text t buffer)
    (refused_line t.code)))))
