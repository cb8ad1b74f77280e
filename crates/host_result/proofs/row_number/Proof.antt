-- The row, or row 0. Assumes nothing.
use mathlib.Core.Path.{sym, ap}
use mathlib.Core.Bool.{Bool, cond}
use native.Mathlib.Omega.{arith}
use borrow.Author.Tests.{lt-ltb, le-ltb}
use Rattle.spec_calls.specs.Checking.{journal_limit}
use Rattle.host_result.proofs.row_number.Statement.{statement}
use Rattle.host_result.proofs.row_number.Tie as tie

returns : tie.Need-returns-then-i-lt-JOURNAL_LIMIT
returns c = let i = c.before.args.i in (sym (ap (λ (b : Bool). cond b i 0) (lt-ltb i journal_limit c.if-i-lt-JOURNAL_LIMIT.true)), c.if-i-lt-JOURNAL_LIMIT.true)

returns-2 : tie.Need-returns
returns-2 c = let i = c.before.args.i in (sym (ap (λ (b : Bool). cond b i 0) (le-ltb i journal_limit c.if-i-lt-JOURNAL_LIMIT.false)), omega arith)

pub row_number_spec : {M : Type 1} → statement M
row_number_spec =
    tie.close (tie.spec returns returns-2)
