-- The number of rows to lend is `rows` or 0, by the test that was taken. Assumes nothing.
use Rattle.std.proofs.Common.{sym, ap, arith}
use Rattle.std.proofs.Math.Bool.{Bool, cond}
use borrow.Author.Tests.{le-leb, lt-leb}
use Rattle.spec_calls.specs.Checking.{journal_limit}
use Rattle.host_result.proofs.lent_rows.Goals as goal

pub returns-then-rows-le-JOURNAL_LIMIT : goal.returns-then-rows-le-JOURNAL_LIMIT
returns-then-rows-le-JOURNAL_LIMIT c = let n = c.args.rows in (sym (ap (λ (b : Bool). cond b n 0) (le-leb n journal_limit (omega arith))), omega arith)

pub returns : goal.returns
returns c = let n = c.args.rows in (sym (ap (λ (b : Bool). cond b n 0) (lt-leb n journal_limit (omega arith))), omega arith)
