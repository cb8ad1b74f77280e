-- `spec_calls::capped_sum` meets its contract: below 65,535 the sum fits, and else 65,535 is less. Assumes nothing.
use native.Mathlib.Omega.{arith}
use borrow.Author.Rules.{rules}
use Rattle.spec_order.specs.Journal.{capped}
use Rattle.spec_calls.proofs.capped_sum.Statement.{statement}
use Rattle.spec_calls.proofs.capped_sum.Tie as tie

returns : tie.Need-returns-then-b-a
unfolding capped
returns c = omega arith

returns-2 : tie.Need-returns-else-b-a
unfolding capped
returns-2 c = omega arith

returns-3 : tie.Need-returns-else-a-lt-LONG_WORD
unfolding capped
returns-3 c = omega arith

pub capped_sum_spec : {M : Type 1} → statement M
capped_sum_spec = tie.close (tie.spec (λ c. search rules) (λ c. search rules) returns returns-2 returns-3)
