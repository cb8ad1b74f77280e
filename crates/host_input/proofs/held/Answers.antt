-- By whether all bytes so far still fit a file.
use Rattle.std.proofs.Common.{arith}
use Rattle.host_input.specs.HeldLaws.{held_on, held-over}
use Rattle.host_input.proofs.held.Goals as goal

pub returns-then-got-saturating_sub-clause-count : goal.returns-then-got-saturating_sub-clause-count
returns-then-got-saturating_sub-clause-count c = λ n e. held_on c.args.at c.args.got n (omega arith) (omega arith) e

pub returns-clause-count : goal.returns-clause-count
returns-clause-count c = λ n e. held-over c.args.at c.args.got n (λ a. omega arith) e
