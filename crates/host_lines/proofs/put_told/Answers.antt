-- No text is longer, since the numbers of a check have 64 bits and the steps of a run are bytes. Assumes nothing.
use Rattle.std.proofs.Common.{arith, rules}
use Rattle.host_lines.specs.LengthLaws.{Shorter, told-long}
use Rattle.host_lines.proofs.put_told.Goals as goal

pub returns-in-100-clause-long : goal.returns-in-100-clause-long
returns-in-100-clause-long c = let steps : Shorter 2 c.args.buffer.now = λ i. omega (arith, c.type_inv.buffer i) in told-long _ _ (search rules)

pub returns-in-102-clause-long : goal.returns-in-102-clause-long
returns-in-102-clause-long c = let steps : Shorter 2 c.args.buffer.now = λ i. omega (arith, c.type_inv.buffer i) in told-long _ _ (search rules)

pub returns-in-103-clause-long : goal.returns-in-103-clause-long
returns-in-103-clause-long c = let steps : Shorter 2 c.args.buffer.now = λ i. omega (arith, c.type_inv.buffer i) in told-long _ _ (search rules)

pub returns-in-104-clause-long : goal.returns-in-104-clause-long
returns-in-104-clause-long c = let steps : Shorter 2 c.args.buffer.now = λ i. omega (arith, c.type_inv.buffer i) in told-long _ _ (search rules)

pub returns-in-101-clause-long : goal.returns-in-101-clause-long
returns-in-101-clause-long c = let steps : Shorter 2 c.args.buffer.now = λ i. omega (arith, c.type_inv.buffer i) in told-long _ _ (search rules)

pub returns-in_default-clause-long : goal.returns-in_default-clause-long
returns-in_default-clause-long c = let steps : Shorter 2 c.args.buffer.now = λ i. omega (arith, c.type_inv.buffer i) in told-long _ _ (search rules)
