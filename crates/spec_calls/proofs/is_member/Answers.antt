-- `spec_calls::is_member` meets its contract: a byte that is no nonterminal is in no set, and a nonterminal is where its digit is set.
-- Assumes nothing.
use Rattle.std.proofs.Common.{arith}
use Rattle.spec_calls.proofs.MemberLaws.{member-beyond, member-digit}
use Rattle.spec_calls.proofs.is_member.Goals as goal

pub returns-then-p-ge-NONTERMINALS : goal.returns-then-p-ge-NONTERMINALS
returns-then-p-ge-NONTERMINALS c = member-beyond c.args.set c.args.p c.if-p-ge-NONTERMINALS.true

pub returns : goal.returns
returns c = member-digit c.args.set c.args.p (omega (arith, c.if-p-ge-NONTERMINALS.false))
