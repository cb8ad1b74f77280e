-- Terminals are in no set, and a nonterminal is where its digit is set. Assumes nothing.
use borrow.Author.Rules.{rules}
use Rattle.member_laws.specs.ByteLaws.{among-terminal, among-digit, among-beyond}
use Rattle.member_sets.proofs.among.Statement.{statement}
use Rattle.member_sets.proofs.among.Tie as tie

returns : tie.Need-returns-then-symbol-lt-TERMINALS
returns c = among-terminal c.before.args.set c.before.args.symbol c.if-symbol-lt-TERMINALS.true

returns-2 : tie.Need-returns-then-symbol-ge-SYMBOL_BYTES
returns-2 c = let s = c.before.before in among-beyond s.args.set s.args.symbol s.ranges.set.fits c.if-symbol-ge-SYMBOL_BYTES.true

returns-3 : tie.Need-returns
returns-3 c = let s = c.before.before in among-digit s.args.set s.args.symbol c.before.if-symbol-lt-TERMINALS.false

pub among_spec : {M : Type 1} → statement M
among_spec = tie.close (tie.spec returns returns-2 (λ c. search rules) (λ c. search rules) (λ c. search rules) returns-3)
