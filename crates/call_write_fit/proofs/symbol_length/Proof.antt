-- The length of a symbol, by its test. Assumes nothing.
use borrow.Author.Tests.{lt-ltb, le-ltb}
use Rattle.call_write_fit.specs.ByValue.{length_by}
use Rattle.call_write_fit.proofs.symbol_length.Statement.{statement}
use Rattle.call_write_fit.proofs.symbol_length.Tie as tie

pub symbol_length_spec : {M : Type 1} → statement M
unfolding length_by
symbol_length_spec = tie.close (tie.spec (λ c. simp (lt-ltb _ _ c.if-symbol-lt-TERMINALS.true)) (λ c. simp (le-ltb _ _ c.if-symbol-lt-TERMINALS.false)))
