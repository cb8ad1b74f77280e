-- `search_rows::one_symbol` meets its contract: the fields are those of the definition. Assumes nothing.
use Rattle.spec_order.specs.Candidates.{sole}
use Rattle.search_rows.proofs.one_symbol.Statement.{statement}
use Rattle.search_rows.proofs.one_symbol.Tie as tie

returns : tie.Need-returns
unfolding sole
returns c = λ a h. rw (h.0, h.1)

pub one_symbol_spec : {M : Type 1} → statement M
one_symbol_spec = tie.close (tie.spec returns)
