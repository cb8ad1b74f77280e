-- `search_rows::two_symbols` meets its contract: the lengths are added. Assumes nothing.
use borrow.Author.Rules.{rules}
use Rattle.spec_order.specs.Candidates.{paired}
use Rattle.search_rows.proofs.two_symbols.Statement.{statement}
use Rattle.search_rows.proofs.two_symbols.Tie as tie

returns : tie.Need-returns
unfolding paired
returns c = λ a b h k. rw (c.capped_sum.ensures, h.0, h.1, k.0, k.1)

pub two_symbols_spec : {M : Type 1} → statement M
two_symbols_spec = tie.close (tie.spec (λ c κs. search rules) returns)
