-- `search_rows::new_row` meets its contract: the fields are those of the definition. Assumes nothing.
use mathlib.Core.Path.{refl}
use borrow.Author.Rules.{rules}
use Rattle.spec_order.specs.Order.{born}
use Rattle.search_rows.proofs.new_row.Statement.{statement}
use Rattle.search_rows.proofs.new_row.Tie as tie

returns : tie.Need-returns
unfolding born
returns c = refl

pub new_row_spec : {M : Type 1} → statement M
new_row_spec = tie.close (tie.spec (λ c. search rules) returns)
