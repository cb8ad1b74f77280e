-- `search_rows::empty_body` meets its contract: the fields are those of the definition. Assumes nothing.
use mathlib.Core.Path.{refl}
use Rattle.spec_order.specs.Candidates.{bare}
use Rattle.search_rows.proofs.empty_body.Statement.{statement}
use Rattle.search_rows.proofs.empty_body.Tie as tie

returns : tie.Need-returns
unfolding bare
returns c = refl

pub empty_body_spec : {M : Type 1} → statement M
empty_body_spec = tie.close (tie.spec returns)
