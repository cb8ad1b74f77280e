-- `host_check::check_and_write` over rows of zeros. Assumes nothing.
use borrow.Author.Rules.{rules}
use Rattle.bolfrega.specs.ZeroRows.{alone_at}
use Rattle.bolfrega.proofs.check_zeros.Statement.{statement}
use Rattle.bolfrega.proofs.check_zeros.Tie as tie

returns : tie.Need-returns
returns c = alone_at c.before.before.before.before.blank.ensures c.before.before.check_and_write.ensures

pub check_zeros_spec : {M : Type 1} → statement M
check_zeros_spec = tie.close (tie.spec (λ c κs. search rules) (λ c κs. search rules) (λ c. search rules) returns)
