-- `over_limit` meets its contract: the body is the definition's text. Assumes nothing.
use mathlib.Core.Path.{refl}
use borrow.Author.Rules.{rules}
use Rattle.spec_file.specs.Refusals.{over_limit}
use Rattle.file_checks.proofs.over_limit.Statement.{statement}
use Rattle.file_checks.proofs.over_limit.Tie as tie

returns : tie.Need-returns
unfolding over_limit
returns c = refl

pub over_limit_spec : {M : Type 1} → statement M
over_limit_spec = tie.close (tie.spec (λ c. search rules) (λ c. search rules) returns)
