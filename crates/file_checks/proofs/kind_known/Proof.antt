-- `kind_known` meets its contract: the body is the definition's text. Assumes nothing.
use mathlib.Core.Path.{refl}
use borrow.Author.Rules.{rules}
use Rattle.spec_file.specs.Refusals.{kind_known}
use Rattle.file_checks.proofs.kind_known.Statement.{statement}
use Rattle.file_checks.proofs.kind_known.Tie as tie

returns : tie.Need-returns
unfolding kind_known
returns c = refl

pub kind_known_spec : {M : Type 1} → statement M
kind_known_spec = tie.close (tie.spec (λ c. search rules) (λ c. search rules) returns)
