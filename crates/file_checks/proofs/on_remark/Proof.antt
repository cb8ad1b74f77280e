-- `on_remark` meets its contract: the body is the definition's text. Assumes nothing.
use mathlib.Core.Path.{refl}
use borrow.Author.Rules.{rules}
use Rattle.spec_file.specs.Refusals.{on_remark}
use Rattle.file_checks.proofs.on_remark.Statement.{statement}
use Rattle.file_checks.proofs.on_remark.Tie as tie

returns : tie.Need-returns
unfolding on_remark
returns c = refl

pub on_remark_spec : {M : Type 1} → statement M
on_remark_spec = tie.close (tie.spec (λ c. search rules) (λ c. search rules) returns)
