-- A check over rows of zeros, with its numbers stored in the details. Assumes nothing.
use borrow.Author.Rules.{rules}
use Rattle.spec_calls.specs.Base.{initial_alone}
use Rattle.bolfrega.specs.ZeroRows.{over_zeros}
use Rattle.bolfrega.proofs.bolfrega_check.Statement.{statement}
use Rattle.bolfrega.proofs.bolfrega_check.Tie as tie

returns : tie.Need-returns
returns c =
    let a = c.args in
    let told = c.check_zeros-told in
    over_zeros a.file.now a.rows (record { budget = a.budget; starts = initial_alone }) a.buffer.now _ told.result told.ensures c.details_of.result c.details_of.ensures

pub bolfrega_check_spec : {M : Type 1} → statement M
bolfrega_check_spec = tie.close (tie.spec (λ c κs. search rules) (λ c κs. search rules) (λ c. search rules) returns)
