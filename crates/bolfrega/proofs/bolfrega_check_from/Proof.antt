-- A check over rows of zeros, with its numbers and the procedure stored in the details. Assumes nothing.
use borrow.Author.Rules.{rules}
use Rattle.bolfrega.specs.ZeroRows.{from-zeros}
use Rattle.bolfrega.proofs.bolfrega_check_from.Statement.{statement}
use Rattle.bolfrega.proofs.bolfrega_check_from.Tie as tie

returns : tie.Need-returns
returns c =
    let a = c.args in
    let told = c.check_zeros-told in
    from-zeros a.file.now a.rows (record { budget = a.budget; starts = a.starts }) a.buffer.now _ told.result told.ensures c.nine_of.result c.nine_of.ensures

pub bolfrega_check_from_spec : {M : Type 1} → statement M
bolfrega_check_from_spec = tie.close (tie.spec (λ c κs. search rules) (λ c κs. search rules) (λ c. search rules) returns)
