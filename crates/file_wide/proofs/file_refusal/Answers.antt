-- The refusal by the length, where it has a number, and else that of the records. Assumes nothing.
use Rattle.std.proofs.Common.{sym}
use Rattle.std.proofs.lemmas.Result.{err_from_is_err_and}
use Rattle.spec_file.specs.Refusals.{fault_in}
use Rattle.spec_file.proofs.RefusalLaws.{number-some, fault-some}
use Rattle.file_wide.proofs.file_refusal.Goals as goal

pub returns-in_err-length_refusal : goal.returns-in_err-length_refusal
unfolding fault_in
returns-in_err-length_refusal c =
    let p = err_from_is_err_and c.from_residual.result c.from_residual.ensures.1 in
    rw (sym c.in_err-length_refusal.ensures, p.1, p.2) (sym (number-some _ _ _ (fault-some c.in_err-length_refusal.field-0.0)))

pub returns : goal.returns
unfolding fault_in
returns c = rw (sym c.in_ok-length_refusal.ensures) c.records_refusal.ensures
