-- The file's refusal, then 15: the list's order. Assumes nothing.
use Rattle.std.proofs.Common.{refl, sym}
use Rattle.std.proofs.lemmas.Result.{err_from_is_err_and}
use Rattle.spec_file.proofs.RefusalLaws.{refused-first}
use Rattle.spec_calls.specs.Listing.{list_fault}
use Rattle.call_gaps.proofs.refusal_for.Goals as goal

pub returns-in_err-file_refusal : goal.returns-in_err-file_refusal
returns-in_err-file_refusal c =
    let p = err_from_is_err_and c.from_residual.result c.from_residual.ensures.1 in
    rw (sym c.in_err-file_refusal.ensures, p.1, p.2) (sym (refused-first _ _))

pub returns-in_err-refuse_if : goal.returns-in_err-refuse_if
unfolding list_fault
returns-in_err-refuse_if c =
    let p = err_from_is_err_and c.from_residual-in_err-refuse_if.result c.from_residual-in_err-refuse_if.ensures.1 in
    rw (sym c.in_ok-file_refusal.ensures, c.in_err-refuse_if.ensures.0, p.1, p.2, c.in_err-refuse_if.ensures.1) refl

pub returns : goal.returns
unfolding list_fault
returns c = rw (sym c.in_ok-file_refusal.ensures, c.in_ok-refuse_if.ensures) refl
