-- The file's refusal, then 10: the list's order. Assumes nothing.
use Rattle.std.proofs.Common.{refl, sym}
use Rattle.std.proofs.lemmas.Result.{err_from_is_err_and}
use Rattle.spec_unfold.specs.Calls.{output_fault}
use Rattle.call_move.specs.FrontLaws.{widened-length}
use Rattle.call_move.proofs.widen_refusal.Goals as goal

pub returns-in_err-refuse_if : goal.returns-in_err-refuse_if
unfolding output_fault
returns-in_err-refuse_if c =
    let p = err_from_is_err_and c.from_residual-in_err-refuse_if.result c.from_residual-in_err-refuse_if.ensures.1 in
    rw (sym c.in_ok-file_refusal.ensures, widened-length c.args.file.now, c.in_err-refuse_if.ensures.0, p.1, p.2, c.in_err-refuse_if.ensures.1) refl

pub returns : goal.returns
unfolding output_fault
returns c = rw (sym c.in_ok-file_refusal.ensures, widened-length c.args.file.now, c.in_ok-refuse_if.ensures) refl
