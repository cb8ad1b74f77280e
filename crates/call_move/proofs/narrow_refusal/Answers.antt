-- The file's refusal, then 17 and 10: the list's order. Assumes nothing.
use Rattle.std.proofs.Common.{refl, sym}
use Rattle.std.proofs.lemmas.Result.{err_from_is_err_and}
use Rattle.spec_unfold.specs.Calls.{long_fault, output_fault}
use Rattle.call_move.specs.FrontLaws.{narrowed-length}
use Rattle.call_move.proofs.narrow_refusal.Goals as goal

pub returns-in_err-refuse_if : goal.returns-in_err-refuse_if
unfolding long_fault
returns-in_err-refuse_if c =
    let p = err_from_is_err_and c.from_residual-in_err-refuse_if.result c.from_residual-in_err-refuse_if.ensures.1 in
    rw (sym c.in_ok-file_refusal.ensures, sym c.has_long.ensures, c.in_err-refuse_if.ensures.0, p.1, p.2, c.in_err-refuse_if.ensures.1) refl

pub returns-in_err-refuse_if-2 : goal.returns-in_err-refuse_if-2
unfolding long_fault output_fault
returns-in_err-refuse_if-2 c =
    let p = err_from_is_err_and c.from_residual-in_err-refuse_if-2.result c.from_residual-in_err-refuse_if-2.ensures.1 in
    rw (sym c.in_ok-file_refusal.ensures, sym c.has_long.ensures, c.in_ok-refuse_if.ensures, narrowed-length c.args.file.now, c.in_err-refuse_if-2.ensures.0, p.1, p.2, c.in_err-refuse_if-2.ensures.1) refl

pub returns : goal.returns
unfolding long_fault output_fault
returns c = rw (sym c.in_ok-file_refusal.ensures, sym c.has_long.ensures, c.in_ok-refuse_if.ensures, narrowed-length c.args.file.now, c.in_ok-refuse_if-2.ensures) refl
