-- 18, then 10, by the counts: the list's order. Assumes nothing.
use Rattle.std.proofs.Common.{refl, sym}
use Rattle.std.proofs.lemmas.Result.{err_from_is_err_and}
use Rattle.call_unfold.proofs.refusal_for.Goals as goal

pub returns-in_err-refuse_if : goal.returns-in_err-refuse_if
returns-in_err-refuse_if c =
    let p = err_from_is_err_and c.from_residual.result c.from_residual.ensures.1 in
    rw (c.in_err-refuse_if.ensures.0, p.1, p.2, c.in_err-refuse_if.ensures.1) refl

pub returns-in_err-refuse_if-2 : goal.returns-in_err-refuse_if-2
returns-in_err-refuse_if-2 c =
    let p = err_from_is_err_and c.from_residual-in_err-refuse_if-2.result c.from_residual-in_err-refuse_if-2.ensures.1 in
    rw (c.in_ok-refuse_if.ensures, sym c.result_bytes.ensures, c.in_err-refuse_if-2.ensures.0, p.1, p.2, c.in_err-refuse_if-2.ensures.1) refl

pub returns : goal.returns
returns c = rw (c.in_ok-refuse_if.ensures, sym c.result_bytes.ensures, c.in_ok-refuse_if-2.ensures) refl
