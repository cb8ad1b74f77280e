-- The refusal, or the length of the result that was written. Assumes nothing.
use Rattle.std.proofs.Common.{sym, ap, length}
use Rattle.std.proofs.lemmas.Result.{err_from_is_err_and}
use Rattle.spec_file.specs.Refusals.{Refusal}
use Rattle.spec_unfold.specs.Moving.{widened}
use Rattle.spec_unfold.specs.Calls.{widen_refusals}
use Rattle.call_move.specs.CallLaws.{widen-passed, widens}
use Rattle.call_move.specs.FrontLaws.{widened-length}
use Rattle.call_move.specs.ReplyLaws.{replied-refused, replied-done}
use Rattle.call_move.proofs.widen.Goals as goal

pub returns-in_err-widen_refusal : goal.returns-in_err-widen_refusal
returns-in_err-widen_refusal c =
    let p = err_from_is_err_and c.from_residual.result c.from_residual.ensures.1 in
    let f = c.args.file.now in
    let o = c.args.out.now in
    rw (p.1, p.2) (widens f o _ _ (replied-refused (widen_refusals f (length o)) (widened f) o c.in_err-widen_refusal.field-0.0 c.in_err-widen_refusal.ensures))

pub put_wider-requires : goal.put_wider-requires
put_wider-requires c = widen-passed c.args.file.now (length c.args.out.now) (sym (ap (λ (x : Refusal). x.number) c.in_ok-widen_refusal.ensures))

pub returns : goal.returns
returns c =
    let f = c.args.file.now in
    let o = c.args.out.now in
    widens f o _ _
    (replied-done (widen_refusals f (length o)) (widened f) o _ _ (sym (ap (λ (x : Refusal). x.number) c.in_ok-widen_refusal.ensures)) (sym (widened-length f)) c.put_wider.ensures)
