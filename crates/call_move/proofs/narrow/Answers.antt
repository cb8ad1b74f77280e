-- The refusal, or the length of the result that was written. Assumes nothing.
use Rattle.std.proofs.Common.{sym, ap, length}
use Rattle.std.proofs.lemmas.Result.{err_from_is_err_and}
use Rattle.spec_file.specs.Refusals.{Refusal}
use Rattle.spec_unfold.specs.Moving.{narrowed}
use Rattle.spec_unfold.specs.Calls.{narrow_refusals}
use Rattle.call_move.specs.CallLaws.{narrow-passed, narrows}
use Rattle.call_move.specs.FrontLaws.{narrowed-length}
use Rattle.call_move.specs.ReplyLaws.{replied-refused, replied-done}
use Rattle.call_move.proofs.narrow.Goals as goal

pub returns-in_err-narrow_refusal : goal.returns-in_err-narrow_refusal
returns-in_err-narrow_refusal c =
    let p = err_from_is_err_and c.from_residual.result c.from_residual.ensures.1 in
    let f = c.args.file.now in
    let o = c.args.out.now in
    rw (p.1, p.2) (narrows f o _ _ (replied-refused (narrow_refusals f (length o)) (narrowed f) o c.in_err-narrow_refusal.field-0.0 c.in_err-narrow_refusal.ensures))

pub put_narrower-requires : goal.put_narrower-requires
put_narrower-requires c = narrow-passed c.args.file.now (length c.args.out.now) (sym (ap (λ (x : Refusal). x.number) c.in_ok-narrow_refusal.ensures))

pub returns : goal.returns
returns c =
    let f = c.args.file.now in
    let o = c.args.out.now in
    narrows f o _ _
    (replied-done (narrow_refusals f (length o)) (narrowed f) o _ _ (sym (ap (λ (x : Refusal). x.number) c.in_ok-narrow_refusal.ensures)) (sym (narrowed-length f)) c.put_narrower.ensures)
