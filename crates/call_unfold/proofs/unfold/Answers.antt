-- The file's refusal, or what follows it; the least number is the set's. Assumes nothing.
use Rattle.std.proofs.Common.{sym, ap, ◌∙◌, length}
use Rattle.std.proofs.lemmas.Result.{err_from_is_err_and}
use Rattle.spec_file.specs.Refusals.{Refusal}
use Rattle.spec_file.proofs.RefusalLaws.{fault-some}
use Rattle.spec_unfold.specs.Unfolding.{unfolded_file, least_for}
use Rattle.spec_unfold.specs.Calls.{unfold_refusals}
use Rattle.call_move.specs.ReplyLaws.{replied-refused}
use Rattle.call_unfold.specs.CallLaws.{unfolds, unfolds-at, file-refuses}
use Rattle.call_unfold.proofs.unfold.Goals as goal

pub returns-in_err-file_refusal : goal.returns-in_err-file_refusal
returns-in_err-file_refusal c =
    let p = err_from_is_err_and c.from_residual.result c.from_residual.ensures.1 in
    let least = least_for c.args.starts in
    let file = c.args.file.now in
    let old = c.args.out.now in
    let x = c.in_err-file_refusal.field-0.0 in
    let e = c.in_err-file_refusal.ensures in
    rw (p.1, p.2)
    (unfolds least file old old _
    (replied-refused (unfold_refusals least file (length old)) (unfolded_file least file) old x
    (e ∙ file-refuses least file (length old) (λ z. fault-some x.fault (ap (λ (r : Refusal). r.number) e ∙ z)))))

pub unfold_passed-requires : goal.unfold_passed-requires
unfold_passed-requires c = (sym (ap (λ (r : Refusal). r.number) c.in_ok-file_refusal.ensures), c.least_for-least.ensures.1)

pub returns : goal.returns
returns c = unfolds-at c.least_for-least.ensures.0 c.unfold_passed.ensures
