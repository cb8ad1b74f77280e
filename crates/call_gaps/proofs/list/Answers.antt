-- The refusal, or the count of the entries that were written. Assumes nothing.
use Rattle.std.proofs.Common.{sym, ap, ◌∙◌, length}
use Rattle.std.proofs.lemmas.Result.{err_from_is_err_and}
use Rattle.spec_file.specs.Refusals.{Refusal}
use Rattle.spec_calls.specs.Replies.{answered}
use Rattle.call_gaps.specs.Sheets.{Lines}
use Rattle.call_gaps.specs.ListLaws.{passed, answered-by, lists, lists-refused}
use Rattle.call_gaps.proofs.list.Goals as goal

pub returns-in_err-refusal_for : goal.returns-in_err-refusal_for
returns-in_err-refusal_for c =
    let p = err_from_is_err_and c.from_residual.result c.from_residual.ensures.1 in
    rw (p.1, p.2) (lists-refused c.args.file.now c.args.buffer.now c.in_err-refusal_for.field-0.0 c.in_err-refusal_for.ensures)

pub fill-requires : goal.fill-requires
fill-requires c = passed c.args.file.now (length c.args.buffer.now) (sym (ap (λ (x : Refusal). x.number) c.in_ok-refusal_for.ensures))

pub returns : goal.returns
returns c =
    let f = c.args.file.now in
    let e = c.fill.ensures in
    lists f c.args.buffer.now _ _
    (ap (λ (x : Lines). answered x.count) e ∙ answered-by f (length c.args.buffer.now) (sym (ap (λ (x : Refusal). x.number) c.in_ok-refusal_for.ensures)))
    (ap (λ (x : Lines). x.bytes) e)
