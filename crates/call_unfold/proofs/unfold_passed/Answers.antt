-- The refusal by the counts, or the length of the result that was written. Assumes nothing.
use Rattle.std.proofs.Common.{sym, ap, ◌∙◌, List, ℕ, length}
use Rattle.std.proofs.lemmas.Result.{err_from_is_err_and}
use Rattle.spec_file.specs.Refusals.{Refusal}
use Rattle.spec_unfold.specs.Unfolding.{unfolded_file}
use Rattle.spec_unfold.specs.Calls.{unfold_refusals}
use Rattle.call_move.specs.Fronts.{over}
use Rattle.call_move.specs.ReplyLaws.{replied-refused, replied-done}
use Rattle.call_unfold.specs.CallLaws.{counts-bounded, refusals-are, bytes-are, result_fits, result-is, unfolds}
use Rattle.call_unfold.proofs.unfold_passed.Goals as goal

pub refusal_for-requires : goal.refusal_for-requires
refusal_for-requires c =
    let e = c.count_file-t.ensures in
    counts-bounded c.args.least c.args.file.now c.count_file-t.result e.0 c.requires.0 c.requires.1 e.1 e.2

pub returns-in_err-refusal_for : goal.returns-in_err-refusal_for
returns-in_err-refusal_for c =
    let p = err_from_is_err_and c.from_residual.result c.from_residual.ensures.1 in
    let least = c.args.least in
    let file = c.args.file.now in
    let old = c.args.out.now in
    rw (p.1, p.2)
    (unfolds least file old old _
    (replied-refused (unfold_refusals least file (length old)) (unfolded_file least file) old c.in_err-refusal_for.field-0.0
    (c.in_err-refusal_for.ensures ∙ refusals-are least file c.count_file-t.result c.count_file-t.ensures.0 c.requires.0 (length old))))

pub put_unfolded-requires : goal.put_unfolded-requires
put_unfolded-requires c =
    let least = c.args.least in
    let file = c.args.file.now in
    let room = length c.args.out.now in
    let e = c.count_file-t.ensures.0 in
    let none = c.in_ok-refusal_for.ensures ∙ refusals-are least file c.count_file-t.result e c.requires.0 room in
    result_fits least file room (sym (ap (λ (r : Refusal). r.number) none)) c.count_file-t.result e

pub result_bytes-requires : goal.result_bytes-requires
result_bytes-requires c =
    let e = c.count_file-t.ensures in
    counts-bounded c.args.least c.args.file.now c.count_file-t.result e.0 c.requires.0 c.requires.1 e.1 e.2

pub returns : goal.returns
returns c =
    let least = c.args.least in
    let file = c.args.file.now in
    let old = c.args.out.now in
    let t = c.count_file-t.result in
    let e = c.count_file-t.ensures.0 in
    let none = c.in_ok-refusal_for.ensures ∙ refusals-are least file t e c.requires.0 (length old) in
    let z = sym (ap (λ (r : Refusal). r.number) none) in
    unfolds least file old _ _
    (replied-done (unfold_refusals least file (length old)) (unfolded_file least file) old _ _ z (c.result_bytes.ensures ∙ bytes-are least file t e)
    (c.put_unfolded.ensures ∙ ap (λ (x : List ℕ). over x old) (result-is least file (length old) z t e)))
