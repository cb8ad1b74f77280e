-- One answer after the other, as the definition has them. Assumes nothing.
use Rattle.std.proofs.Common.{sym, ap, ◌∙◌, Bool}
use Rattle.std.proofs.lemmas.Result.{err_from_is_err_and}
use Rattle.spec_file.specs.Refusals.{Refusal}
use Rattle.spec_file.proofs.RefusalLaws.{fault-some}
use Rattle.spec_calls.specs.Replies.{refused, answered}
use Rattle.spec_calls.specs.Judging.{judgement_by}
use Rattle.call_judge.specs.Judgements.{judged, judge-refused, word-judged, judged-alone}
use Rattle.call_judge.proofs.judge.Goals as goal

pub returns-in_err-refusal_for : goal.returns-in_err-refusal_for
returns-in_err-refusal_for c =
    let p = err_from_is_err_and c.from_residual.result c.from_residual.ensures.1 in
    let e = c.in_err-refusal_for.ensures in
    judged _ _ _
    (rw (p.1, p.2) (ap refused e ∙ judge-refused _ _ (λ z. fault-some c.in_err-refusal_for.field-0.0.fault (ap (λ (x : Refusal). x.number) e ∙ z))))

pub turns_away-requires : goal.turns_away-requires
turns_away-requires c = judged-alone _ _ (sym (ap (λ (x : Refusal). x.number) c.in_ok-refusal_for.ensures))

pub returns-then-turns_away : goal.returns-then-turns_away
returns-then-turns_away c =
    judged _ _ _
    (ap (λ (b : Bool). answered (judgement_by b)) (sym c.if-turns_away.true ∙ c.turns_away.ensures)
    ∙ word-judged _ _ (sym (ap (λ (x : Refusal). x.number) c.in_ok-refusal_for.ensures)))

pub returns : goal.returns
returns c =
    judged _ _ _
    (ap (λ (b : Bool). answered (judgement_by b)) (sym c.if-turns_away.false ∙ c.turns_away.ensures)
    ∙ word-judged _ _ (sym (ap (λ (x : Refusal). x.number) c.in_ok-refusal_for.ensures)))
