-- The refusals of judging, then 13, then 14: the list's order. Assumes nothing.
use Rattle.std.proofs.Common.{refl, sym, [], ◌∷◌}
use Rattle.std.proofs.lemmas.Result.{err_from_is_err_and}
use Rattle.spec_file.specs.Refusals.{refuse}
use Rattle.spec_file.proofs.RefusalLaws.{first-append}
use Rattle.spec_calls.specs.Judging.{judge_refusals}
use Rattle.spec_calls.specs.Recognizing.{run_fault, table_fault}
use Rattle.call_member.proofs.refusal_for.Goals as goal

pub returns-in_err-refuse_if : goal.returns-in_err-refuse_if
unfolding run_fault
returns-in_err-refuse_if c =
    let p = err_from_is_err_and c.from_residual-in_err-refuse_if.result c.from_residual-in_err-refuse_if.ensures.1 in
    rw (first-append (judge_refusals c.args.file.now c.args.word.now) (refuse (run_fault c.args.word.now) 0 ∷ refuse (table_fault c.args.cells) 0 ∷ []), sym c.in_ok-refusal_for.ensures, c.in_err-refuse_if.ensures.0, p.1, p.2, c.in_err-refuse_if.ensures.1) refl

pub returns-in_err-refuse_if-2 : goal.returns-in_err-refuse_if-2
unfolding run_fault table_fault
returns-in_err-refuse_if-2 c =
    let p = err_from_is_err_and c.from_residual-in_err-refuse_if-2.result c.from_residual-in_err-refuse_if-2.ensures.1 in
    rw (first-append (judge_refusals c.args.file.now c.args.word.now) (refuse (run_fault c.args.word.now) 0 ∷ refuse (table_fault c.args.cells) 0 ∷ []), sym c.in_ok-refusal_for.ensures, c.in_ok-refuse_if.ensures, c.in_err-refuse_if-2.ensures.0, p.1, p.2, c.in_err-refuse_if-2.ensures.1) refl

pub returns : goal.returns
unfolding run_fault table_fault
returns c =
    rw (first-append (judge_refusals c.args.file.now c.args.word.now) (refuse (run_fault c.args.word.now) 0 ∷ refuse (table_fault c.args.cells) 0 ∷ []), sym c.in_ok-refusal_for.ensures, c.in_ok-refuse_if.ensures, c.in_ok-refuse_if-2.ensures) refl
