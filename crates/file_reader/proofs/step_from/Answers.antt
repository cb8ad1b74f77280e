-- The tests in the definition's order. Assumes nothing.
use Rattle.std.proofs.Common.{arith, refl, sym, ap, ◌∙◌, le-leb, ◌+◌}
use Rattle.std.proofs.lemmas.Bool.{lt-leb}
use Rattle.std.proofs.lemmas.Result.{err_from_is_err_and}
use Rattle.spec_file.specs.Records.{Record, record_of}
use Rattle.spec_file.specs.Refusals.{length_fault_in}
use Rattle.spec_file.specs.Reading.{gives, step_from}
use Rattle.spec_file.proofs.EntryLaws.{whole}
use Rattle.spec_file.proofs.RefusalLaws.{fault-some}
use Rattle.spec_file.proofs.WalkLaws.{refuse-by}
use Rattle.file_reader.proofs.step_from.Goals as goal

pub returns-in_err-refuse_if : goal.returns-in_err-refuse_if
unfolding step_from length_fault_in
returns-in_err-refuse_if c =
    let p = err_from_is_err_and c.from_residual.result c.from_residual.ensures.1 in
    rw (c.in_err-refuse_if.ensures.0, p.1, p.2, c.in_err-refuse_if.ensures.1) refl

pub returns-in_err-refuse_if-2 : goal.returns-in_err-refuse_if-2
unfolding step_from length_fault_in
returns-in_err-refuse_if-2 c =
    let p = err_from_is_err_and c.from_residual-in_err-refuse_if-2.result c.from_residual-in_err-refuse_if-2.ensures.1 in
    rw (c.in_ok-refuse_if.ensures, c.in_err-refuse_if-2.ensures.0, p.1, p.2, c.in_err-refuse_if-2.ensures.1) refl

pub returns-then-records-place : goal.returns-then-records-place
unfolding step_from length_fault_in
returns-then-records-place c =
    rw (c.in_ok-refuse_if.ensures, c.in_ok-refuse_if-2.ensures, le-leb _ _ c.if-records-place.true) refl

pub returns-in_err-of_record : goal.returns-in_err-of_record
unfolding step_from length_fault_in
returns-in_err-of_record c =
    let p = err_from_is_err_and c.from_residual-in_err-of_record.result c.from_residual-in_err-of_record.ensures.1 in
    let e = c.in_err-of_record.ensures in
    rw (c.in_ok-refuse_if.ensures, c.in_ok-refuse_if-2.ensures, lt-leb _ _ c.if-records-place.false, p.1, p.2, e.1)
    (refuse-by _ _ _ _ (fault-some c.in_err-of_record.field-0.0.fault) (e.0 ∙ c.fault_by.ensures))

pub returns : goal.returns
unfolding step_from length_fault_in
returns c =
    let w = c.whole_record.ensures ∙ sym (whole c.args.file.now c.args.place (omega arith)) in
    rw (c.in_ok-refuse_if.ensures, c.in_ok-refuse_if-2.ensures, lt-leb _ _ c.if-records-place.false, sym c.fault_by.ensures ∙ c.in_ok-of_record.ensures)
    (ap (λ (r : Record). gives r (c.args.place + 1)) (c.record_of-record.ensures ∙ ap record_of w))
