-- Each test is that of the definition, at the record's bytes. Assumes nothing.
use Rattle.std.proofs.Common.{arith, refl, sym, ap, ◌∙◌, Bool, cond}
use Rattle.std.proofs.lemmas.Result.{err_from_is_err_and}
use Rattle.spec_file.specs.Refusals.{fault_by_in}
use Rattle.spec_file.proofs.EntryLaws.{whole}
use Rattle.spec_file.proofs.RefusalLaws.{refused_if}
use Rattle.file_reader.proofs.fault_by.Goals as goal

pub returns-in_err-refuse_if : goal.returns-in_err-refuse_if
unfolding fault_by_in
returns-in_err-refuse_if c =
    let e = c.whole_record-r.ensures ∙ sym (whole c.args.file.now c.args.i (omega arith)) in
    let p = err_from_is_err_and c.from_residual.result c.from_residual.ensures.1 in
    rw (sym e, sym c.kind_known.ensures, c.in_err-refuse_if.ensures.0, p.1, p.2 ∙ c.in_err-refuse_if.ensures.1) refl

pub returns-in_err-refuse_if-2 : goal.returns-in_err-refuse_if-2
unfolding fault_by_in
returns-in_err-refuse_if-2 c =
    let e = c.whole_record-r.ensures ∙ sym (whole c.args.file.now c.args.i (omega arith)) in
    let p = err_from_is_err_and c.from_residual-in_err-refuse_if-2.result c.from_residual-in_err-refuse_if-2.ensures.1 in
    rw (sym e, sym c.kind_known.ensures, c.in_ok-refuse_if.ensures, sym c.above_range.ensures, c.in_err-refuse_if-2.ensures.0, p.1, p.2 ∙ c.in_err-refuse_if-2.ensures.1) refl

pub returns-in_err-refuse_if-3 : goal.returns-in_err-refuse_if-3
unfolding fault_by_in
returns-in_err-refuse_if-3 c =
    let e = c.whole_record-r.ensures ∙ sym (whole c.args.file.now c.args.i (omega arith)) in
    let p = err_from_is_err_and c.from_residual-in_err-refuse_if-3.result c.from_residual-in_err-refuse_if-3.ensures.1 in
    rw (sym e, sym c.kind_known.ensures, c.in_ok-refuse_if.ensures, sym c.above_range.ensures, c.in_ok-refuse_if-2.ensures, sym c.stray_byte.ensures, c.in_err-refuse_if-3.ensures.0, p.1, p.2 ∙ c.in_err-refuse_if-3.ensures.1) refl

pub returns-in_err-refuse_if-4 : goal.returns-in_err-refuse_if-4
unfolding fault_by_in
returns-in_err-refuse_if-4 c =
    let e = c.whole_record-r.ensures ∙ sym (whole c.args.file.now c.args.i (omega arith)) in
    let p = err_from_is_err_and c.from_residual-in_err-refuse_if-4.result c.from_residual-in_err-refuse_if-4.ensures.1 in
    rw (sym e, sym c.kind_known.ensures, c.in_ok-refuse_if.ensures, sym c.above_range.ensures, c.in_ok-refuse_if-2.ensures, sym c.stray_byte.ensures, c.in_ok-refuse_if-3.ensures, sym c.on_remark.ensures, c.in_err-refuse_if-4.ensures.0, p.1, p.2 ∙ c.in_err-refuse_if-4.ensures.1) refl

pub returns-in_err-refuse_if-5 : goal.returns-in_err-refuse_if-5
unfolding fault_by_in
returns-in_err-refuse_if-5 c =
    let e = c.whole_record-r.ensures ∙ sym (whole c.args.file.now c.args.i (omega arith)) in
    let p = err_from_is_err_and c.from_residual-in_err-refuse_if-5.result c.from_residual-in_err-refuse_if-5.ensures.1 in
    rw (sym e, sym c.kind_known.ensures, c.in_ok-refuse_if.ensures, sym c.above_range.ensures, c.in_ok-refuse_if-2.ensures, sym c.stray_byte.ensures, c.in_ok-refuse_if-3.ensures, sym c.on_remark.ensures, c.in_ok-refuse_if-4.ensures, sym c.exceeds.ensures, c.in_err-refuse_if-5.ensures.0, p.1, p.2 ∙ c.in_err-refuse_if-5.ensures.1) refl

pub returns : goal.returns
unfolding fault_by_in
returns c =
    let e = c.whole_record-r.ensures ∙ sym (whole c.args.file.now c.args.i (omega arith)) in
    rw (sym e, sym c.kind_known.ensures, c.in_ok-refuse_if.ensures, sym c.above_range.ensures, c.in_ok-refuse_if-2.ensures, sym c.stray_byte.ensures, c.in_ok-refuse_if-3.ensures, sym c.on_remark.ensures, c.in_ok-refuse_if-4.ensures, sym c.exceeds.ensures, c.in_ok-refuse_if-5.ensures) (refused_if c.refuse_if-6.result _ _ c.refuse_if-6.ensures ∙ ap (λ (b : Bool). cond b 7 0) c.over_limit.ensures)
