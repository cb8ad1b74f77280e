-- Each test is that of the definition, at the record's bytes. Assumes nothing.
use Rattle.std.proofs.Common.{refl, sym, ap, ◌∙◌, Bool, cond, List, ℕ}
use Rattle.std.proofs.lemmas.Result.{err_from_is_err_and}
use Rattle.spec_file.specs.Forms.{sixteen}
use Rattle.spec_file.specs.Refusals.{kind_known, above_range_in, stray_byte_in, on_remark, over_limit, fault_by_in}
use Rattle.spec_file.proofs.RefusalLaws.{refused_if}
use Rattle.file_wide_checks.specs.Front.{front_of}
use Rattle.file_wide.proofs.fault_by.Goals as goal

pub returns-in_err-refuse_if : goal.returns-in_err-refuse_if
unfolding fault_by_in kind_known on_remark
returns-in_err-refuse_if c =
    let e = c.record_at-r.ensures in
    let g = c.front-front.ensures ∙ ap front_of e in
    let p = err_from_is_err_and c.from_residual.result c.from_residual.ensures.1 in
    rw (sym (c.kind_known.ensures ∙ ap kind_known g), c.in_err-refuse_if.ensures.0, p.1, p.2 ∙ c.in_err-refuse_if.ensures.1) refl

pub returns-in_err-refuse_if-2 : goal.returns-in_err-refuse_if-2
unfolding fault_by_in kind_known on_remark
returns-in_err-refuse_if-2 c =
    let e = c.record_at-r.ensures in
    let g = c.front-front.ensures ∙ ap front_of e in
    let p = err_from_is_err_and c.from_residual-in_err-refuse_if-2.result c.from_residual-in_err-refuse_if-2.ensures.1 in
    rw (sym (c.kind_known.ensures ∙ ap kind_known g), c.in_ok-refuse_if.ensures, sym (c.above_range.ensures ∙ ap (above_range_in sixteen) e), c.in_err-refuse_if-2.ensures.0, p.1, p.2 ∙ c.in_err-refuse_if-2.ensures.1) refl

pub returns-in_err-refuse_if-3 : goal.returns-in_err-refuse_if-3
unfolding fault_by_in kind_known on_remark
returns-in_err-refuse_if-3 c =
    let e = c.record_at-r.ensures in
    let g = c.front-front.ensures ∙ ap front_of e in
    let p = err_from_is_err_and c.from_residual-in_err-refuse_if-3.result c.from_residual-in_err-refuse_if-3.ensures.1 in
    rw (sym (c.kind_known.ensures ∙ ap kind_known g), c.in_ok-refuse_if.ensures, sym (c.above_range.ensures ∙ ap (above_range_in sixteen) e), c.in_ok-refuse_if-2.ensures, sym (c.stray_byte.ensures ∙ ap (stray_byte_in sixteen) e), c.in_err-refuse_if-3.ensures.0, p.1, p.2 ∙ c.in_err-refuse_if-3.ensures.1) refl

pub returns-in_err-refuse_if-4 : goal.returns-in_err-refuse_if-4
unfolding fault_by_in kind_known on_remark
returns-in_err-refuse_if-4 c =
    let e = c.record_at-r.ensures in
    let g = c.front-front.ensures ∙ ap front_of e in
    let p = err_from_is_err_and c.from_residual-in_err-refuse_if-4.result c.from_residual-in_err-refuse_if-4.ensures.1 in
    rw (sym (c.kind_known.ensures ∙ ap kind_known g), c.in_ok-refuse_if.ensures, sym (c.above_range.ensures ∙ ap (above_range_in sixteen) e), c.in_ok-refuse_if-2.ensures, sym (c.stray_byte.ensures ∙ ap (stray_byte_in sixteen) e), c.in_ok-refuse_if-3.ensures, sym (c.on_remark.ensures ∙ ap on_remark g), c.in_err-refuse_if-4.ensures.0, p.1, p.2 ∙ c.in_err-refuse_if-4.ensures.1) refl

pub returns-in_err-refuse_if-5 : goal.returns-in_err-refuse_if-5
unfolding fault_by_in kind_known on_remark
returns-in_err-refuse_if-5 c =
    let e = c.record_at-r.ensures in
    let g = c.front-front.ensures ∙ ap front_of e in
    let p = err_from_is_err_and c.from_residual-in_err-refuse_if-5.result c.from_residual-in_err-refuse_if-5.ensures.1 in
    rw (sym (c.kind_known.ensures ∙ ap kind_known g), c.in_ok-refuse_if.ensures, sym (c.above_range.ensures ∙ ap (above_range_in sixteen) e), c.in_ok-refuse_if-2.ensures, sym (c.stray_byte.ensures ∙ ap (stray_byte_in sixteen) e), c.in_ok-refuse_if-3.ensures, sym (c.on_remark.ensures ∙ ap on_remark g), c.in_ok-refuse_if-4.ensures, sym c.exceeds.ensures, c.in_err-refuse_if-5.ensures.0, p.1, p.2 ∙ c.in_err-refuse_if-5.ensures.1) refl

pub returns : goal.returns
unfolding fault_by_in kind_known on_remark over_limit
returns c =
    let e = c.record_at-r.ensures in
    let g = c.front-front.ensures ∙ ap front_of e in
    rw (sym (c.kind_known.ensures ∙ ap kind_known g), c.in_ok-refuse_if.ensures, sym (c.above_range.ensures ∙ ap (above_range_in sixteen) e), c.in_ok-refuse_if-2.ensures, sym (c.stray_byte.ensures ∙ ap (stray_byte_in sixteen) e), c.in_ok-refuse_if-3.ensures, sym (c.on_remark.ensures ∙ ap on_remark g), c.in_ok-refuse_if-4.ensures, sym c.exceeds.ensures, c.in_ok-refuse_if-5.ensures)
    (refused_if c.refuse_if-6.result _ _ c.refuse_if-6.ensures
    ∙ ap (λ (b : Bool). cond b 7 0) (c.over_limit.ensures ∙ ap (λ (r : List ℕ). over_limit r c.args.rules c.args.transitions) g))
