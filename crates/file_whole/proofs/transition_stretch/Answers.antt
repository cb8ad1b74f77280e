-- Where the file is not refused, the part from the first transition to the first final state: it lies within the file. Assumes nothing.
use Rattle.std.proofs.Common.{◌∙◌, ap, ap₂, sym, ℕ, ◌*◌, arith, eq-eqb, ne_eqb}
use Rattle.std.proofs.Math.Nat.{add-sub_cancel_left}
use Rattle.std.specs.Prelude.{take, drop}
use Rattle.spec_file.specs.Records.{record_count}
use Rattle.spec_file.specs.Refusals.{Refusal, fault}
use Rattle.spec_file.specs.Reading.{stretch}
use Rattle.spec_file.proofs.RefusalLaws.{refuses-some, passes-none}
use Rattle.spec_file.proofs.Sorted.{counts-le}
use Rattle.file_whole.proofs.transition_stretch.Goals as goal

pub returns-then-is_err : goal.returns-then-is_err
unfolding stretch
returns-then-is_err c =
    rw
    (ne_eqb (fault c.args.file.now).number 0
    (λ e. refuses-some c.file_refusal.result (sym c.if-is_err.ensures.value) (ap (λ (r : Refusal). r.number) c.file_refusal.ensures ∙ e)))

pub overflow_mul-first : goal.overflow_mul-first
overflow_mul-first c = omega (arith, counts-le c.args.file.now (record_count c.args.file.now), c.rule_count-first.ensures, c.well_formed.0.0)

pub overflow_mul-end : goal.overflow_mul-end
overflow_mul-end c = omega (arith, counts-le c.args.file.now (record_count c.args.file.now), c.transition_count.ensures, c.well_formed.0.0)

pub overflow_add-end : goal.overflow_add-end
overflow_add-end c = omega (arith, counts-le c.args.file.now (record_count c.args.file.now), c.rule_count-first.ensures, c.transition_count.ensures, c.well_formed.0.0)

pub slice_bounds-result-end-2 : goal.slice_bounds-result-end-2
slice_bounds-result-end-2 c = omega (arith, counts-le c.args.file.now (record_count c.args.file.now), c.rule_count-first.ensures, c.transition_count.ensures)

pub returns : goal.returns
unfolding stretch
returns c =
    let f = c.args.file.now in
    rw (eq-eqb (fault f).number 0 (sym (ap (λ (r : Refusal). r.number) c.file_refusal.ensures) ∙ passes-none c.file_refusal.result (sym c.if-is_err.ensures.value)))
    (ap (λ (k : ℕ). take k (drop (c.rule_count-first.result * 8) f)) (add-sub_cancel_left (c.rule_count-first.result * 8) (c.transition_count.result * 8))
    ∙ ap₂ (λ (a b : ℕ). take (b * 8) (drop (a * 8) f)) c.rule_count-first.ensures c.transition_count.ensures)
