-- The two tests of the definition, in their order. Assumes nothing.
use Rattle.std.proofs.Common.{refl, ◌∙◌}
use Rattle.std.proofs.lemmas.Result.{err_from_is_err_and}
use Rattle.spec_file.specs.Refusals.{length_fault_in}
use Rattle.spec_file.proofs.RefusalLaws.{refused_if}
use Rattle.file_wide.proofs.length_refusal.Goals as goal

pub returns-in_err-refuse_if : goal.returns-in_err-refuse_if
unfolding length_fault_in
returns-in_err-refuse_if c =
    let p = err_from_is_err_and c.from_residual.result c.from_residual.ensures.1 in
    rw (c.in_err-refuse_if.ensures.0, p.1, p.2 ∙ c.in_err-refuse_if.ensures.1) refl

pub returns : goal.returns
unfolding length_fault_in
returns c = rw (c.in_ok-refuse_if.ensures) (refused_if c.refuse_if-2.result _ _ c.refuse_if-2.ensures)
