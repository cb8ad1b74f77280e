-- The test of the first record, or the comparison with the one before. Assumes nothing.
use Rattle.std.proofs.Common.{◌∙◌, ap₂, List, ℕ, eq-eqb, ne_eqb}
use Rattle.spec_file.specs.Forms.{sixteen}
use Rattle.spec_file.specs.Refusals.{rises_in, exceeds_in}
use Rattle.file_wide.proofs.exceeds.Goals as goal

pub returns-then-i-eq0 : goal.returns-then-i-eq0
unfolding exceeds_in
returns-then-i-eq0 c = rw (eq-eqb _ _ c.if-i-eq0.true)

pub returns-else-i-eq0 : goal.returns-else-i-eq0
unfolding exceeds_in
returns-else-i-eq0 c =
    rw (ne_eqb _ _ c.if-i-eq0.false)
    (c.rises.ensures ∙ ap₂ (λ (r s : List ℕ). rises_in sixteen r s) c.record_at.ensures c.record_at-else-i-eq0.ensures)
