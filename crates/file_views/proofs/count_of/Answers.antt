-- Of none of the records the count is 0, and each record counts by its kind. Assumes nothing.
use Rattle.std.proofs.Common.{refl, ap, ℕ, ◌+◌, ◌∙◌, arith}
use Rattle.spec_file.specs.Records.{count_in}
use Rattle.spec_file.proofs.WalkLaws.{count_yes, count_no}
use Rattle.file_views.proofs.count_of.Goals as goal
use Rattle.file_views.proofs.count_of.Goals.{then-file-i, else-file-i}

pub loop-i-init : goal.loop-i-init
unfolding count_in
loop-i-init c = (omega arith, refl)

pub loop-i-preserved : goal.loop-i-preserved
loop-i-preserved c =
    let a = c.args in
    let l = c.loop-i in
    elim c.if-file-i.branch [
      | then-file-i w ↦ (omega arith, w.count-is ∙ ap (λ (m : ℕ). m + 1) l.invariant.1 ∙ count_yes a.file.now a.kind l.i w.if-file-i.true)
      | else-file-i w ↦ (omega arith, w.count-is ∙ l.invariant.1 ∙ count_no a.file.now a.kind l.i w.if-file-i.false)
    ]
