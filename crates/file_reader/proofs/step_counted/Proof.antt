-- Past the last record the counts say nothing; before it they are those of the records before the place. Assumes nothing.
use mathlib.Core.Path.{◌∙◌, ap₂}
use Prim.Native.Nat.{ℕ, ◌*◌}
use native.Mathlib.Omega.{arith}
use lib.ListN.{length-take}
use borrow.Author.Rules.{rules}
use Rattle.spec_file.specs.Records.{rule_kind, transition_kind, count_of}
use Rattle.spec_file.specs.Reading.{step_from, step_at}
use Rattle.spec_file.proofs.WalkLaws.{past, count-before}
use Rattle.file_reader.proofs.step_counted.Statement.{statement}
use Rattle.file_reader.proofs.step_counted.Tie as tie

returns : tie.Need-returns-then-file-place
unfolding step_at
returns c =
    let a = c.before.before.before.args in
    let f = a.file.now in
    let i = a.place in
    c.step_from.ensures ∙ past f i 0 0 (count_of f rule_kind i) (count_of f transition_kind i) c.before.if-file-place.true

slice-aggregate-before : tie.Need-slice_bounds-before-end
slice-aggregate-before c =
    let a = c.before.before.args in
    omega (arith, length-take (a.place * 8) a.file.now)

returns-2 : tie.Need-returns
unfolding step_at
returns-2 c =
    let a = c.before.before.before.before.before.args in
    let f = a.file.now in
    let i = a.place in
    c.step_from-2.ensures
    ∙ ap₂ (λ (r t : ℕ). step_from f i r t) (c.before.before.rule_count-rules.ensures ∙ count-before f rule_kind i (omega arith)) (c.before.transition_count-transitions.ensures ∙ count-before f transition_kind i (omega arith))

pub step_counted_spec : {M : Type 1} → statement M
step_counted_spec =
    tie.close
    (tie.spec
    (λ c κs. search rules) returns (λ c. search rules) slice-aggregate-before (λ c κs. search rules) (λ c κs. search rules) (λ c κs. search rules) returns-2)
