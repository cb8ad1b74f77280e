-- The test of the first record, or the comparison with the one before. Assumes nothing.
use mathlib.Core.Path.{sym, ◌∙◌, ap₂}
use mathlib.Core.List.{List}
use Prim.Native.Nat.{ℕ, ◌-◌}
use native.Mathlib.Omega.{arith}
use borrow.Author.Rules.{rules}
use borrow.Author.Tests.{eq-eqb, ne_eqb}
use Rattle.spec_file.specs.Refusals.{rises, exceeds_in}
use Rattle.spec_file.proofs.EntryLaws.{whole}
use Rattle.file_reader.proofs.exceeds.Statement.{statement}
use Rattle.file_reader.proofs.exceeds.Tie as tie

returns : tie.Need-returns
unfolding exceeds_in
returns c =
    let a = c.before.before.before.before.before.args in
    let f = a.file.now in
    let i = a.i in
    rw (ne_eqb i 0 (omega arith))
    (c.rises.ensures ∙ ap₂ (λ (r s : List ℕ). rises r s) (c.before.before.whole_record.ensures ∙ sym (whole f (i - 1) (omega arith))) (c.before.whole_record-2.ensures ∙ sym (whole f i (omega arith))))

pub exceeds_spec : {M : Type 1} → statement M
unfolding exceeds_in
exceeds_spec =
    tie.close
    (tie.spec
    (λ c. rw (eq-eqb c.before.before.args.i 0 (omega arith))) (λ c. search rules) (λ c κs. search rules) (λ c κs. search rules) (λ c κs. search rules) returns)
