-- The nine numbers of what a host is told, stored in the details. Assumes nothing.
use mathlib.Core.Path.{ap, ◌∙◌}
use mathlib.Core.List.{[], ◌∷◌, ◌++◌}
use borrow.Author.Rules.{rules}
use Rattle.host_result.specs.Results.{numbers_in}
use Rattle.host_result.specs.declared.CheckResult.{CheckResult}
use Rattle.bolfrega.proofs.tell_rows.Statement.{statement}
use Rattle.bolfrega.proofs.tell_rows.Tie as tie

returns : tie.Need-returns
returns c =
    let e = c.before.to_unwritten-told.ensures in
    record { code = ap (λ (t : CheckResult). t.code) e; details = c.nine_of.ensures ∙ ap (λ (t : CheckResult). numbers_in t ++ (t.head ∷ [])) e }

pub tell_rows_spec : {M : Type 1} → statement M
tell_rows_spec = tie.close (tie.spec (λ c κs. search rules) (λ c κs. search rules) returns)
