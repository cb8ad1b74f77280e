-- `Relation::contained_if_first` meets its contract: a first word that is not contained decides, and else all are asked. Assumes nothing.
use Rattle.std.proofs.Common.{sym, ◌∙◌, arith, rules, ne_eqb}
use Rattle.relation.specs.Words.{not_first}
use Rattle.relation.proofs.Relation.contained_if_first.Statement.{statement}
use Rattle.relation.proofs.Relation.contained_if_first.Tie as tie

returns : tie.Need-returns-then-outside-ne0
returns c =
    let o = c.before.outside in
    let e = c.before.before.args in
    sym (not_first e.self e.other (omega arith, omega arith, omega arith, omega arith) (omega arith, omega arith, omega arith, omega arith) (sym o.ensures ∙ ne_eqb o.result 0 c.if-outside-ne0.true))

pub contained_if_first_spec : {M : Type 1} → statement M
contained_if_first_spec = tie.close (tie.spec (λ c κs. search rules) returns (λ c κs. search rules) (λ c. search rules))
