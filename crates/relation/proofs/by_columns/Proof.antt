-- `by_columns` meets its contract: it hands on four cells. Assumes nothing.
use Rattle.std.proofs.Common.{sym, refl, ap, ◌∙◌, add-zero, arith, rules}
use Rattle.relation.specs.Columns.{cell}
use Rattle.relation.specs.ColumnLaws.{by-same}
use Rattle.relation.specs.Representation.{each_word}
use Rattle.relation.proofs.by_columns.Statement.{statement}
use Rattle.relation.proofs.by_columns.Tie as tie

crossed-by-requires : tie.Need-crossed_by-requires
crossed-by-requires c κs =
    let s = c.before.before.before.before in
    let l = s.requires.0 in
    each_word _ (s.requires.1 _ (omega arith)) (s.requires.1 _ (omega arith)) (s.requires.1 _ (omega arith)) (s.requires.1 _ (omega arith))

returns : tie.Need-returns
returns c =
    let e = c.before.before.before.before.before.args in
    c.crossed_by.ensures ∙ by-same _ _ e.y (each_word _ (ap (cell e.columns.now) (sym (add-zero e.at))) refl refl refl)

pub by_columns_spec : {M : Type 1} → statement M
by_columns_spec =
    tie.close
    (tie.spec
    (λ c. search rules)
    (λ c. search rules)
    (λ c. search rules)
    (λ c. search rules)
    (λ c. search rules)
    (λ c. search rules)
    (λ c. search rules)
    (λ c. search rules)
    (λ c. search rules)
    (λ c. search rules)
    (λ c. search rules)
    crossed-by-requires
    returns)
