-- `by_two` meets its contract: the columns of the states 0 to 3, and of 4 to 7. Assumes nothing.
use Rattle.std.proofs.Common.{ℕ, sym, ap, ◌∙◌, ap₂, add-zero, rules}
use lib.Bits.{bit_or, or_zero_l}
use Rattle.relation.specs.Columns.{by_columns, cells_from, word_by}
use Rattle.relation.specs.Digits.{union}
use Rattle.relation.proofs.by_two.Statement.{statement}
use Rattle.relation.proofs.by_two.Tie as tie

returns : tie.Need-returns
unfolding word_by union
returns c =
    let e = c.before.before.args in
    ap₂ bit_or
    (c.before.by_columns.ensures
    ∙ ap (λ (p : ℕ). by_columns (cells_from e.columns.now p) e.next.w0) (sym (add-zero e.w))
    ∙ sym (or_zero_l _))
    c.by_columns-2.ensures

pub by_two_spec : {M : Type 1} → statement M
by_two_spec = tie.close (tie.spec (λ c κs. search rules) (λ c. search rules) (λ c κs. search rules) returns)
