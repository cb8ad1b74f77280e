-- `crossed` meets its contract: it hands on the columns of its rows. Assumes nothing.
use Rattle.std.proofs.Common.{ℕ, ◌/◌, ◌^◌, sym, refl, ap, ◌∙◌, div-one}
use lib.Bits.{bit_and, and_le_r}
use Rattle.relation.specs.ColumnLaws.{by_product}
use Rattle.relation.specs.Digits.{pieces}
use Rattle.relation.specs.Product.{column}
use Rattle.relation.specs.Relation.{states}
use Rattle.relation.specs.Representation.{rows_of_word, each_word}
use Rattle.relation.proofs.crossed.Statement.{statement}
use Rattle.relation.proofs.crossed.Tie as tie

crossed-by-requires : tie.Need-crossed_by-requires
unfolding column pieces
crossed-by-requires c κs =
    let x = c.args.x in
    each_word _ (and_le_r x _) (and_le_r (x / 2 ^ 1) _) (and_le_r (x / 2 ^ 2) _) (and_le_r (x / 2 ^ 3) _)

returns : tie.Need-returns
unfolding column pieces
returns c =
    let e = c.before.args in
    c.crossed_by.ensures ∙ by_product _ e.x e.y (each_word _ (ap (λ (z : ℕ). bit_and z (column states rows_of_word)) (sym (div-one e.x))) refl refl refl)

pub crossed_spec : {M : Type 1} → statement M
crossed_spec = tie.close (tie.spec crossed-by-requires returns)
