-- A turn makes the four cells of a state, one for each word.
use Rattle.std.proofs.Common.{ℕ, ◌+◌, ◌*◌, ◌<◌, set, sym, refl, ap, ◌∙◌, add-zero, arith, ext_get_or}
use Rattle.relation.specs.Columns.{column_of, columns_of}
use Rattle.relation.specs.ColumnLaws.{columns-length, cell-is}
use Rattle.relation.proofs.Cells.{made, column-is, grown}
use Rattle.relation.specs.Digits.{pieces}
use Rattle.relation.specs.Product.{column}
use Rattle.relation.specs.Relation.{states}
use Rattle.relation.specs.Representation.{relation_words, word}
use Rattle.relation.proofs.Relation.columns.Goals as goal

pub loop-state-preserved : goal.loop-state-preserved
unfolding column pieces
loop-state-preserved c =
    let x = c.args.self in
    let k = c.loop-state.state in
    let at = k * relation_words in
    let n : k < states = omega arith in
    let v : ℕ → ℕ = λ w. column_of k (word x w) in
    let c0 = c.loop-state.cells in
    let c1 = set c0 at (v 0) in
    let c2 = set c1 (at + 1) (v 1) in
    let c3 = set c2 (at + 2) (v 2) in
    let h1 = grown x c0 at (at + 1) (v 0) (omega arith) refl c.loop-state.invariant (column-is x k 0 (omega arith) ∙ ap (made x) (add-zero at)) in
    let h2 = grown x c1 (at + 1) (at + 2) (v 1) (omega arith) (omega arith) h1 (column-is x k 1 (omega arith)) in
    let h3 = grown x c2 (at + 2) (at + 3) (v 2) (omega arith) (omega arith) h2 (column-is x k 2 (omega arith)) in
    grown x c3 (at + 3) ((k + 1) * relation_words) (v 3) (omega arith) (omega arith) h3 (column-is x k 3 (omega arith))

pub returns : goal.returns
returns c =
    let x = c.args.self in
    let h = c.loop-state.invariant in
    ext_get_or 0 c.loop-state.cells (columns_of x) (h.0 ∙ sym (columns-length x))
    (λ p m. h.1 p (omega (arith, m, h.0)) ∙ sym (cell-is x p (omega (arith, m, h.0))))
