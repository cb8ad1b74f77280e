-- `block` meets its contract: its parts are those of the definition. Assumes nothing.
use Rattle.std.proofs.Common.{ℕ, ◌/◌, ◌^◌, sym, ap, ◌∙◌, ap₂, div-one, rules}
use lib.Bits.{bit_and, bit_or, or_zero_l}
use Rattle.relation.specs.Digits.{union}
use Rattle.relation.specs.Product.{spread, crossed}
use Rattle.relation.specs.Relation.{states}
use Rattle.relation.specs.Representation.{rows_of_word}
use Rattle.relation.proofs.block.Statement.{statement}
use Rattle.relation.proofs.block.Tie as tie

returns : tie.Need-returns
unfolding crossed union
returns c =
    let e = c.before.before.before.before.args in
    let first = ap (λ (z : ℕ). bit_and z e.r0) (c.before.before.before.spread.ensures ∙ ap (spread states rows_of_word) (sym (div-one e.x))) in
    ap₂ bit_or
    (ap₂ bit_or
    (ap₂ bit_or (first ∙ sym (or_zero_l (bit_and (spread states rows_of_word (e.x / 2 ^ 0)) e.r0))) (ap (λ (z : ℕ). bit_and z e.r1) c.before.before.spread-2.ensures))
    (ap (λ (z : ℕ). bit_and z e.r2) c.before.spread-3.ensures))
    (ap (λ (z : ℕ). bit_and z e.r3) c.spread-4.ensures)

pub block_spec : {M : Type 1} → statement M
block_spec = tie.close (tie.spec (λ c κs. search rules) (λ c κs. search rules) (λ c κs. search rules) (λ c κs. search rules) returns)
