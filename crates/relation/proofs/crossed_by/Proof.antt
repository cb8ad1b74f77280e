-- `crossed_by` meets its contract: a product with a column is at most that with a full column, which has all digits of a word. Assumes
-- nothing.
use Rattle.std.proofs.Common.{◌≡◌, ℕ, ◌-◌, ◌*◌, ◌/◌, ◌^◌, ◌<◌, ◌≤◌, sym, ap, ◌∙◌, mul-le-mul, div-one, arith}
use lib.Bits.{bit_and, bit_or, or_zero_l, and_le_r}
use Rattle.relation.specs.Columns.{row_of, by_columns}
use Rattle.relation.specs.Digits.{pieces, union}
use Rattle.relation.specs.Product.{column}
use Rattle.relation.specs.Relation.{states}
use Rattle.relation.specs.Representation.{word_digits, rows_of_word, of_words, word}
use Rattle.relation.proofs.crossed_by.Statement.{statement}
use Rattle.relation.proofs.crossed_by.Tie as tie

times-lt : (c z : ℕ) → c ≤ column states rows_of_word → c * bit_and z (2 ^ states - 1) < 2 ^ word_digits
unfolding column pieces
times-lt c z h = let l : c * bit_and z (2 ^ states - 1) ≤ 281479271743489 * 65535 = mul-le-mul h (and_le_r z 65535) in omega arith

mul-first : tie.Need-overflow_mul-first
mul-first c = record { fits = times-lt c.args.c0 c.args.y (c.requires 0 (omega arith)) }

mul-second : tie.Need-overflow_mul-second
mul-second c = record { fits = times-lt c.args.c1 (c.args.y / 2 ^ 16) (c.requires 1 (omega arith)) }

mul-third : tie.Need-overflow_mul-third
mul-third c = record { fits = times-lt c.args.c2 (c.args.y / 2 ^ 32) (c.requires 2 (omega arith)) }

mul-fourth : tie.Need-overflow_mul-fourth
mul-fourth c = record { fits = times-lt c.args.c3 (c.args.y / 2 ^ 48) (c.requires 3 (omega arith)) }

returns : tie.Need-returns
unfolding by_columns union
returns c =
    let e = c.args in
    let t : ℕ → ℕ = λ m. word (of_words e.c0 e.c1 e.c2 e.c3) m * row_of m e.y in
    let first : e.c0 * bit_and e.y (2 ^ states - 1) ≡ bit_or 0 (t 0) = ap (λ (z : ℕ). e.c0 * bit_and z (2 ^ states - 1)) (sym (div-one e.y)) ∙ sym (or_zero_l (t 0)) in
    ap (λ (z : ℕ). bit_or (bit_or (bit_or z (t 1)) (t 2)) (t 3)) first

pub crossed_by_spec : {M : Type 1} → statement M
crossed_by_spec = tie.close (tie.spec mul-first mul-second mul-third mul-fourth returns)
