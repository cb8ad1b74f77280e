-- `Relation::key` meets its contract: its words are the pieces of its value, and the moved half loses nothing. Assumes nothing.
use Rattle.std.proofs.Common.{◌≡◌, ℕ, ◌*◌, ◌%◌, ◌^◌, ◌<◌, sym, ap, ◌∙◌, ap₂, mod-eq_of_lt, arith}
use lib.Bits.{bit_and, bit_or, and_le_r}
use Rattle.relation.specs.Digits.{pieces, piece}
use Rattle.relation.specs.Relation.{lower_halves, key_of}
use Rattle.relation.specs.Representation.{word_digits, relation_words, word, value}
use Rattle.relation.specs.StoredLaws.{piece-of-value}
use Rattle.relation.proofs.Relation.key.Statement.{statement}
use Rattle.relation.proofs.Relation.key.Tie as tie

fits : (x : ℕ) → bit_and x 71777214294589695 * 2 ^ 8 % 2 ^ 64 ≡ bit_and x 71777214294589695 * 2 ^ 8
fits x = mod-eq_of_lt (omega (arith, and_le_r x 71777214294589695))

returns : tie.Need-returns
unfolding key_of lower_halves pieces
returns c =
    let r = c.before.before.args.self in
    let is : (k : ℕ) → k < relation_words → word r k ≡ piece word_digits (value r) k = λ k l. sym (piece-of-value r (omega arith, omega arith, omega arith, omega arith) k l) in
    ap₂ bit_or
    (ap (λ (z : ℕ). bit_and z 71777214294589695) (is 0 (omega arith)))
    (fits r.w1 ∙ ap (λ (z : ℕ). bit_and z 71777214294589695 * 2 ^ 8) (is 1 (omega arith)))

pub key_spec : {M : Type 1} → statement M
key_spec = tie.close (tie.spec returns)
