-- A shift makes the pair's place in the word of its row.
use Rattle.std.proofs.Common.{◌≡◌, ℕ, ◌+◌, ◌*◌, ◌%◌, ◌^◌, ◌<◌, sym, ap, ◌∙◌, le_refl, one-mul, arith, shl_exact}
use lib.Bits.{bit_and, and_mask, mask_lt}
use Rattle.relation.specs.Digits.{pieces}
use Rattle.relation.specs.Parts.{single-word}
use Rattle.relation.specs.Relation.{states, single}
use Rattle.relation.specs.RelationLaws.{single-none}
use Rattle.relation.specs.Representation.{word_digits, rows_of_word, value, value_none}
use Rattle.relation.proofs.Relation.single.Goals as goal

-- the bit of the pair (a, b) in its word
abbrev bit_of : ℕ → ℕ → ℕ
bit_of a b = 1 * 2 ^ (bit_and a 3 * states + b) % 2 ^ word_digits

-- moved up to word w, which has row a
in-word : (a b w : ℕ) → a < states → b < states → a ≡ w * rows_of_word + a % rows_of_word → bit_of a b * 2 ^ (w * word_digits) ≡ single states a b
in-word a b w ha hb row =
    ap (λ (z : ℕ). z * 2 ^ (w * word_digits))
    (shl_exact {a = 1} 1 (bit_and a 3 * states + b) word_digits (le_refl 2) (omega (arith, mask_lt a 2))
    ∙ one-mul (2 ^ (bit_and a 3 * states + b))
    ∙ ap (λ (z : ℕ). 2 ^ (z * states + b)) (and_mask a 2))
    ∙ single-word states rows_of_word w (a % rows_of_word) b (omega arith) hb
    ∙ ap (λ (z : ℕ). single states z b) (sym row)

-- one word, and three of zeros
module _ (v p q s t : ℕ) where
  first_word : 0 * p + (0 * q + (0 * s + (v * t + 0))) ≡ v * t
  first_word = omega arith

  second_word : 0 * p + (0 * q + (v * s + (0 * t + 0))) ≡ v * s
  second_word = omega arith

  third-word : 0 * p + (v * q + (0 * s + (0 * t + 0))) ≡ v * q
  third-word = omega arith

  fourth-word : v * p + (0 * q + (0 * s + (0 * t + 0))) ≡ v * p
  fourth-word = omega arith

pub returns-then-from-ge-SIDE : goal.returns-then-from-ge-SIDE
returns-then-from-ge-SIDE c = ap value c.empty.ensures ∙ value_none ∙ single-none states c.args.a c.args.b (λ p q. omega arith)

pub returns-in-0-to-3 : goal.returns-in-0-to-3
unfolding value pieces
returns-in-0-to-3 c =
    let e = c.args in
    ap value c.of_words.ensures ∙ first_word (bit_of e.a e.b) (2 ^ 192) (2 ^ 128) (2 ^ 64) (2 ^ 0) ∙ in-word e.a e.b 0 (omega arith) (omega arith) (omega arith)

pub returns-in-4-to-7 : goal.returns-in-4-to-7
unfolding value pieces
returns-in-4-to-7 c =
    let e = c.args in
    ap value c.of_words-in-4-to-7.ensures ∙ second_word (bit_of e.a e.b) (2 ^ 192) (2 ^ 128) (2 ^ 64) (2 ^ 0) ∙ in-word e.a e.b 1 (omega arith) (omega arith) (omega arith)

pub returns-in-8-to-11 : goal.returns-in-8-to-11
unfolding value pieces
returns-in-8-to-11 c =
    let e = c.args in
    ap value c.of_words-in-8-to-11.ensures ∙ third-word (bit_of e.a e.b) (2 ^ 192) (2 ^ 128) (2 ^ 64) (2 ^ 0) ∙ in-word e.a e.b 2 (omega arith) (omega arith) (omega arith)

pub returns-in_default : goal.returns-in_default
unfolding value pieces
returns-in_default c =
    let e = c.args in
    ap value c.of_words-in_default.ensures ∙ fourth-word (bit_of e.a e.b) (2 ^ 192) (2 ^ 128) (2 ^ 64) (2 ^ 0) ∙ in-word e.a e.b 3 (omega arith) (omega arith) (omega arith)
