-- Containment and composition word by word, as the code holds a relation. Assumes nothing.
use Rattle.std.specs.Prelude.{◌≡◌, ℕ, ◌+◌, ◌*◌, ◌^◌, ◌<◌, false, bit_and, bit_or, nat_eq}
use Rattle.std.proofs.Common.{sym, ap₂, ◌∙◌, subst, arith}
use Rattle.std.proofs.Math.Path.{ap}
use Rattle.std.proofs.Math.Nat.{lt_of_le_of_lt}
use Rattle.std.proofs.lemmas.Nat.{and_le_l}
use Rattle.relation.specs.declared.Relation.{Relation}
use Rattle.relation.specs.Digits.{pieces, all, subset}
use Rattle.relation.specs.DigitLaws.{or-empty}
use Rattle.relation.specs.Parts.{product-short, product-rows}
use Rattle.relation.specs.Pieces.{pieces-lt, pieces-same, pieces-and, pieces-eqb}
use Rattle.relation.specs.Product.{product, product-empty-left, product-all}
use Rattle.relation.specs.Relation.{states, compose, contained}
use Rattle.relation.specs.Representation.{word_digits, rows_of_word, relation_words, of_words, word, word_lt, Fit, value, each_word}

-- ---- containment

module _ (x y : Relation) (hx : Fit x) (hy : Fit y) where
  pub contained-words : contained (value x) (value y) ≡ all relation_words (λ k. subset (word x k) (word y k))
  unfolding value subset
  contained-words =
      ap (λ (z : ℕ). nat_eq z (pieces word_digits relation_words (word x))) (pieces-and word_digits relation_words (word x) (word y) (word_lt x hx) (word_lt y hy))
      ∙ pieces-eqb word_digits relation_words (λ k. bit_and (word x k) (word y k)) (word x) (λ k. lt_of_le_of_lt (and_le_l (word x k) (word y k)) (word_lt x hx k)) (word_lt x hx)

  -- where the first word is not, the relation is not
  pub not_first : subset x.w0 y.w0 ≡ false → contained (value x) (value y) ≡ false
  unfolding all
  not_first e = contained-words ∙ rw e

-- ---- composition

none_above : (p q l : ℕ) → l ≡ 0 * p + (0 * q + l)
none_above p q l = omega arith

-- a relation of two words
short : (r : Relation) → Fit r → r.w2 ≡ 0 → r.w3 ≡ 0 → value r < 2 ^ (2 * word_digits)
unfolding value pieces
short r h e f =
    subst (λ (z : ℕ). z < 2 ^ (2 * word_digits))
    (none_above (2 ^ 192) (2 ^ 128) (pieces word_digits 2 (word r)) ∙ sym (ap₂ (λ (u v : ℕ). u * 2 ^ 192 + (v * 2 ^ 128 + pieces word_digits 2 (word r))) f e))
    (pieces-lt word_digits 2 (word r) (word_lt r h))

-- has no middle state from 8 on: k rows z through those below
pub product-two : (k z : ℕ) (y : Relation) → Fit y → y.w2 ≡ 0 → y.w3 ≡ 0 → product states k 8 z (value y) ≡ product states k states z (value y)
product-two k z y h e f = product-short states k 8 8 z (value y) (short y h e f)

-- each word of a composition for itself
pub composed-words : (x y r : Relation) → Fit x → ((w : ℕ) → w < relation_words → word r w ≡ product states rows_of_word states (word x w) (value y))
    → value r ≡ compose states (value x) (value y)
unfolding value
composed-words x y r h e =
    pieces-same word_digits relation_words (word r) (λ w. product states rows_of_word states (word x w) (value y)) e
    ∙ product-rows states rows_of_word states relation_words (word x) (value y) (omega arith) (word_lt x h)
    ∙ product-all states (value x) (value y)

-- two words a and b of a composition where both relations have two words
pub composed-two : (x y : Relation) → Fit x → Fit y → bit_or (bit_or (bit_or x.w2 x.w3) y.w2) y.w3 ≡ 0
    → (a b : ℕ) → a ≡ product states rows_of_word 8 x.w0 (value y) → b ≡ product states rows_of_word 8 x.w1 (value y)
    → value (of_words a b 0 0) ≡ compose states (value x) (value y)
composed-two x y hx hy e a b p q =
    let none3 = or-empty (bit_or (bit_or x.w2 x.w3) y.w2) y.w3 e in
    let none2 = or-empty (bit_or x.w2 x.w3) y.w2 none3.0 in
    let none1 = or-empty x.w2 x.w3 none2.0 in
    let all : (z : ℕ) → product states rows_of_word 8 z (value y) ≡ product states rows_of_word states z (value y) = λ z. product-two rows_of_word z y hy none2.1 none3.1 in
    composed-words x y (of_words a b 0 0) hx (each_word _ (p ∙ all x.w0) (q ∙ all x.w1) (empty x.w2 none1.0) (empty x.w3 none1.1))
  where
    empty : (z : ℕ) → z ≡ 0 → 0 ≡ product states rows_of_word states z (value y)
    empty z h = sym (ap (λ (u : ℕ). product states rows_of_word states u (value y)) h ∙ product-empty-left states rows_of_word states (value y))
