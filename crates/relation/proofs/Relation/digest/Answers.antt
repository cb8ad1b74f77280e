-- The words of a relation are the pieces of its value.
use Rattle.std.proofs.Common.{◌≡◌, ℕ, ◌%◌, ◌<◌, sym, ap, ◌∙◌, ap₂, arith}
use lib.Bits.{bit_xor}
use Rattle.relation.specs.Digits.{piece}
use Rattle.relation.specs.Relation.{turned}
use Rattle.relation.specs.Representation.{word_digits, relation_words, word, value}
use Rattle.relation.specs.StoredLaws.{piece-of-value}
use Rattle.relation.proofs.Relation.digest.Goals as goal

pub returns : goal.returns
returns c =
    let r = c.args.self in
    let is : (k : ℕ) → k < relation_words → word r k ≡ piece word_digits (value r) k = λ k l. sym (piece-of-value r (omega arith, omega arith, omega arith, omega arith) k l) in
    let at : (k : ℕ) → k < relation_words → turned 8 (word r k) ≡ turned 8 (piece word_digits (value r) k) = λ k l. ap (turned 8) (is k l) in
    ap (λ (z : ℕ). z % 32749)
    (ap₂ bit_xor
    (ap₂ bit_xor (is 0 (omega arith)) (c.turned.ensures ∙ at 1 (omega arith)))
    (c.turned-3.ensures ∙ ap (turned 29) (ap₂ bit_xor (is 2 (omega arith)) (c.turned-2.ensures ∙ at 3 (omega arith)))))
