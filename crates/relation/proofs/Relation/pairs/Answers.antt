-- The ones of the four words are the pairs.
use Rattle.std.proofs.Common.{◌∙◌, arith}
use Rattle.relation.specs.Digits.{sum}
use Rattle.relation.specs.Counting.{ones-pieces, ones-pairs}
use Rattle.relation.specs.Relation.{states}
use Rattle.relation.specs.Representation.{word_digits, relation_words, word, word_lt, value, value-lt}
use Rattle.relation.proofs.Relation.pairs.Goals as goal

pub returns : goal.returns
unfolding value sum
returns c =
    let r = c.args.self in
    let h = word_lt r (omega arith, omega arith, omega arith, omega arith) in
    omega (arith, ones-pieces word_digits relation_words (word r) h ∙ ones-pairs states (value r) (value-lt r (omega arith, omega arith, omega arith, omega arith)))
