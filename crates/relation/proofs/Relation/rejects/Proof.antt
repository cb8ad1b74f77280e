-- `Relation::rejects` meets its contract: the mask is below 2 ^ states, and the lowest row, what state 0 reaches, stands in the lowest word.
-- Assumes nothing.
use Rattle.std.proofs.Common.{◌∙◌, arith}
use Rattle.relation.specs.Digits.{bit}
use Rattle.relation.specs.Masks.{rejects-mask, rejects-word}
use Rattle.relation.specs.Relation.{states}
use Rattle.relation.specs.Representation.{word_digits, relation_words, word, word_lt, value}
use Rattle.relation.proofs.Relation.rejects.Statement.{statement}
use Rattle.relation.proofs.Relation.rejects.Tie as tie

returns : tie.Need-returns
unfolding value
returns c =
    let r = c.before.args.self in
    let finals = c.before.args.finals in
    rejects-mask states finals r.w0 c.before.ranges.finals.fits
    ∙ rejects-word states word_digits relation_words (bit finals) (word r) (omega arith) (omega arith) (word_lt r (omega arith, omega arith, omega arith, omega arith))

pub rejects_spec : {M : Type 1} → statement M
rejects_spec = tie.close (tie.spec returns)
