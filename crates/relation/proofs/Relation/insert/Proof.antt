-- `Relation::insert` meets its contract: the pair's words are or'ed in. Assumes nothing.
use Rattle.std.proofs.Common.{sym, ap, ◌∙◌, arith, rules}
use lib.Bits.{bit_or}
use Rattle.relation.specs.Digits.{pieces}
use Rattle.relation.specs.Pieces.{pieces-or}
use Rattle.relation.specs.Relation.{states}
use Rattle.relation.specs.RelationLaws.{insert-or}
use Rattle.relation.specs.Representation.{word_digits, relation_words, word, word_lt, value, value-lt}
use Rattle.relation.proofs.Relation.insert.Statement.{statement}
use Rattle.relation.proofs.Relation.insert.Tie as tie

returns : tie.Need-returns
unfolding value pieces
returns c =
    let s = c.before.before.before.before.before.before.before.before in
    let e = s.before.args in
    let p = s.single-pair.result in
    sym (pieces-or word_digits relation_words (word e.self) (word p) (word_lt e.self (omega arith, omega arith, omega arith, omega arith)) (word_lt p (omega arith, omega arith, omega arith, omega arith)))
    ∙ ap (bit_or (value e.self)) s.single-pair.ensures
    ∙ insert-or states (value e.self) e.a e.b (value-lt e.self (omega arith, omega arith, omega arith, omega arith))

pub insert_spec : {M : Type 1} → statement M
insert_spec = tie.close (tie.spec (λ c κs. search rules) returns)
