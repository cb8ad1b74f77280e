-- The words are compared one by one.
use Rattle.std.proofs.Common.{◌≡◌, Bool, true, false, ◌&&◌, eqb, sym, refl, ◌∙◌, arith}
use Rattle.relation.specs.Digits.{all}
use Rattle.relation.specs.Pieces.{pieces-eqb}
use Rattle.relation.specs.Representation.{word_digits, relation_words, word, word_lt, value}
use Rattle.relation.proofs.Relation.same.Goals as goal

-- from the first to the last, or from the last to the first
either_way : (a b c d : Bool) → (a && (b && (c && d))) ≡ (((a && b) && c) && d)
either_way true true true d = refl
either_way true true false d = refl
either_way true false c d = refl
either_way false b c d = refl

pub returns : goal.returns
unfolding value all
returns c =
    let x = c.args.self in
    let y = c.args.other in
    c.eq.ensures
    ∙ either_way (eqb x.w0 y.w0) (eqb x.w1 y.w1) (eqb x.w2 y.w2) (eqb x.w3 y.w3)
    ∙ sym (pieces-eqb word_digits relation_words (word x) (word y) (word_lt x (omega arith, omega arith, omega arith, omega arith)) (word_lt y (omega arith, omega arith, omega arith, omega arith)))
