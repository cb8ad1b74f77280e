-- `Relation::contained` meets its contract: the test is the definition's, word by word. Assumes nothing.
use Rattle.std.proofs.Common.{ℕ, eqb, sym, ap, ◌∙◌, arith, rules}
use lib.Bits.{bit_or, or_zero_l}
use Rattle.relation.specs.Digits.{union, subset}
use Rattle.relation.specs.DigitLaws.{union-none, all_same}
use Rattle.relation.specs.Representation.{relation_words, of_words, word, each_word}
use Rattle.relation.specs.Words.{contained-words}
use Rattle.relation.proofs.Relation.contained.Statement.{statement}
use Rattle.relation.proofs.Relation.contained.Tie as tie

returns : tie.Need-returns
unfolding union
returns c =
    let o0 = c.before.before.before.outside in
    let o1 = c.before.before.outside-2 in
    let o2 = c.before.outside-3 in
    let o3 = c.outside-4 in
    let e = c.before.before.before.before.args in
    let x : ℕ → ℕ = word e.self in
    let y : ℕ → ℕ = word e.other in
    let o : ℕ → ℕ = word (of_words o0.result o1.result o2.result o3.result) in
    ap (λ (z : ℕ). eqb (bit_or (bit_or (bit_or z o1.result) o2.result) o3.result) 0) (sym (or_zero_l o0.result))
    ∙ union-none relation_words o
    ∙ all_same relation_words (λ k. eqb (o k) 0) (λ k. subset (x k) (y k)) (each_word _ o0.ensures o1.ensures o2.ensures o3.ensures)
    ∙ sym (contained-words e.self e.other (omega arith, omega arith, omega arith, omega arith) (omega arith, omega arith, omega arith, omega arith))

pub contained_spec : {M : Type 1} → statement M
contained_spec = tie.close (tie.spec (λ c κs. search rules) (λ c κs. search rules) (λ c κs. search rules) (λ c κs. search rules) returns)
