-- `Relation::store` meets its contract: the words of the relation are those of its number. Assumes nothing.
use Rattle.std.proofs.Common.{◌≡◌, ℕ, ◌+◌, ◌*◌, ◌<◌, List, set, sym, ap₂, add-zero, arith, length-set, rules}
use Rattle.relation.specs.Digits.{piece}
use Rattle.relation.specs.Representation.{word_digits, relation_words, word, value}
use Rattle.relation.specs.Stored.{with_words, with_relation}
use Rattle.relation.specs.StoredLaws.{piece-of-value}
use Rattle.relation.proofs.Relation.store.Statement.{statement}
use Rattle.relation.proofs.Relation.store.Tie as tie

slice-write-table-2 : tie.Need-bounds-table-first-2
slice-write-table-2 c = simp length-set (omega arith)

slice-write-table-3 : tie.Need-bounds-table-first-3
slice-write-table-3 c = simp length-set (omega arith)

slice-write-table-4 : tie.Need-bounds-table-first-4
slice-write-table-4 c = simp length-set (omega arith)

returns : tie.Need-returns
unfolding with_relation with_words
returns c =
    let i = c.args.i in
    let r = c.args.self in
    let is : (k : ℕ) → k < relation_words → word r k ≡ piece word_digits (value r) k = λ k l. sym (piece-of-value r (omega arith, omega arith, omega arith, omega arith) k l) in
    ap₂ (λ (t : List ℕ) (x : ℕ). set t (i * relation_words + 3) x)
    (ap₂ (λ (t : List ℕ) (x : ℕ). set t (i * relation_words + 2) x)
    (ap₂ (λ (t : List ℕ) (x : ℕ). set t (i * relation_words + 1) x)
    (ap₂ (λ (z x : ℕ). set c.args.table.now z x) (sym (add-zero (i * relation_words))) (is 0 (omega arith)))
    (is 1 (omega arith)))
    (is 2 (omega arith)))
    (is 3 (omega arith))

pub store_spec : {M : Type 1} → statement M
store_spec =
    tie.close
    (tie.spec
    (λ c. search rules)
    (λ c. search rules)
    (λ c. search rules)
    (λ c. search rules)
    (λ c. search rules)
    slice-write-table-2
    (λ c. search rules)
    (λ c. search rules)
    slice-write-table-3
    (λ c. search rules)
    (λ c. search rules)
    slice-write-table-4
    (λ c. search rules)
    returns)
