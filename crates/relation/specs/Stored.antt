-- Relations in a table of words, each in `relation_words` words that stand side by side. Definitions only. Assumes nothing.
use Rattle.std.specs.Prelude.{ℕ, zero, suc, ◌+◌, ◌*◌, ◌/◌, ◌%◌, List, slice_index_or, slice_set}
use Rattle.spec_basics.specs.Elements.{every}
use Rattle.relation.specs.declared.Relation.{Relation}
use Rattle.relation.specs.Digits.{piece}
use Rattle.relation.specs.Representation.{word_digits, relation_words, of_words}

-- relation i of the table; the relation without pairs where the table ends before it
unfoldable pub relation_in : List ℕ → ℕ → Relation
relation_in table i =
    let at : ℕ → ℕ = λ k. slice_index_or table (i * relation_words + k) 0 in
    of_words (at 0) (at 1) (at 2) (at 3)

-- the table with the first k words of the relation x from entry p on
unfoldable pub with_words : List ℕ → ℕ → ℕ → ℕ → List ℕ
with_words table p x zero = table
with_words table p x (suc k) = slice_set (with_words table p x k) (p + k) (piece word_digits x k)

-- the table with the relation x as relation i; the same table where it ends before that one
unfoldable pub with_relation : List ℕ → ℕ → ℕ → List ℕ
with_relation table i x = with_words table (i * relation_words) x relation_words

-- entry p of the table of the relations f 0, f 1, ..
unfoldable pub word_at : (ℕ → ℕ) → ℕ → ℕ
word_at f p = piece word_digits (f (p / relation_words)) (p % relation_words)

-- the table of the first k of them
unfoldable pub relations_of : (ℕ → ℕ) → ℕ → List ℕ
relations_of f k = every (word_at f) (k * relation_words) 0
