-- What the steps of a composition do to the words of a relation. Definitions only. Assumes nothing.
use Rattle.std.specs.Prelude.{◌≡◌, ℕ, ◌/◌, ◌^◌, ◌<◌, bit_or}
use Rattle.relation.specs.declared.Relation.{Relation}
use Rattle.relation.specs.Product.{product}
use Rattle.relation.specs.Relation.{states}
use Rattle.relation.specs.Representation.{rows_of_word, relation_words, word}

-- the next columns in the place of the lowest
abbrev pub Moved : Relation → Relation → Type 0
Moved x r = (w : ℕ) → w < relation_words → word r w ≡ word x w / 2 ^ rows_of_word

-- the pairs of x through its lowest columns, to whose states the rows of y belong
abbrev pub Joined : Relation → Relation → ℕ → Relation → Type 0
Joined s x y r = (w : ℕ) → w < relation_words → word r w ≡ bit_or (word s w) (product states rows_of_word rows_of_word (word x w) y)
