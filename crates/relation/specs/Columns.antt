-- The columns of a relation, made once for compositions with many others, and a composition by them. Definitions only. Assumes nothing.
use Rattle.std.specs.Prelude.{ℕ, ◌+◌, ◌-◌, ◌*◌, ◌/◌, ◌%◌, ◌^◌, ◌<◌, ◌≤◌, List, bit_and, slice_index}
use Rattle.spec_basics.specs.Elements.{every}
use Rattle.relation.specs.declared.Relation.{Relation}
use Rattle.relation.specs.Digits.{union}
use Rattle.relation.specs.Product.{column}
use Rattle.relation.specs.Relation.{states}
use Rattle.relation.specs.Representation.{rows_of_word, relation_words, word}

-- the column of the middle state m in the rows x of a word: the lowest place of each row that has the pair to m
abbrev pub column_of : ℕ → ℕ → ℕ
column_of m x = bit_and (x / 2 ^ m) (column states rows_of_word)

-- row m of the rows y of a word
abbrev pub row_of : ℕ → ℕ → ℕ
row_of m y = bit_and (y / 2 ^ (m * states)) (2 ^ states - 1)

-- the first k of c are no larger than a column can be
abbrev pub AreColumns : ℕ → (ℕ → ℕ) → Type 0
AreColumns k c = (m : ℕ) → m < k → c m ≤ column states rows_of_word

-- the columns c, each times the row of its middle state
unfoldable pub by_columns : (ℕ → ℕ) → ℕ → ℕ
by_columns c y = union rows_of_word (λ m. c m * row_of m y)

-- ---- the columns of a relation in cells, those of one middle state side by side

abbrev pub column_cells : ℕ
column_cells = states * relation_words

unfoldable pub columns_of : Relation → List ℕ
columns_of x = every (λ p. column_of (p / relation_words) (word x (p % relation_words))) column_cells 0

abbrev pub cell : List ℕ → ℕ → ℕ
cell cells p = slice_index cells p

-- the columns of one word from cell p on
abbrev pub cells_from : List ℕ → ℕ → ℕ → ℕ
cells_from cells p m = cell cells (p + m * relation_words)

-- word w of a composition by columns with the first k words of y
unfoldable pub word_by : ℕ → List ℕ → ℕ → Relation → ℕ
word_by k cells w y = union k (λ j. by_columns (cells_from cells (w + j * (rows_of_word * relation_words))) (word y j))
