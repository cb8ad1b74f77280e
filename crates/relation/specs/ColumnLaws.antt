-- A composition by columns. Assumes nothing.
use Rattle.std.specs.Prelude.{◌≡◌, ℕ, ◌+◌, ◌*◌, ◌/◌, ◌%◌, ◌^◌, ◌<◌, ◌≤◌, length, bit_and}
use Rattle.std.proofs.Common.{sym, ap₂, ◌∙◌, subst, lt_of_lt_of_le, shr-shr}
use Rattle.std.proofs.Math.Path.{ap}
use native.Mathlib.Omega.{arith}
use Rattle.std.proofs.lemmas.Nat.{and_le_r}
use Rattle.spec_basics.specs.Lists.{length-every, getD-every}
use Rattle.relation.specs.declared.Relation.{Relation}
use Rattle.relation.specs.Columns.{column_of, row_of, AreColumns, by_columns, column_cells, columns_of, cell, cells_from, word_by}
use Rattle.relation.specs.DigitLaws.{union-same}
use Rattle.relation.specs.Parts.{product-words}
use Rattle.relation.specs.Product.{column, product, through-times, union-through}
use Rattle.relation.specs.Relation.{states}
use Rattle.relation.specs.Representation.{rows_of_word, relation_words, word, word_lt, Fit, value}

-- by the columns of the rows z: the pairs through all four states
pub by_product : (c : ℕ → ℕ) (z y : ℕ) → ((m : ℕ) → m < rows_of_word → c m ≡ column_of m z) → by_columns c y ≡ product states rows_of_word rows_of_word z y
unfolding by_columns
by_product c z y h =
    union-through states rows_of_word rows_of_word z y (λ m. c m * row_of m y) (omega arith)
    (λ m l. ap (λ (u : ℕ). u * row_of m y) (h m l) ∙ through-times states rows_of_word m z y (omega arith))

-- by columns that are equal
pub by-same : (c d : ℕ → ℕ) (y : ℕ) → ((m : ℕ) → m < rows_of_word → c m ≡ d m) → by_columns c y ≡ by_columns d y
unfolding by_columns
by-same c d y h = union-same rows_of_word (λ m. c m * row_of m y) (λ m. d m * row_of m y) (λ m l. ap (λ (u : ℕ). u * row_of m y) (h m l))

-- ---- the columns of a relation

module _ (x : Relation) where
  pub columns-length : length (columns_of x) ≡ column_cells
  unfolding columns_of
  columns-length = length-every (λ q. column_of (q / relation_words) (word x (q % relation_words))) column_cells 0

  -- cell p of them
  pub cell-is : (p : ℕ) → p < column_cells → cell (columns_of x) p ≡ column_of (p / relation_words) (word x (p % relation_words))
  unfolding columns_of
  cell-is p l =
      let z : 0 + p ≡ p = omega arith in
      getD-every (λ q. column_of (q / relation_words) (word x (q % relation_words))) 0 column_cells 0 p l
      ∙ ap (λ (q : ℕ). column_of (q / relation_words) (word x (q % relation_words))) z

  pub columns-are : AreColumns column_cells (cell (columns_of x))
  columns-are p l = subst (λ (z : ℕ). z ≤ column states rows_of_word) (sym (cell-is p l)) (and_le_r (word x (p % relation_words) / 2 ^ (p / relation_words)) (column states rows_of_word))

  -- the columns of word w for the middle states of word j of the next relation
  from-word : (w j m : ℕ) → w < relation_words → j < relation_words → m < rows_of_word
      → cells_from (columns_of x) (w + j * (rows_of_word * relation_words)) m ≡ column_of m (word x w / 2 ^ (j * rows_of_word))
  from-word w j m hw hj hm =
      let q : ℕ = (w + j * 16) + m * 4 in
      let state : q / relation_words ≡ j * rows_of_word + m = omega arith in
      let rest : q % relation_words ≡ w = omega arith in
      cell-is q (omega arith)
      ∙ ap₂ (λ (s v : ℕ). column_of s (word x v)) state rest
      ∙ ap (λ (z : ℕ). bit_and z (column states rows_of_word)) (sym (shr-shr (word x w) (j * rows_of_word) m))

  -- word w of the composition with the first k words of y
  pub word-by : (k w : ℕ) (y : Relation) → k ≤ relation_words → w < relation_words → Fit y
      → word_by k (columns_of x) w y ≡ product states rows_of_word (k * rows_of_word) (word x w) (value y)
  unfolding word_by value
  word-by k w y hk hw hy =
      product-words states rows_of_word rows_of_word relation_words (word x w) (word y) _ (word_lt y hy) k hk
      (λ j l. by_product _ (word x w / 2 ^ (j * rows_of_word)) (word y j) (λ m h. from-word w j m hw (lt_of_lt_of_le l hk) h))
