-- The word behind a row: the body of the row's rule, spelled from left to right, a nonterminal as the word behind the row that its
-- pointer names (document 01, "What demand 3 compares"). Definitions only. Assumes nothing.
use Rattle.std.specs.Prelude.{List, [], ◌∷◌, ◌++◌, ℕ, get_or}
use Rattle.spec_language.specs.Grammar.{Symbol, terminal, nonterminal, Body, empty, one, two, Rule, no_rule}
use Rattle.spec_order.specs.Journal.{Row}

-- what stands for words, of the type W: words themselves in the base check. `joined` is given the row's effect, which may say how two parts
-- are put together
pub record Spelling (E W : Type 0) : Type 0 where
  pub nothing : W
  pub single : ℕ → W
  pub joined : E → W → W → W
  pub size : W → ℕ

module _ {E W : Type 0} (S : Spelling E W) where
  -- the word of a symbol that points to row i; `done` has the words of the rows so far
  unfoldable pub symbol_word : List W → Symbol → ℕ → W
  symbol_word done (terminal c) i = S.single c
  symbol_word done (nonterminal x) i = get_or done i S.nothing

  unfoldable pub body_word : List W → Body → E → ℕ → ℕ → W
  body_word done empty e i j = S.nothing
  body_word done (one s) e i j = symbol_word done s i
  body_word done (two s t) e i j = S.joined e (symbol_word done s i) (symbol_word done t j)

  unfoldable pub row_word : List Rule → List W → Row E → W
  row_word rules done r = body_word done (get_or rules r.rule no_rule).body r.effect r.left r.right

  -- the words of the rows, one after the other; `done` has those of the rows before
  unfoldable pub words_from : List Rule → List W → List (Row E) → List W
  words_from rules done [] = done
  words_from rules done (r ∷ rows) = words_from rules (done ++ (row_word rules done r ∷ [])) rows

  unfoldable pub words_of : List Rule → List (Row E) → List W
  words_of rules rows = words_from rules [] rows

  unfoldable pub word_behind : List Rule → List (Row E) → ℕ → W
  word_behind rules rows i = get_or (words_of rules rows) i S.nothing
