-- The table of lists: for each nonterminal the rows that were live when the pass began, rising, by their numbers. Definitions only. Assumes
-- nothing.
use Rattle.std.specs.Prelude.{◌≡◌, cond, List, [], ◌∷◌, ℕ, suc, ◌<◌, ltb, get_or}
use Rattle.spec_order.specs.Journal.{Row, live_of}
use Rattle.search_state.specs.Layout.{row_cells, heads, head_cell, end}

-- the position after i
abbrev pub after_in : List ℕ → ℕ → ℕ
after_in lists i = cond (ltb i row_cells) (get_or lists i 0) end

-- the positions from i on are these
abbrev pub Chain : List ℕ → ℕ → List ℕ → Type 0
Chain lists i [] = i ≡ end
Chain lists i (k ∷ ks) = (i ≡ end → ⊥) × (i ≡ k) × Chain lists (after_in lists i) ks

-- the list of each nonterminal x is `live x`
abbrev pub ListedAs : (ℕ → List ℕ) → List ℕ → Type 0
ListedAs live lists = (x : ℕ) → x < heads → Chain lists (get_or lists (head_cell x) 0) (live x)

module _ {E : Type 0} where
  -- the numbers of the live rows of x, rising; i is the number of the first row of the list
  abbrev pub live_numbers : ℕ → List (Row E) → ℕ → List ℕ
  live_numbers i [] x = []
  live_numbers i (r ∷ rows) x = cond (live_of x r) (i ∷ live_numbers (suc i) rows x) (live_numbers (suc i) rows x)

  -- the list of each nonterminal is that of its live rows
  abbrev pub Listed : List (Row E) → List ℕ → Type 0
  Listed A lists = ListedAs (live_numbers 0 A) lists
