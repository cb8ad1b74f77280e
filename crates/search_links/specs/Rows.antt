-- The first rows of a journal of rows as the code has them, which `row_of` reads. Definitions only. Assumes nothing.
use Rattle.std.specs.Prelude.{◌≡◌, Bool, false, List, [], ◌∷◌, map, ℕ, zero, suc, take, drop}
use Rattle.spec_order.specs.Journal.{Row}

module _ {X : Type 0} where
  -- there is an element i, and f holds of it
  abbrev pub holds_at : (X → Bool) → List X → ℕ → Bool
  holds_at f [] i = false
  holds_at f (x ∷ xs) zero = f x
  holds_at f (x ∷ xs) (suc i) = holds_at f xs i

  -- element i is x
  abbrev pub IsAt : List X → ℕ → X → Type 0
  IsAt xs i x = (f : X → Bool) → holds_at f xs i ≡ f x

  -- what a search leaves beyond the first u rows: what was there before
  abbrev pub KeptBeyond : ℕ → List X → List X → Type 0
  KeptBeyond u old new = drop u new ≡ drop u old

module _ {E R : Type 0} (row_of : R → Row E) where
  -- the first u rows
  unfoldable pub rows_read : ℕ → List R → List (Row E)
  rows_read u j = map row_of (take u j)

  -- the first u rows are these, and the others as they were
  pub record Stored (u : ℕ) (rows : List (Row E)) (old new : List R) : Type 0 where
    pub front : rows_read u new ≡ rows
    pub beyond : KeptBeyond u old new
