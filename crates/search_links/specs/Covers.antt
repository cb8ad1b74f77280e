-- The table of covers: the live rows of each nonterminal, rising, one cell leading to the next. A link asks of a row only whose live row it is.
-- Definitions only. Assumes nothing.
use Rattle.std.specs.Prelude.{◌≡◌, Bool, true, false, not, List, ◌⊎◌, ℕ, suc, ◌≤◌, ◌<◌, eqb, length, get_or, drop}
use Rattle.spec_basics.specs.Elements.{any}
use Rattle.spec_order.specs.Candidates.{Candidate}
use Rattle.spec_order.specs.Journal.{Row, live_of}
use Rattle.spec_order.specs.Order.{larger, retire}
use Rattle.search_state.specs.Comparing.{is_below}
use Rattle.search_state.specs.Layout.{heads, head_cell, table_cells, end}
use Rattle.search_links.specs.Rows.{holds_at, KeptBeyond, rows_read}

module _ {E : Type 0} where
  -- row i is a live row of x
  abbrev pub live_at : ℕ → List (Row E) → ℕ → Bool
  live_at x rows i = holds_at (live_of x) rows i

  -- `cell` is a link of the list of x, and the rows it can lead to start at n: either the list's head (n = 0) or the cell of a live row
  -- (n = that row + 1)
  abbrev pub Cell : ℕ → List (Row E) → ℕ → ℕ → Type 0
  Cell x rows cell n = ((cell ≡ head_cell x) × (n ≡ 0)) ⊎ ((live_at x rows cell ≡ true) × (n ≡ suc cell))

  -- v is the first live row of x from n on, or the end
  pub record Reach (x : ℕ) (rows : List (Row E)) (n v : ℕ) : Type 0 where
    pub within : n ≤ v
    pub gap : (i : ℕ) → n ≤ i → i < v → live_at x rows i ≡ false
    pub stop : (v ≡ end) ⊎ (live_at x rows v ≡ true)

  -- each cell leads to the first live row after it
  pub record Covering (rows : List (Row E)) (covers : List ℕ) : Type 0 where
    pub size : length covers ≡ table_cells
    pub reach : (x cell n : ℕ) → x < heads → Cell x rows cell n → Reach x rows n (get_or covers cell 0)

  -- a row without its effect, of which the links tell the same
  abbrev pub without_effect : Row E → Row Unit
  without_effect r = record { head = r.head; rule = r.rule; effect = tt; left = r.left; right = r.right; len = r.len; birth = r.birth; retired = r.retired }

  -- a cell of x that leads to no row
  pub record LastCell (x : ℕ) (rows : List (Row E)) (covers : List ℕ) (cell : ℕ) : Type 0 where
    pub from : ℕ
    pub is : Cell x rows cell from
    pub last : get_or covers cell 0 ≡ end

-- no list has a row: the cell of each nonterminal leads to the end
pub record Unlinked (covers : List ℕ) : Type 0 where
  pub size : length covers ≡ table_cells
  pub firsts : (x : ℕ) → x < heads → get_or covers (head_cell x) 0 ≡ end

-- the list of x has a row: the cell of x does not lead to the end
abbrev pub is_linked : ℕ → List ℕ → Bool
is_linked x covers = not (eqb (get_or covers (head_cell x) 0) end)

-- ---- a candidate beside the rows

module _ {E : Type 0} (below : E → E → Bool) (c : Candidate E) (rows : List (Row E)) where
  -- row i covers the candidate
  abbrev pub covers_at : ℕ → Bool
  covers_at i = holds_at (is_below below c) rows i

  -- the cell leads to no row, and no row is larger than the candidate, unless the flag is set
  pub record Free (covers : List ℕ) (cell : ℕ) (some : Bool) : Type 0 where
    pub last : LastCell c.head rows covers cell
    pub small : some ≡ false → any (larger below c) rows ≡ false

-- ---- a journal whose rows retire, in pass k for the candidate c; `row_of` reads its rows, and `blank` stands past its end

module _ {E R : Type 0} (below : E → E → Bool) (row_of : R → Row E) (blank : R) (k : ℕ) (c : Candidate E) where
  -- row i is as it is to be, and the others are as they were
  pub record Replaced (i : ℕ) (old new : List R) : Type 0 where
    pub size : length new ≡ length old
    pub row : row_of (get_or new i blank) ≡ retire below k c (row_of (get_or old i blank))
    pub others : (m : ℕ) → (m ≡ i → ⊥) → get_or new m blank ≡ get_or old m blank
    pub beyond : (w : ℕ) → i < w → drop w new ≡ drop w old

  -- of the first u rows those below v are done and the others as they were, and the cell leads to row v
  pub record Retiring (u : ℕ) (old : List R) (v cell : ℕ) (new : List R) (covers : List ℕ) : Type 0 where
    pub size : length new ≡ length old
    pub done : (i : ℕ) → i < v → i < u → row_of (get_or new i blank) ≡ retire below k c (row_of (get_or old i blank))
    pub rest : (i : ℕ) → v ≤ i → get_or new i blank ≡ get_or old i blank
    pub beyond : KeptBeyond u old new
    pub covering : Covering (rows_read row_of u new) covers
    pub from : ℕ
    pub is : Cell c.head (rows_read row_of u new) cell from
    pub at : get_or covers cell 0 ≡ v
