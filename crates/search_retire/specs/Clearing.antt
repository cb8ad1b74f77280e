-- Retiring the larger rows and adding a new one: what is known of the journal and the table at each cursor, whatever an effect is. Definitions
-- only. Assumes nothing.
use Rattle.std.specs.Prelude.{◌≡◌, Bool, true, false, cond, List, map, ◌⊎◌, ℕ, ◌+◌, ◌-◌, ◌≤◌, ◌<◌, length}
use Rattle.std.specs.declared.option.Option.{Option}
use Rattle.std.specs.declared.option.Option.TheVariants.{None, Some}
use Rattle.spec_order.specs.Candidates.{Candidate}
use Rattle.spec_order.specs.Journal.{Row}
use Rattle.spec_order.specs.Order.{retire, added}
use Rattle.search_state.specs.Layout.{row_cells, lists_from, table_cells, lists_in}
use Rattle.search_links.specs.Covers.{Covering, LastCell, Retiring}
use Rattle.search_links.specs.Rows.{rows_read, Stored}
use Rattle.search_retire.specs.declared.RetireCursor.{RetireCursor}
use Rattle.search_cover.specs.declared.CoverAnswer.{CoverAnswer}

-- in pass k, for the candidate c, over the journal j₀ with u rows used, where looking for a cover ended in l; cl is the cursor. `row_of` reads the
-- rows of the journal, and `blank` stands past its end
module _ {E R : Type 0} (below : E → E → Bool) (row_of : R → Row E) (blank : R) (k : ℕ) (c : Candidate E) (u : ℕ) (l : CoverAnswer) (j₀ : List R) where
  -- a row covers, or there is no room
  abbrev pub Idle : Type 0
  Idle = (l.covers ≡ true) ⊎ (u ≡ length j₀)

  pub record Fresh : Type 0 where
    pub none : l.covers ≡ false
    pub room : u < length j₀
    pub limit : length j₀ ≤ row_cells
    pub pass : 0 < k

  -- the larger rows have retired, and the cell leads to no row
  pub record Cleared (cell : ℕ) (j : List R) (t : List ℕ) : Type 0 where
    pub stored : Stored row_of u (map (retire below k c) (rows_read row_of u j₀)) j₀ j
    pub covering : Covering (rows_read row_of u j) t
    pub last : LastCell c.head (rows_read row_of u j) t cell

  -- and the candidate is the next row
  pub record Added (j : List R) (t : List ℕ) : Type 0 where
    pub stored : Stored row_of (u + 1) (added below k c (rows_read row_of u j₀)) j₀ j
    pub covering : Covering (rows_read row_of (u + 1) j) t

  abbrev pub Clears : Bool → RetireCursor → List R → List ℕ → Type 0
  Clears true cl j t = (cl.row ≡ u) × Cleared cl.cell j t
  Clears false cl j t = (cl.row < u) × Retiring below row_of blank k c u j₀ cl.row cl.cell j t

  module _ (t₀ : List ℕ) where
    abbrev pub ClearingEnd : List R → List ℕ → Type 0
    ClearingEnd j t = (Idle × (j ≡ j₀) × (t ≡ t₀)) ⊎ (Fresh × Added j t)

    abbrev pub ClearingAt : Option RetireCursor → List R → List ℕ → Type 0
    ClearingAt (Some cl) j t = Fresh × Clears cl.new cl j t
    ClearingAt None j t = ClearingEnd j t

    pub record InClearing (cl : Option RetireCursor) (j : List R) (t : List ℕ) : Type 0 where
      pub size : length j ≡ length j₀
      pub lists : lists_in t ≡ lists_in t₀
      pub stands : ClearingAt cl j t

    -- when it has ended
    pub record Inserted (j : List R) (t : List ℕ) : Type 0 where
      pub size : length j ≡ length j₀
      pub lists : lists_in t ≡ lists_in t₀
      pub outcome : ClearingEnd j t

abbrev pub clears_left : Option RetireCursor → ℕ
clears_left (Some cl) = cond cl.new 1 (65537 - cl.row)
clears_left None = 0

-- what the code of a step counts on
pub record MayClear (u : ℕ) (cl : RetireCursor) (t : List ℕ) : Type 0 where
  pub size : length t ≡ table_cells
  pub used : u < row_cells
  pub at : cl.row < lists_from
  pub cell : cl.cell < lists_from
