-- Looking for a row that covers a candidate: what it asks, what is known on the way, and what was found. Here c is the candidate, u the rows
-- used, t the table and w the words. Definitions only. Assumes nothing.
use Rattle.std.specs.Prelude.{◌≡◌, Bool, true, false, List, ℕ, ◌≤◌, ◌<◌, length, get_or}
use Rattle.relation.specs.Relation.{contained}
use Rattle.spec_order.specs.Candidates.{Candidate}
use Rattle.spec_order.specs.Journal.{Row}
use Rattle.spec_order.specs.Order.{dropped}
use Rattle.search_state.specs.Layout.{row_cells, heads, head_cell, lists_from}
use Rattle.search_links.specs.Covers.{live_at, Covering, Cell, Free}
use Rattle.search_cover.specs.Near.{is_near, RowsIn, Numbers, Among, Beside}
use Rattle.search_cover.specs.declared.CoverAnswer.{CoverAnswer}

-- the table leads along the live ones of these u rows
pub record Leads {E : Type 0} (rows : List (Row E)) (u : ℕ) (t : List ℕ) : Type 0 where
  pub covering : Covering rows t
  pub size : length rows ≡ u
  pub limit : u ≤ row_cells

-- ---- the end, whatever an effect is

module _ {E : Type 0} (below : E → E → Bool) (c : Candidate E) (rows : List (Row E)) (u : ℕ) (t : List ℕ) where
  -- at a row that covers, if one does, and else past the last linked row
  pub record Finds (l : CoverAnswer) : Type 0 where
    pub found : l.covers ≡ dropped below c rows
    pub row : l.covers ≡ true → l.row < u
    pub free : l.covers ≡ false → Free below c rows t l.cell l.larger

  -- and the slot is a cell of the hints
  pub record Found (l : CoverAnswer) : Type 0 where
    pub slot : (head_cell heads ≤ l.slot) × (l.slot < lists_from)
    pub finds : Finds l

-- ---- what is asked

-- there are rows along which the table leads, and which the words have
pub record MayLook (u : ℕ) (t w : List ℕ) : Type 0 where
  pub rows : List (Row ℕ)
  pub leads : Leads rows u t
  pub beside : Beside rows w

-- ---- along the links

-- the cell leads to row v, and the first n numbers have each live row of x before it
pub record Copies (x : ℕ) (rows : List (Row ℕ)) (t : List ℕ) (v cell n : ℕ) (w : List ℕ) : Type 0 where
  pub rows_in : RowsIn rows w
  pub numbers : Numbers x (length rows) n w
  pub few : n ≤ v
  pub all : (r : ℕ) → r < v → live_at x rows r ≡ true → Among w n r
  pub from : ℕ
  pub is : Cell x rows cell from
  pub at : get_or t cell 0 ≡ v

-- whatever the rows are: the words w' have the live ones of x, if w has the rows
abbrev pub Brings : ℕ → ℕ → List ℕ → List ℕ → List ℕ → Type 0
Brings u x t w w' = (rows : List (Row ℕ)) → Leads rows u t → Beside rows w → Beside rows w' × (is_near w' x ≡ true)

-- ---- what was found, in the words w'

pub record FoundIn (c : Candidate ℕ) (rows : List (Row ℕ)) (u : ℕ) (t w' : List ℕ) (r : CoverAnswer) : Type 0 where
  pub found : Found contained c rows u t r
  pub beside : Beside rows w'
  pub near : r.covers ≡ false → is_near w' c.head ≡ true

-- whatever the rows are: a candidate of x with the effect e, which a row covers if `known` says so
abbrev pub FindsIn : ℕ → ℕ → ℕ → Bool → ℕ → List ℕ → List ℕ → List ℕ → CoverAnswer → Type 0
FindsIn u x e known slot t w w' r =
    (rows : List (Row ℕ)) (c : Candidate ℕ) → c.head ≡ x → c.effect ≡ e → Leads rows u t → Beside rows w → (known ≡ true → dropped contained c rows ≡ true) → (head_cell heads ≤ slot) × (slot < lists_from)
    → FoundIn c rows u t w' r
