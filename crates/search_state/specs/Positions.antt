-- Places, and the rows that are read for a position. Definitions only. Assumes nothing.
use Rattle.std.specs.Prelude.{cond, ℕ, ltb}
use Rattle.search_state.specs.declared.Place.{Place}

-- the first place of rule r at these two positions
abbrev pub first_at : ℕ → ℕ → ℕ → Place
first_at r i k = record { rule = r; left = i; right = k }

-- the row of position i, if it is one of the first n, and else row 0
abbrev pub position_row : ℕ → ℕ → ℕ
position_row i n = cond (ltb i n) i 0
