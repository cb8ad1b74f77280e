-- The row that is read for a position is that row, or one that every journal has. Assumes nothing.
use Rattle.std.specs.Prelude.{◌≡◌, refl, Bool, true, false, cond, ℕ, ◌≤◌, ◌<◌, ltb}
use Rattle.std.proofs.Common.{ap, arith, ltb-true, lt-ltb}
use Rattle.search_state.specs.Positions.{position_row}

pub position-row : (i n : ℕ) → i < n → position_row i n ≡ i
position-row i n h = ap (λ (b : Bool). cond b i 0) (lt-ltb i n h)

-- the row of a position is one of the m rows
pub position-inside : (i n m : ℕ) → n ≤ m → 0 < m → position_row i n < m
position-inside i n m h z = by (ltb i n) refl
  where
    by : (b : Bool) → ltb i n ≡ b → cond b i 0 < m
    by true e = omega (arith, ltb-true i n e, h)
    by false e = z
