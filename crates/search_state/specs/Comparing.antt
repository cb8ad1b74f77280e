-- A row beside a candidate, whatever an effect is: which rows cover it, and what is stored in the place of a row when it becomes one; `below`
-- tells which effects are contained or equal. Definitions only. Assumes nothing.
use Rattle.std.specs.Prelude.{Bool, ◌&&◌, cond, ℕ}
use Rattle.spec_order.specs.Candidates.{Candidate}
use Rattle.spec_order.specs.Journal.{Row, live_of}
use Rattle.spec_order.specs.Order.{born}

module _ {E : Type 0} (below : E → E → Bool) where
  -- a live row of the candidate's nonterminal whose effect is below the candidate's
  unfoldable pub is_below : Candidate E → Row E → Bool
  is_below c r = live_of c.head r && below r.effect c.effect

module _ {E : Type 0} where
  -- the row, retired in pass k
  abbrev pub retired_in : ℕ → Row E → Row E
  retired_in k r =
      record { head = r.head; rule = r.rule; effect = r.effect; left = r.left; right = r.right; len = r.len; birth = r.birth; retired = k }

  -- what is stored in the place of row r, in pass k for the candidate c: the new row, or r, retired if it is larger
  abbrev pub replaced_by : ℕ → Candidate E → Bool → Bool → Row E → Row E
  replaced_by k c new larger r = cond new (born k c) (cond larger (retired_in k r) r)
