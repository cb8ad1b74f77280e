-- The journal: one row for each kept effect (document 01, "Working order"). Definitions only. Assumes nothing.
use Rattle.std.specs.Prelude.{Bool, ◌&&◌, ℕ, min}
use Rattle.std.proofs.Math.Dec.{eqb}
use Rattle.spec_order.specs.Algebra.{Forms}

pub record Row (E : Type 0) : Type 0 where
  -- the nonterminal (document 01: procedure)
  pub head : ℕ
  -- the number of its rule
  pub rule : ℕ
  pub effect : E
  -- the rows of the two symbols; absent where the symbol is a terminal or there is none
  pub left : ℕ
  pub right : ℕ
  -- the length of the word behind the row, capped
  pub len : ℕ
  -- the pass in which the row was added
  pub birth : ℕ
  -- the pass in which it retired; 0 while it is live
  pub retired : ℕ

-- a row number that names no row
abbrev pub absent : ℕ
absent = 65535

-- a length of 65,535 means that or more
unfoldable pub capped : ℕ → ℕ
capped k = min k 65535

-- a row that is never read
abbrev pub no_row : {E : Type 0} → Forms E → Row E
no_row M = record { head = 0; rule = 0; effect = M.of_empty; left = 0; right = 0; len = 0; birth = 0; retired = 0 }

module _ {E : Type 0} where
  unfoldable pub live : Row E → Bool
  live r = eqb r.retired 0

  -- a live row of the nonterminal x
  unfoldable pub live_of : ℕ → Row E → Bool
  unfolding live
  live_of x r = eqb r.head x && live r
