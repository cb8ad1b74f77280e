-- A result written over the front of a lent output. Definitions only. Assumes nothing.
use Rattle.std.specs.Prelude.{List, ◌++◌, ℕ, length, drop}

-- the bytes of p, and then those of old that stand behind them
abbrev pub over : List ℕ → List ℕ → List ℕ
over p old = p ++ drop (length p) old
