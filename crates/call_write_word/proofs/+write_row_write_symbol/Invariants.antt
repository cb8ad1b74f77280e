-- The measure of writing row i is 2 * i + 1, and of a symbol that hands over to row p one more than that of row p: it falls, since a row points
-- to lower rows only. Assumes nothing.
use Rattle.std.proofs.Common.{◌+◌}
use Rattle.call_write_word.proofs.Handing.{rank}
use Rattle.call_write_word.proofs.+write_row_write_symbol.Given as goal

abbrev pub decreases-write_row : goal.decreases-write_row
decreases-write_row l = l.row + l.row + 1

abbrev pub decreases-write_symbol : goal.decreases-write_symbol
decreases-write_symbol l = rank l.x
