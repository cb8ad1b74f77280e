-- The pointer of a symbol fits, by the tests that led to each answer. Assumes nothing.
use Rattle.std.proofs.Common.{rules}
use Rattle.call_write_fit.specs.ByValue.{pointer_by}
use Rattle.call_write_fit.proofs.pointer_fits.Goals as goal

pub returns-then-symbol-lt-TERMINALS : goal.returns-then-symbol-lt-TERMINALS
unfolding pointer_by
returns-then-symbol-lt-TERMINALS c = search rules

pub returns-then-p-i : goal.returns-then-p-i
unfolding pointer_by
returns-then-p-i c = search rules

pub returns : goal.returns
unfolding pointer_by
returns c = search rules
