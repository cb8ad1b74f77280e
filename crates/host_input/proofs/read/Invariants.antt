-- The invariant: `at`, the bytes that are handed over, is within the buffer, and counts what has come; the buffer has the front of that.
use Rattle.std.proofs.Common.{◌≤◌}
use Rattle.host_input.proofs.Reading.{Kept}
use Rattle.host_input.proofs.read.Given as goal

abbrev pub invariant-loop : goal.invariant-loop
invariant-loop g l = (l.at ≤ 10383) × Kept (g.R.Read.remaining l.initial.input) (g.R.Read.remaining l.input) l.at l.buffer
