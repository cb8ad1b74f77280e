-- The letters below `c` are listed behind the first `n` entries, one entry at most for each, and the buffer has its length.
use Rattle.std.proofs.Common.{◌≡◌, ◌+◌, ◌≤◌, length}
use Rattle.call_gaps.specs.Sheets.{lines_in, state_into}
use Rattle.call_gaps.proofs.Tables.list_state.Given as goal

abbrev pub invariant-loop-c : goal.invariant-loop-c
invariant-loop-c l =
    (lines_in l.buffer l.m ≡ state_into l.self.counts l.self.taken l.self.used l.s l.c (lines_in l.initial.buffer l.n))
    × (l.m ≤ l.n + l.c) × (length l.buffer ≡ length l.initial.buffer)
