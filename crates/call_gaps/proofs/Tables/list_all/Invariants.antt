-- The states below `s` are listed, 120 entries at most for each, and the buffer has its length.
use Rattle.std.proofs.Common.{◌≡◌, ◌*◌, ◌≤◌, length}
use Rattle.spec_language.specs.Remarks.{first_remark}
use Rattle.call_gaps.specs.Sheets.{lines_in, all_into}
use Rattle.call_gaps.proofs.Tables.list_all.Given as goal

abbrev pub invariant-loop-s : goal.invariant-loop-s
invariant-loop-s l =
    (lines_in l.buffer l.n ≡ all_into l.self.counts l.self.taken l.self.used l.s (lines_in l.initial.buffer 0))
    × (l.n ≤ l.s * first_remark) × (length l.buffer ≡ length l.initial.buffer)
