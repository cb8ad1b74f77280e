-- The tables say what the automaton of the records before `i` has, and no count exceeds `i`.
use Rattle.std.proofs.Common.{ℕ, ◌≤◌, get_or}
use Rattle.call_gaps.specs.Sheets.{Sheet, up_to_record}
use Rattle.call_gaps.proofs.Tables.read.Given as goal

abbrev pub invariant-loop-i : goal.invariant-loop-i
invariant-loop-i l = Sheet (up_to_record l.file l.i) l.self.counts l.self.taken l.self.used × ((k : ℕ) → get_or l.self.counts k 0 ≤ l.i)
