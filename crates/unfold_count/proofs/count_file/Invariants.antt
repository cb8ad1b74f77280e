-- The loop's invariant: the counts so far with what is left of the records give the counts of all, and they are small.
use Rattle.std.proofs.Common.{◌≡◌, ◌*◌, ◌≤◌, drop}
use Rattle.spec_records.specs.Blocks.{records_of}
use Rattle.unfold_count.specs.Counting.{with_records}
use Rattle.unfold_count.proofs.count_file.Given as goal

abbrev pub invariant-loop-i : goal.invariant-loop-i
invariant-loop-i l =
    (l.t.chains ≤ l.i * 11) × (l.t.rules ≤ l.i)
    × (with_records l.t (drop l.i (records_of 16 l.file)) ≡ with_records l.initial.t (records_of 16 l.file))
