-- The reader is on the file, and the tally has the counts of the records before it. The measure is how many records are left.
use Rattle.std.proofs.Common.{◌≡◌, ◌-◌}
use Rattle.spec_file.specs.Records.{record_count}
use Rattle.spec_file.proofs.WalkLaws.{At}
use Rattle.file_whole.proofs.file_refusal.Given as goal

abbrev pub invariant-loop-r : goal.invariant-loop-r
invariant-loop-r l = (l.reader.file.now ≡ l.file) × At l.file l.t.rules l.t.transitions l.reader.place

abbrev pub decreases-loop-r : goal.decreases-loop-r
decreases-loop-r l = record_count l.file - l.reader.place
