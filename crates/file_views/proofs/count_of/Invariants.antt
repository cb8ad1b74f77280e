-- `count` is the number of records of the kind among the first `i`. Assumes nothing.
use Rattle.std.proofs.Common.{◌≡◌, ◌≤◌}
use Rattle.spec_file.specs.Records.{count_of}
use Rattle.file_views.proofs.count_of.Given as goal

abbrev pub invariant-loop-i : goal.invariant-loop-i
invariant-loop-i l = (l.count ≤ l.i) × (l.count ≡ count_of l.file l.kind l.i)
