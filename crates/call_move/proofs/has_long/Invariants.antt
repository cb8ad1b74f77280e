-- The records from `i` on decide as all of them do.
use Rattle.std.proofs.Common.{◌≡◌, drop}
use Rattle.spec_basics.specs.Elements.{any}
use Rattle.spec_records.specs.Blocks.{records_of}
use Rattle.spec_unfold.specs.Moving.{is_long, has_long}
use Rattle.call_move.proofs.has_long.Given as goal

abbrev pub invariant-loop-i : goal.invariant-loop-i
invariant-loop-i l = any is_long (drop l.i (records_of 16 l.file)) ≡ has_long l.file
