-- The table has every (a, a) at the remarks below `c`, and no other pair.
use Rattle.std.proofs.Common.{◌≡◌}
use Rattle.relation.specs.Relation.{states}
use Rattle.relation.specs.Stored.{relations_of}
use Rattle.spec_file.specs.Limits.{terminals}
use Rattle.file_tables.specs.Tables.{remarks_below}
use Rattle.file_tables.proofs.without_transitions.Given as goal

abbrev pub invariant-loop-c : goal.invariant-loop-c
invariant-loop-c l = l.table ≡ relations_of (remarks_below states l.c) terminals
