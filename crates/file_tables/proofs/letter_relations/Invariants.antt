-- `table` is that of the transitions among the first `i` records.
use Rattle.std.proofs.Common.{◌≡◌}
use Rattle.relation.specs.Relation.{states}
use Rattle.spec_file.specs.Records.{transition_kind}
use Rattle.spec_file.specs.Views.{transition_of, collect}
use Rattle.file_tables.specs.Tables.{letter_table}
use Rattle.file_tables.proofs.letter_relations.Given as goal

abbrev pub invariant-loop-i : goal.invariant-loop-i
invariant-loop-i l = l.table ≡ letter_table states (collect transition_kind transition_of l.file l.i 0)
