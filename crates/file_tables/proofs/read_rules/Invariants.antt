-- The rules among the first `i` records are stored, up to the limit.
use Rattle.std.proofs.Common.{◌≡◌, length}
use Rattle.spec_file.specs.Records.{rule_kind}
use Rattle.spec_file.specs.Views.{collect}
use Rattle.file_tables.specs.Tables.{rule_bytes_in, rows_in, written}
use Rattle.file_tables.proofs.read_rules.Given as goal

abbrev pub invariant-loop-i : goal.invariant-loop-i
invariant-loop-i l =
    (length l.rows ≡ length l.initial.rows) × (rows_in l.rows l.n ≡ written l.initial.rows (collect rule_kind rule_bytes_in l.file l.i 0))
