-- The array is lent as a slice of its rows. Assumes nothing.
use Rattle.std.proofs.Common.{arith}
use Rattle.file_tables.specs.RuleLaws.{all-written}
use Rattle.file_tables.proofs.rule_table.Goals as goal

pub returns : goal.returns
returns c = all-written c.args.file.now c.args.table.now _ c.read_rules.result (omega arith) c.read_rules.ensures
