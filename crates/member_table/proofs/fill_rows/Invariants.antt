-- The loop's invariant: the stretches that begin after step i are filled.
use Rattle.std.proofs.Common.{◌+◌, map}
use Rattle.spec_file.specs.Entries.{entry_of}
use Rattle.member_laws.specs.Filling.{DoneFrom, Filled}
use Rattle.member_table.proofs.fill_rows.Given as goal

abbrev pub invariant-loop-i : goal.invariant-loop-i
invariant-loop-i l = Filled (map entry_of l.sentence.rules.now) l.sentence.word.now (DoneFrom (l.i + 1)) l.starts l.table
