-- The loop's invariant: the stretches from step i on that end before step j are done, and their ends are known.
use Rattle.std.proofs.Common.{map}
use Rattle.spec_file.specs.Entries.{entry_of}
use Rattle.member_laws.specs.Filling.{Done, RowKnown, Filled}
use Rattle.member_table.proofs.fill_row.Given as goal

abbrev pub invariant-loop-j : goal.invariant-loop-j
invariant-loop-j l =
    RowKnown (map entry_of l.sentence.rules.now) l.sentence.word.now l.i l.j l.ends
    × Filled (map entry_of l.sentence.rules.now) l.sentence.word.now (Done l.i l.j) l.starts l.table
