use Rattle.std.proofs.Common.{map}
use Rattle.spec_file.specs.Entries.{entry_of}
use Rattle.member_laws.specs.FillLaws.{row_zero, row_first, zeros}
use Rattle.member_table.proofs.fill_row.Goals as goal

pub loop-j-init : goal.loop-j-init
loop-j-init c =
    let a = c.args in
    let rules = map entry_of a.sentence.now.rules.now in
    let word = a.sentence.now.word.now in
    (row_zero rules word a.i _ (zeros 64), row_first rules word a.i a.starts.now a.table.now c.requires.filled)
