-- The tables are right, so what is written by them is the list. Assumes nothing.
use Rattle.std.proofs.Common.{◌∙◌}
use Rattle.spec_file.proofs.Valid.{valid}
use Rattle.call_gaps.specs.SheetLaws.{sheet-bytes}
use Rattle.call_gaps.specs.LineLaws.{list-into}
use Rattle.call_gaps.proofs.fill.Goals as goal

pub read-requires-clause-few : goal.read-requires-clause-few
read-requires-clause-few c = (valid c.args.file.now c.requires.0).1

pub list_all-requires : goal.list_all-requires
list_all-requires c = (sheet-bytes c.args.file.now _ _ _ c.requires.0 c.read.ensures, c.requires.1)

pub returns : goal.returns
returns c = c.list_all.ensures ∙ list-into c.args.file.now _ _ _ c.args.buffer.now c.read.ensures c.requires.1
