-- The row that the answer names is read, and what is told of both is what the check ensures. Assumes nothing.
use Rattle.std.proofs.Common.{ap, ◌∙◌, get_or}
use Rattle.relation.specs.Representation.{none}
use Rattle.spec_calls.specs.Rows.{blank}
use Rattle.spec_calls.specs.declared.Options.{Options}
use Rattle.host_result.specs.declared.RowToWrite.{RowToWrite}
use Rattle.bolfrega.specs.OwnRows.{checks-rows}
use Rattle.bolfrega.proofs.bolfrega_check_rows.Goals as goal

pub returns : goal.returns
unfolding none
returns c =
    let o : Options = record { budget = c.args.budget; starts = c.args.starts } in
    let js = c.check_in-checked.new.journal in
    checks-rows c.args.file.now o c.args.journal.now js c.check_in-checked.auto.journal c.check_in-checked.result c.check_in-checked.ensures
    c.row_at-row.result (c.row_at-row.ensures ∙ ap (λ (z : RowToWrite). get_or js z.row blank) c.row_to_write-named.ensures) c.tell_rows.result c.tell_rows.new.details c.tell_rows.ensures
