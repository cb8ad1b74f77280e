-- By the record's kind. Assumes nothing.
use Rattle.std.proofs.Common.{sym, ap, ◌∙◌}
use Rattle.relation.specs.Relation.{states}
use Rattle.spec_file.specs.Views.{final_of}
use Rattle.spec_file.proofs.EntryLaws.{whole}
use Rattle.file_tables.specs.Tables.{with_state}
use Rattle.file_tables.proofs.read_final.Goals as goal

pub returns : goal.returns
returns c =
    let a = c.args in
    rw (sym c.of_kind.ensures ∙ c.if-not-of_kind.false)
    (c.with_state.ensures ∙ ap (with_state states a.mask) (c.final_at.ensures ∙ sym (ap final_of (whole a.file.now a.i c.requires))))
