-- The four bytes that a rule uses. Assumes nothing.
use Rattle.std.proofs.Common.{sym, ap, ◌∙◌, [], ◌∷◌}
use Rattle.spec_file.specs.declared.Rule.{Rule}
use Rattle.spec_file.specs.Entries.{rule_in}
use Rattle.spec_file.proofs.EntryLaws.{whole}
use Rattle.file_tables.proofs.row_at.Goals as goal

pub returns : goal.returns
returns c =
    ap (λ (r : Rule). r.head ∷ r.size ∷ r.first ∷ r.second ∷ []) (c.rule_at-r.ensures ∙ sym (ap rule_in (whole c.args.file.now c.args.i c.requires)))
