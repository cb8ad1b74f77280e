-- The lines that the code makes from the numbers of the check are its text. Assumes nothing.
use Rattle.std.proofs.Common.{List, ℕ, refl, subst}
use Rattle.spec_calls.specs.Printing.{program_room}
use Rattle.host_page.specs.Clauses.{Printed}
use Rattle.host_report.specs.TextLaws.{told_text}
use Rattle.host_report.proofs.render.Goals as goal

pub returns : goal.returns
returns c =
    subst (λ (xs : List ℕ). Printed xs c.args.text.now c.put_whole.new.text c.put_whole.result) (told_text _ _ _ _ _ _ _ program_room refl _ c.check_and_write-told.ensures) c.put_whole.ensures
