-- Putting the numbers one after the other, and the end of the line, is putting them in one list. Assumes nothing.
use Rattle.host_lines.specs.LineLaws.{puts-end, puts-blank}
use Rattle.host_lines.proofs.put_three.Goals as goal

pub returns : goal.returns
returns c =
    puts-blank _ _ _ _ _ _ c.put_blanked-first.ensures
    (puts-blank _ _ _ _ _ _ c.put_blanked-second.ensures (puts-blank _ _ _ _ _ _ c.put_blanked-third.ensures (puts-end _ _ c.put.ensures)))
