-- Putting the three numbers, and the end of the line, is putting them in one list. Assumes nothing.
use Rattle.host_lines.specs.Lines.{row_line}
use Rattle.host_lines.specs.LineLaws.{puts-end, puts-blank, puts_first}
use Rattle.host_lines.proofs.put_row.Goals as goal

pub returns : goal.returns
unfolding row_line
returns c =
    puts_first _ _ _ _ _ c.put_decimal-row.ensures
    (puts-blank _ _ _ _ _ _ c.put_blanked-pairs.ensures (puts-blank _ _ _ _ _ _ c.put_blanked-length.ensures (puts-end _ _ c.put.ensures)))
