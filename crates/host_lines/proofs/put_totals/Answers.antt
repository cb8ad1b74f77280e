-- Putting the word and then the three numbers is putting them in one list. Assumes nothing.
use Rattle.host_lines.specs.Lines.{totals_line}
use Rattle.host_lines.specs.LineLaws.{puts_word}
use Rattle.host_lines.proofs.put_totals.Goals as goal

pub returns : goal.returns
unfolding totals_line
returns c = puts_word _ _ _ _ _ c.put_all-end.ensures c.put_three.ensures
