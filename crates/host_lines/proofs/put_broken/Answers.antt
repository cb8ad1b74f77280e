-- Putting the three lines one after the other is putting their text in one list. Assumes nothing.
use Rattle.host_page.specs.PageLaws.{puts_then}
use Rattle.host_lines.specs.Lines.{broken_text}
use Rattle.host_lines.proofs.put_broken.Goals as goal

pub returns : goal.returns
unfolding broken_text
returns c = puts_then _ _ _ _ _ c.put_totals-second.ensures (puts_then _ _ _ _ _ c.put_row-third.ensures c.put_run.ensures)
