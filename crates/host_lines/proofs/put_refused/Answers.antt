-- Putting the word, the number and the end of the line is putting them in one list. Assumes nothing.
use Rattle.spec_calls.specs.Printing.{refused_line}
use Rattle.host_lines.specs.LineLaws.{puts-end, puts-blank, puts_word}
use Rattle.host_lines.proofs.put_refused.Goals as goal

pub returns : goal.returns
unfolding refused_line
returns c = puts_word _ _ _ _ _ c.put_all-word.ensures (puts-blank _ _ _ _ _ _ c.put_blanked-end.ensures (puts-end _ _ c.put.ensures))
