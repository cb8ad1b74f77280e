-- No more steps than the buffer has, and the end of the line. Assumes nothing.
use Rattle.std.proofs.Common.{ℕ, List, ap, ◌∙◌}
use Rattle.spec_calls.specs.Printing.{numbers_line}
use Rattle.host_page.specs.Page.{page, puts}
use Rattle.host_lines.specs.LineLaws.{puts-line, take-least}
use Rattle.host_lines.proofs.put_steps.Goals as goal

pub returns : goal.returns
returns c =
    let a = c.args in
    let few = take-least a.n _ a.buffer.now c.min-m.ensures in
    puts-line _ _ _ _ c.put_separated-end.ensures c.put.ensures ∙ ap (λ (xs : List ℕ). puts (numbers_line xs) (page a.at a.text.now)) few
