-- Every text fits, so all of it is at the front of the buffer. Assumes nothing.
use Rattle.std.proofs.Common.{arith, ◌≤◌, length, ap, ◌∙◌}
use Rattle.host_page.specs.Page.{Page}
use Rattle.host_page.specs.PageLaws.{puts-all}
use Rattle.host_lines.specs.Lines.{text_told}
use Rattle.host_report.proofs.put_whole.Goals as goal

pub returns : goal.returns
returns c =
    let a = c.args in
    let t = text_told a.told a.buffer.now in
    let l : length t ≤ length a.text.now = omega (arith, c.put_told.ensures.long, c.well_formed) in
    let all = c.put_told.ensures.put ∙ puts-all t a.text.now l in
    record { count = ap (λ (p : Page). p.place) all; bytes = ap (λ (p : Page). p.held) all; room = l }
