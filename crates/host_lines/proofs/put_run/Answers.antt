-- Whether the run was refused picks the same line in code and definition. Assumes nothing.
use Rattle.std.proofs.Common.{List, ℕ, ap, ◌∙◌}
use Rattle.host_page.specs.Page.{page, puts}
use Rattle.host_lines.specs.LineLaws.{run-refused, run-written}
use Rattle.host_lines.proofs.put_run.Goals as goal

pub returns-then-told-ne0 : goal.returns-then-told-ne0
returns-then-told-ne0 c =
    let a = c.args in
    c.put_refused.ensures ∙ ap (λ (xs : List ℕ). puts xs (page a.at a.text.now)) (run-refused a.told a.buffer.now c.if-told-ne0.true)

pub returns : goal.returns
returns c =
    let a = c.args in
    c.put_steps.ensures ∙ ap (λ (xs : List ℕ). puts xs (page a.at a.text.now)) (run-written a.told a.buffer.now c.if-told-ne0.false)
