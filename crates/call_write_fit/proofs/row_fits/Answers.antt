-- A row fits the rules. Assumes nothing.
use Rattle.std.proofs.Common.{◌≡◌, ℕ, ◌≤◌, ◌<◌, List, [], length, get_or, ap, ◌∙◌, rules}
use Rattle.spec_file.specs.Entries.{entry_of}
use Rattle.spec_calls.specs.Rows.{row_of}
use Rattle.call_write_fit.specs.ByValue.{body_by}
use Rattle.call_write_fit.proofs.Views.{fits-none, fits-rule}
use Rattle.call_write_fit.proofs.row_fits.Goals as goal

pub returns-in-Some : goal.returns-in-Some
returns-in-Some c =
    let a = c.args in
    let inside : a.row.rule < length a.rules.now = search rules in
    let found : c.in-Some.rule.now ≡ get_or a.rules.now a.row.rule [] = search rules in
    rw (c.from.ensures, found)
    (fits-rule a.rules.now a.i (row_of a.row) (row_of a.left) (row_of a.right) inside c.body_fits.result
    (c.body_fits.ensures ∙ ap (λ (r : List ℕ). body_by a.i (entry_of r).body (row_of a.row) (row_of a.left) (row_of a.right)) found))

pub returns-in-None : goal.returns-in-None
returns-in-None c =
    let a = c.args in
    let outside : length a.rules.now ≤ a.row.rule = search rules in
    fits-none a.rules.now a.i (row_of a.row) (row_of a.left) (row_of a.right) outside
