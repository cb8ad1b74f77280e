-- What each test refuses with, and what is written where none does: by the laws of proofs/Written. Assumes nothing.
use Rattle.std.proofs.Common.{◌≡◌, sym, ap, ◌∙◌, List, map, ℕ, length}
use Rattle.std.proofs.lemmas.List.{length-map}
use Rattle.std.proofs.lemmas.Result.{err_from_is_err_and}
use Rattle.spec_file.specs.Refusals.{Refusal, first_of}
use Rattle.spec_calls.specs.Checking.{check_refusals}
use Rattle.spec_calls.specs.Rows.{row_of}
use Rattle.spec_calls.specs.declared.Row.{Row as LentRow}
use Rattle.call_refusals.proofs.Refusals.{none-refused}
use Rattle.call_refusals.specs.RuleLaws.{rules-in}
use Rattle.call_write.proofs.Written.{writes_refused, first-start, first-counts, first-rows, first-room, ready_for, writes}
use Rattle.call_write.proofs.write.Goals as goal

-- what was asked of the lent rows, said of the rows as the working order has them
on_rows : (bs : List ℕ) (J : List LentRow) {r : Refusal} → r ≡ first_of (check_refusals bs (length J)) → r ≡ first_of (check_refusals bs (length (map row_of J)))
on_rows bs J e = e ∙ ap (λ (k : ℕ). first_of (check_refusals bs k)) (sym (length-map J row_of))

pub returns-in_err-refusal_for : goal.returns-in_err-refusal_for
returns-in_err-refusal_for c =
    let a = c.args in
    let rows = map row_of a.journal.now in
    let p = err_from_is_err_and c.from_residual.result c.from_residual.ensures.1 in
    let e = on_rows a.file.now a.journal.now c.in_err-refusal_for.ensures in
    rw (p.1, p.2) (writes_refused a.file.now rows a.used a.row a.buffer.now _ (first-start a.file.now rows a.used a.row (length a.buffer.now) _ e))

pub returns-in_err-refuse_if : goal.returns-in_err-refuse_if
returns-in_err-refuse_if c =
    let a = c.args in
    let rows = map row_of a.journal.now in
    let p = err_from_is_err_and c.from_residual-in_err-refuse_if.result c.from_residual-in_err-refuse_if.ensures.1 in
    let s = on_rows a.file.now a.journal.now c.in_ok-refusal_for.ensures in
    rw (p.1, p.2, c.in_err-refuse_if.ensures.1)
    (writes_refused a.file.now rows a.used a.row a.buffer.now _ (first-counts a.file.now rows a.used a.row s (length a.buffer.now) (rw (length-map a.journal.now row_of) c.in_err-refuse_if.ensures.0)))

pub returns-in_err-refuse_if-2 : goal.returns-in_err-refuse_if-2
returns-in_err-refuse_if-2 c =
    let a = c.args in
    let rows = map row_of a.journal.now in
    let p = err_from_is_err_and c.from_residual-in_err-refuse_if-2.result c.from_residual-in_err-refuse_if-2.ensures.1 in
    let s = on_rows a.file.now a.journal.now c.in_ok-refusal_for.ensures in
    let known = rules-in a.file.now (none-refused a.file.now (length a.journal.now) c.in_ok-refusal_for.ensures).0 _ _ _ c.rule_table-n.ensures in
    let f = c.rows_fit-fit in
    rw (p.1, p.2, c.in_err-refuse_if-2.ensures.1)
    (writes_refused a.file.now rows a.used a.row a.buffer.now _
    (first-rows a.file.now rows a.used a.row s (rw (length-map a.journal.now row_of) c.in_ok-refuse_if.ensures) _ known f.result.fits f.ensures.0 (length a.buffer.now) c.in_err-refuse_if-2.ensures.0))

pub returns-in_err-refuse_if-3 : goal.returns-in_err-refuse_if-3
returns-in_err-refuse_if-3 c =
    let a = c.args in
    let rows = map row_of a.journal.now in
    let p = err_from_is_err_and c.from_residual-in_err-refuse_if-3.result c.from_residual-in_err-refuse_if-3.ensures.1 in
    let s = on_rows a.file.now a.journal.now c.in_ok-refusal_for.ensures in
    let known = rules-in a.file.now (none-refused a.file.now (length a.journal.now) c.in_ok-refusal_for.ensures).0 _ _ _ c.rule_table-n.ensures in
    let f = c.rows_fit-fit in
    rw (p.1, p.2, c.in_err-refuse_if-3.ensures.1)
    (writes_refused a.file.now rows a.used a.row a.buffer.now _
    (first-room a.file.now rows a.used a.row s (rw (length-map a.journal.now row_of) c.in_ok-refuse_if.ensures) _ known f.result.fits f.ensures.0 c.in_ok-refuse_if-2.ensures f.result.len f.ensures.1 (length a.buffer.now) (sym c.too_long.ensures ∙ c.in_err-refuse_if-3.ensures.0)))

pub write_symbol-requires : goal.write_symbol-requires
write_symbol-requires c =
    let a = c.args in
    let rows = map row_of a.journal.now in
    let s = on_rows a.file.now a.journal.now c.in_ok-refusal_for.ensures in
    let known = rules-in a.file.now (none-refused a.file.now (length a.journal.now) c.in_ok-refusal_for.ensures).0 _ _ _ c.rule_table-n.ensures in
    let f = c.rows_fit-fit in
    ready_for a.file.now rows a.used a.row s (rw (length-map a.journal.now row_of) c.in_ok-refuse_if.ensures) _ known f.result.fits f.ensures.0 c.in_ok-refuse_if-2.ensures f.result.len f.ensures.1 a.buffer.now (sym c.too_long.ensures ∙ c.in_ok-refuse_if-3.ensures)

pub returns : goal.returns
returns c =
    let a = c.args in
    let rows = map row_of a.journal.now in
    let s = on_rows a.file.now a.journal.now c.in_ok-refusal_for.ensures in
    let known = rules-in a.file.now (none-refused a.file.now (length a.journal.now) c.in_ok-refusal_for.ensures).0 _ _ _ c.rule_table-n.ensures in
    let f = c.rows_fit-fit in
    writes a.file.now rows a.used a.row s (rw (length-map a.journal.now row_of) c.in_ok-refuse_if.ensures) _ known f.result.fits f.ensures.0 c.in_ok-refuse_if-2.ensures f.result.len f.ensures.1 a.buffer.now (sym c.too_long.ensures ∙ c.in_ok-refuse_if-3.ensures)
    c.write_symbol.new.buffer c.write_symbol.result c.write_symbol.ensures
