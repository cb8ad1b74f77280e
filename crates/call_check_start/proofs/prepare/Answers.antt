-- Where nothing refuses, the tables are the file's, no row is linked or near, and the first pass begins. Assumes nothing.
use Rattle.std.proofs.lemmas.Result.{err_from_is_err_and}
use Rattle.spec_calls.specs.Rows.{settings_of}
use Rattle.call_check_start.proofs.Started.{may-open, starts}
use Rattle.call_check_start.proofs.prepare.Goals as goal

pub open_pass-at-requires : goal.open_pass-at-requires
open_pass-at-requires c =
    let a = c.args in
    may-open a.file.now (settings_of a.rows a.options) _ _ _ _ c.rule_table-n.ensures _ c.unlink_all.ensures _ c.wait-before.ensures

pub returns-in_err-refusal_for : goal.returns-in_err-refusal_for
returns-in_err-refusal_for c =
    let p = err_from_is_err_and c.from_residual.result c.from_residual.ensures.1 in
    rw (p.1, p.2) c.in_err-refusal_for.ensures

pub returns : goal.returns
returns c =
    let a = c.args in
    starts a.file.now (settings_of a.rows a.options) _ c.letter_relations.ensures _ c.final_states-finals.ensures _ _ _ c.rule_table-n.ensures _ _ c.unlink_all.ensures a.near.now _ c.requires.1 c.forget.ensures _ c.wait-before.ensures _
    c.open_pass-at.ensures _ c.all_linked-nonempty.ensures _ c.stand_or_finish.ensures c.in_ok-refusal_for.ensures
