-- The search may run from where `prepare` started it; how it started and how it ended make the answer. Assumes nothing.
use Rattle.std.proofs.Common.{refl}
use Rattle.std.proofs.lemmas.Result.{err_from_is_err_and}
use Rattle.call_check.specs.Clauses.{settings_over}
use Rattle.call_check.proofs.Answered.{refuses, answered-so}
use Rattle.call_check_start.proofs.Started.{may-run, may-look}
use Rattle.call_check.proofs.check_in.Goals as goal

pub returns-in_err-state : goal.returns-in_err-state
returns-in_err-state c =
    let a = c.args in
    let p = err_from_is_err_and c.from_residual.result c.from_residual.ensures.1 in
    rw (p.1, p.2) (refuses a.file.now a.options a.journal.now _ c.in_err-state.ensures)

pub run-last-requires : goal.run-last-requires
run-last-requires c =
    let bs = c.args.file.now in
    let J = c.args.journal.now in
    let s = c.prepare.new in (
      may-run bs (settings_over c.args.options J) s.letters s.rules s.table s.near c.in_ok-state.state c.in_ok-state.ensures J refl,
      may-look bs (settings_over c.args.options J) s.letters s.rules s.table s.near c.in_ok-state.state c.in_ok-state.ensures J refl,
    )

pub returns : goal.returns
returns c =
    let a = c.args in
    let s = c.prepare.new in
    rw c.answer_of.ensures
    (answered-so a.file.now a.options a.journal.now s.letters s.rules s.table s.near c.run-last.new.table c.in_ok-state.state c.in_ok-state.ensures c.run-last.new.journal c.run-last.result c.run-last.ensures)
