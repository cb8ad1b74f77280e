-- Where the walk begins, a record that a test refuses, one that passes, and the end. Assumes nothing.
use Rattle.std.proofs.Common.{arith, sym, ◌∙◌}
use Rattle.std.proofs.lemmas.Result.{err_from_is_err_and}
use Rattle.spec_file.specs.Forms.{sixteen}
use Rattle.spec_file.proofs.RefusalLaws.{fault-some}
use Rattle.file_wide.specs.WalkLaws.{at-start, at_next, walk_refused, walk_end}
use Rattle.file_wide.proofs.records_refusal.Goals as goal

pub loop-i-init : goal.loop-i-init
loop-i-init c = at-start sixteen c.args.file.now

pub returns-in_err-of_record : goal.returns-in_err-of_record
returns-in_err-of_record c =
    let p = err_from_is_err_and c.from_residual.result c.from_residual.ensures.1 in
    let l = c.loop-i in
    let e = c.in_err-of_record.ensures in
    rw (p.1, p.2, e.1)
    (walk_refused sixteen c.args.file.now l.i l.rules l.transitions l.invariant _ (omega arith) (fault-some c.in_err-of_record.field-0.0.fault) (e.0 ∙ c.fault_by.ensures))

pub loop-i-preserved : goal.loop-i-preserved
loop-i-preserved c =
    let l = c.loop-i in
    let a = c.of_kind-rules in
    let b = c.of_kind-transitions in
    at_next sixteen c.args.file.now l.i l.rules l.transitions l.invariant a.result b.result (omega arith)
    (sym c.fault_by.ensures ∙ c.in_ok-of_record.ensures) a.ensures.0 a.ensures.1 b.ensures.0 b.ensures.1

pub returns : goal.returns
returns c =
    let l = c.loop-i in
    walk_end sixteen c.args.file.now l.i l.rules l.transitions l.invariant (omega arith)
