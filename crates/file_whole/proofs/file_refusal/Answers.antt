-- Where the walk begins, one turn of it, and its two ends: the facts are those of proofs/Turn, at the step that the reader took.
use Rattle.std.proofs.Common.{ap, sym, arith}
use Rattle.std.proofs.lemmas.Result.{err_from_is_err_and}
use Rattle.spec_file.proofs.WalkLaws.{at-start, at_moved}
use Rattle.file_whole.proofs.Turn.{at_refused, at_end}
use Rattle.file_whole.proofs.file_refusal.Goals as goal

pub loop-r-init : goal.loop-r-init
loop-r-init c = (ap (λ b. b.now) c.new-reader.ensures.0, rw (c.begin-t.ensures, c.new-reader.ensures.1) (at-start c.args.file.now))

pub returns-in_err-r : goal.returns-in_err-r
returns-in_err-r c =
    let p = err_from_is_err_and c.from_residual.result c.from_residual.ensures.1 in
    let l = c.loop-r in
    rw (p.1, p.2) (at_refused c.args.file.now l.t.rules l.t.transitions l.reader.place l.invariant.1 _ (rw (sym l.invariant.0) c.in_err-r.ensures))

pub loop-r-smaller : goal.loop-r-smaller
loop-r-smaller c =
    let l = c.loop-r in
    let e = rw (c.in-Some.is, l.invariant.0) at c.in_ok-r.ensures in
    let m = at_moved c.args.file.now l.t.rules l.t.transitions l.reader.place l.invariant.1 _ _ (sym e) in
    omega (arith, m.inside, m.on)

pub loop-r-preserved : goal.loop-r-preserved
loop-r-preserved c =
    let l = c.loop-r in
    let e = rw (c.in-Some.is, l.invariant.0) at c.in_ok-r.ensures in
    let m = at_moved c.args.file.now l.t.rules l.t.transitions l.reader.place l.invariant.1 _ _ (sym e) in
    (l.invariant.0, rw (c.tallied-t.ensures.0, c.tallied-t.ensures.1) m.next)

pub returns-in_default : goal.returns-in_default
returns-in_default c =
    let l = c.loop-r in
    at_end c.args.file.now l.t.rules l.t.transitions l.reader.place l.invariant.1 (rw (c.in_default.is, l.invariant.0) at c.in_ok-r.ensures)
