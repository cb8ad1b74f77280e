use Rattle.std.proofs.Common.{sym, ◌∙◌, arith}
use Rattle.member_laws.specs.ByteLaws.{among-byte}
use Rattle.member_laws.specs.SpanLaws.{marks-none, marks-skip, marks-next, marks-all}
use Rattle.member_spans.proofs.mark_all.Goals as goal
use Rattle.member_spans.proofs.mark_all.Goals.{then-among, else-among}

pub loop-p-init : goal.loop-p-init
loop-p-init c = let a = c.args in marks-none a.base a.set a.place a.cells.now

pub loop-p-preserved : goal.loop-p-preserved
loop-p-preserved c =
    let a = c.args in
    let l = c.loop-p in
    let e = sym (c.among.ensures ∙ among-byte a.set l.p) in
    elim c.if-among.branch [
      | then-among w ↦ rw (w.cells-is, w.mark.ensures) (marks-next a.base a.set a.place a.cells.now l.p l.cells l.invariant (omega arith) (e ∙ w.if-among.true))
      | else-among w ↦ rw w.cells-is (marks-skip a.base a.set a.place a.cells.now l.p l.cells l.invariant (e ∙ w.if-among.false))
    ]

pub returns : goal.returns
returns c = let a = c.args in marks-all a.base a.set a.place a.cells.now c.loop-p.p c.loop-p.cells (omega arith) c.loop-p.invariant
