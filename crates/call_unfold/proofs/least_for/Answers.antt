-- A turn takes `p` in by the test of its bit. Assumes nothing.
use Rattle.std.proofs.Common.{◌<◌, sym, ◌∙◌, arith}
use Rattle.spec_file.specs.Limits.{nonterminals}
use Rattle.spec_unfold.proofs.StartLaws.{above-none, above_in, above-out}
use Rattle.call_unfold.proofs.least_for.Goals as goal
use Rattle.call_unfold.proofs.least_for.Goals.{then-is_member, else-is_member}

pub loop-p-init : goal.loop-p-init
loop-p-init c = (above-none c.args.starts, omega arith)

pub loop-p-preserved : goal.loop-p-preserved
loop-p-preserved c =
    let a = c.args in
    let l = c.loop-p in
    let e = c.is_member.ensures in
    let low : l.p < nonterminals = omega arith in (
      elim c.if-is_member.branch [ then-is_member w ↦ w.least-is ∙ above_in a.starts l.p low (sym e ∙ w.if-is_member.true) | else-is_member w ↦ w.least-is ∙ l.invariant.0 ∙ above-out a.starts l.p low (sym e ∙ w.if-is_member.false) ],
      elim c.if-is_member.branch [ then-is_member w ↦ omega (arith, w.least-is) | else-is_member w ↦ omega (arith, w.least-is, l.invariant.1) ],
    )
