-- No record, one record more, and all of them. Assumes nothing.
use Rattle.std.proofs.Common.{◌≡◌, ℕ, ◌/◌, length, subst, arith}
use Rattle.call_gaps.specs.Sheets.{Sheet, up_to_record}
use Rattle.call_gaps.specs.SheetLaws.{sheet-start, low-start, sheet-next, taken-low, sheet-whole}
use Rattle.call_gaps.proofs.Tables.read.Goals as goal

pub loop-i-init : goal.loop-i-init
loop-i-init c = let e = c.requires.empty in (sheet-start _ _ _ _ _ e.0 e.1 e.2 c.mark.ensures, low-start _ e.0)

pub loop-i-preserved : goal.loop-i-preserved
loop-i-preserved c =
    let l = c.loop-i in
    let f = c.args.file.now in
    let e = c.take.ensures in
    (sheet-next f l.i l.self.counts l.self.taken l.self.used l.invariant.0 _ _ _ e, taken-low f l.i l.self.counts _ l.self.taken l.self.used _ _ e l.invariant.1)

pub returns : goal.returns
returns c =
    let t = c.loop-i.self in
    let f = c.args.file.now in
    let e : c.loop-i.i ≡ length f / 8 = omega arith in
    sheet-whole f t.counts t.taken t.used (subst (λ (i : ℕ). Sheet (up_to_record f i) t.counts t.taken t.used) e c.loop-i.invariant.0)
