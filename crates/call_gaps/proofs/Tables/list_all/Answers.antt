-- No state, and one state more. Assumes nothing.
use Rattle.std.proofs.Common.{refl, arith, ◌∙◌}
use Rattle.call_gaps.specs.LineLaws.{all_none, all-next}
use Rattle.call_gaps.proofs.Tables.list_all.Goals as goal

pub loop-s-init : goal.loop-s-init
loop-s-init c = let t = c.args.self.now in (all_none t.counts t.taken t.used _, omega arith, refl)

pub loop-s-preserved : goal.loop-s-preserved
loop-s-preserved c =
    let t = c.args.self.now in
    let l = c.loop-s in
    let e = c.list_state-n.ensures in
    (all-next t.counts t.taken t.used l.s _ _ _ l.invariant.0 e.0, omega (arith, e.1, l.invariant.1), e.2 ∙ l.invariant.2)
