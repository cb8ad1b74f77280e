-- No letter, and one letter more. Assumes nothing.
use Rattle.std.proofs.Common.{refl, arith, ◌∙◌}
use Rattle.call_gaps.specs.LineLaws.{state-none, state-next}
use Rattle.call_gaps.proofs.Tables.list_state.Goals as goal

pub loop-c-init : goal.loop-c-init
loop-c-init c = let t = c.args.self.now in (state-none t.counts t.taken t.used c.args.s _, omega arith, refl)

pub loop-c-preserved : goal.loop-c-preserved
loop-c-preserved c =
    let t = c.args.self.now in
    let l = c.loop-c in
    let e = c.list_pair-m.ensures in
    (state-next t.counts t.taken t.used c.args.s l.c _ _ _ l.invariant.0 e.0, omega (arith, e.1, l.invariant.1), e.2 ∙ l.invariant.2)
