-- No key, one key more, and all of them. Assumes nothing.
use Rattle.std.proofs.Common.{◌+◌, length, refl, ap, arith, ◌∙◌}
use Rattle.call_unfold.specs.WriteLaws.{put-turn, put-fits}
use Rattle.call_unfold.proofs.put_rules.Goals as goal

pub loop-i-init : goal.loop-i-init
loop-i-init c = (refl, refl)

pub loop-i-preserved : goal.loop-i-preserved
loop-i-preserved c =
    let a = c.args in
    let l = c.loop-i in
    let e = c.put.ensures ∙ put-turn a.keys.now a.out.now l.out l.i (omega arith) _ c.record_of-r.ensures l.invariant.1 in
    (ap length e ∙ put-fits a.keys.now a.out.now (l.i + 1) (omega arith) (omega arith), e)
