-- No record, one record more, and all of them. Assumes nothing.
use Rattle.std.proofs.Common.{List, ℕ, ◌+◌, ◌*◌, length, replicate, refl, sym, ap, arith, ◌∙◌}
use Rattle.std.proofs.Math.Seq.{paste}
use Rattle.spec_unfold.specs.Moving.{widened, wider}
use Rattle.call_move.specs.FrontLaws.{wider-step, wider-fits, moved_none, moved_all}
use Rattle.call_move.specs.Fronts.{over}
use Rattle.call_move.proofs.put_wider.Goals as goal

pub loop-i-init : goal.loop-i-init
loop-i-init c = (refl, sym (ap (λ (p : List ℕ). over p c.args.out.now) (moved_none 8 16 wider c.args.file.now)))

pub loop-i-preserved : goal.loop-i-preserved
loop-i-preserved c =
    let l = c.loop-i in
    let s =
    c.put-in-loop-i.ensures ∙ ap (λ (d : List ℕ). paste d (l.i * 16 + 8) (replicate 8 0) 8) c.put.ensures
    ∙ wider-step c.args.file.now c.args.out.now l.out l.i (omega arith) l.invariant.1 in
    (ap length s ∙ wider-fits c.args.file.now c.args.out.now (l.i + 1) (omega arith) (omega arith), s)

pub returns : goal.returns
unfolding widened
returns c = c.loop-i.invariant.1 ∙ ap (λ (p : List ℕ). over p c.args.out.now) (moved_all 8 16 wider c.args.file.now c.loop-i.i (omega arith))
