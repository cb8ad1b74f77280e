use Rattle.std.proofs.Common.{sym, ◌∙◌, arith}
use Rattle.member_laws.specs.ByteLaws.{among-byte}
use Rattle.member_laws.specs.UnitLaws.{union-none, union-skip, union-next, union-all}
use Rattle.member_units.proofs.union.Goals as goal
use Rattle.member_units.proofs.union.Goals.{then-among, else-among}

pub loop-q-init : goal.loop-q-init
loop-q-init c = union-none c.args.entries.now c.args.set

pub loop-q-preserved : goal.loop-q-preserved
loop-q-preserved c =
    let l = c.loop-q in
    let e = sym (c.among.ensures ∙ among-byte c.args.set l.q) in
    elim c.if-among.branch [
      | then-among w ↦ rw w.out-is (union-next c.args.entries.now c.args.set l.q l.out l.invariant (e ∙ w.if-among.true))
      | else-among w ↦ rw w.out-is (union-skip c.args.entries.now c.args.set l.q l.out l.invariant (e ∙ w.if-among.false))
    ]

pub returns : goal.returns
returns c = union-all c.args.entries.now c.args.set c.loop-q.q c.loop-q.out (omega arith) c.loop-q.invariant
