-- The relation of no letter, of one more, and of all. Assumes nothing.
use Rattle.std.proofs.Common.{◌≡◌, ◌+◌, length, arith, sym, ap, subst, ◌∙◌}
use Rattle.relation.specs.declared.Relation.{Relation}
use Rattle.relation.specs.Relation.{states, compose}
use Rattle.relation.specs.Representation.{value}
use Rattle.call_judge.specs.TableRelationLaws.{Upto, upto-none, upto_next, upto_all}
use Rattle.call_judge.proofs.relation_by.Goals as goal

pub loop-c-init : goal.loop-c-init
loop-c-init c = subst (Upto states c.args.table.now c.args.word.now 0) (sym c.identity-r.ensures) (upto-none states c.args.table.now c.args.word.now c.requires)

pub loop-c-preserved : goal.loop-c-preserved
loop-c-preserved c =
    let l = c.loop-c in
    subst (Upto states c.args.table.now c.args.word.now (l.c-index + 1))
    (sym (c.compose-r.ensures ∙ ap (λ (r : Relation). compose states (value l.r) (value r)) c.read-letter.ensures))
    (upto_next states c.args.table.now c.args.word.now l.c-index (value l.r) l.invariant c.loop-c-test.true)

pub returns : goal.returns
returns c =
    let l = c.loop-c in
    let e : l.c-index ≡ length c.args.word.now = omega arith in
    upto_all states c.args.table.now c.args.word.now (value l.r) (rw e at l.invariant)
