-- Each turn measures one list more, and after the last all are. Assumes nothing.
use Rattle.std.proofs.Common.{◌≡◌, ℕ, subst, arith}
use Rattle.spec_file.specs.Limits.{nonterminals}
use Rattle.search_spans.specs.SpanLaws.{MeasuresTo, to_none, to-next, to-all}
use Rattle.search_spans.proofs.measure_all.Goals as goal

pub loop-x-init : goal.loop-x-init
loop-x-init c = to_none c.args.old c.args.lists.now

pub loop-x-preserved : goal.loop-x-preserved
loop-x-preserved c =
    let l = c.loop-x in
    to-next c.args.old l.x c.args.lists.now l.lists _ (omega arith) l.invariant c.measure_one.ensures

pub returns : goal.returns
returns c =
    let a = c.args in
    let l = c.loop-x in
    let e : l.x ≡ nonterminals = omega arith in
    to-all a.old a.lists.now l.lists (subst (λ (n : ℕ). MeasuresTo a.old n a.lists.now l.lists) e l.invariant)
