-- A place with two rows is the first; a rule that has none is skipped. Assumes nothing.
use mathlib.Core.Path.{sym, subst}
use native.Mathlib.Omega.{arith}
use native.Mathlib.Numerals.{add-one}
use Rattle.search_order.specs.PlaceLaws.{Skipped, opens-here, opens-end, skipped-next, both-open, one-is-end}
use Rattle.search_order.proofs.first_place.Goals as goal

pub returns-then-place : goal.returns-then-place
returns-then-place c =
    let a = c.args in
    let b = c.beginning-place in
    let n = both-open b.result.left b.result.right c.if-place.true in
    opens-here a.lists.now a.rules.now a.r _ c.loop-r.invariant c.loop-r-test.true b.result b.ensures.0 b.ensures.1 b.ensures.2 n.0 n.1

pub loop-r-preserved : goal.loop-r-preserved
loop-r-preserved c =
    let a = c.args in
    let b = c.beginning-place in
    let l = c.loop-r in
    subst (Skipped a.lists.now a.rules.now a.r) (sym (add-one l.r))
    (skipped-next a.lists.now a.rules.now a.r _ l.invariant c.loop-r-test.true b.result b.ensures.0 b.ensures.1 b.ensures.2 (one-is-end _ _ c.if-place.false))

pub returns : goal.returns
returns c =
    let a = c.args in
    rw c.first.ensures (opens-end a.lists.now a.rules.now a.r _ c.loop-r.invariant c.loop-r-test.false _ (omega arith) _ _)
