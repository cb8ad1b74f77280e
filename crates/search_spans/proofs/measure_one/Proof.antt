-- `search_spans::measure_one` meets its contract, by whether the list begins with two old rows. Assumes nothing.
use mathlib.Core.Path.{sym, subst}
use Prim.Native.Nat.{ℕ, ◌<◌}
use native.Mathlib.Omega.{arith}
use lib.ListN.{length-set}
use borrow.Author.Rules.{rules}
use Rattle.search_state.specs.Layout.{step_cell}
use Rattle.search_order.specs.Lists.{after_in}
use Rattle.search_spans.specs.Spans.{Along}
use Rattle.search_spans.specs.SpanLaws.{along-below, one_none, one-noted, row-after}
use Rattle.search_spans.proofs.measure_one.Statement.{statement}
use Rattle.search_spans.proofs.measure_one.Tie as tie

cell-requires : tie.Need-cell-requires
cell-requires c κs =
    let s = c.before.before.before.before.before.before.before.before.before in
    let r = c.before.reach-span in
    let first = c.before.before.before.before.before.if-first-old.true in
    omega (arith, along-below s.args.lists.now s.args.old _ r.result.steps r.result.last r.ensures.0 first, s.requires.1)

writes : tie.Need-bounds-lists-x-then-next-old-2
writes c =
    let s = c.before.before.before.before.before.before.before.before.before.before in
    omega (arith, length-set s.args.lists.now (step_cell s.args.x) c.before.steps_cell.result, s.requires.0, s.requires.2)

returns : tie.Need-returns-then-next-old
returns c =
    let s = c.before.before.before.before.before.before.before.before.before.before in
    let r = c.before.before.reach-span in
    let first = c.before.before.before.before.before.before.before.position-first in
    rw (c.before.steps_cell.ensures, c.cell.ensures)
    (one-noted s.args.old s.args.x s.requires.2 s.args.lists.now s.requires.0 r.result.steps r.result.last
    (subst (λ (i : ℕ). Along s.args.lists.now s.args.old i r.result.steps r.result.last) first.ensures r.ensures.0))

returns-2 : tie.Need-returns-else-next-old
returns-2 c =
    let s = c.before.before.before.before.before.before.before in
    let lists = s.args.lists.now in
    let first = c.before.before.before.before.position-first in
    let e = row-after lists first.result (omega (arith, c.before.before.before.if-first-old.true, s.requires.1)) in
    one_none s.args.old s.args.x lists (λ l l'. omega (arith, subst (λ (i : ℕ). after_in lists i < s.args.old) (sym first.ensures) l', e, c.before.position-next.ensures, c.if-next-old.false))

returns-3 : tie.Need-returns-else-first-old
returns-3 c =
    let s = c.before.before.before.before in
    one_none s.args.old s.args.x s.args.lists.now (λ l l'. omega (arith, l, c.before.position-first.ensures, c.if-first-old.false))

pub measure_one_spec : {M : Type 1} → statement M
measure_one_spec = tie.close (tie.spec (λ c. search rules) (λ c. search rules) (λ c. search rules) (λ c κs. search rules) (λ c. search rules) (λ c. search rules) (λ c κs. search rules) (λ c κs. search rules) (λ c κs. search rules) (λ c. search rules) (λ c. search rules) (λ c. search rules) cell-requires (λ c. search rules) (λ c. search rules) writes (λ c. search rules) returns returns-2 returns-3)
