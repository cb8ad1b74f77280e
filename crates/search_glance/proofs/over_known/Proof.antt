-- `search_glance::over_known` meets its contract. The loop's invariant: the candidates of the rights before `right` have been passed, its own has this
-- effect and these hints, and `next` comes after it. The measure is what is left of the budget: each turn takes a join. Assumes nothing.
use mathlib.Core.Path.{◌≡◌, refl, ap, ◌∙◌, subst}
use Prim.Native.Nat.{◌-◌, ◌<◌}
use native.Mathlib.Omega.{arith}
use borrow.Author.Rules.{rules}
use Rattle.relation.specs.Relation.{states, compose}
use Rattle.relation.specs.Representation.{value}
use Rattle.search_order.specs.Lists.{after_in}
use Rattle.search_state.specs.Layout.{lists_in}
use Rattle.search_laws.specs.StepLaws.{moves-none, moves_next}
use Rattle.search_laws.specs.States.{standing}
use Rattle.search_glance.specs.Glancing.{after_left, KnownBelow, Hints, GoesPast, right_at, stands_at, PassesKnown}
use Rattle.search_glance.proofs.over_known.Statement.{statement}
use Rattle.search_glance.proofs.over_known.Tie as tie

abbrev invariant-loop-right : tie.invariant-loop-right
invariant-loop-right near table head left first state terms counts place used columns joins₀ right₀ next₀ effect₀ covers₀ slot₀ joins right next effect covers slot =
    (next ≡ after_in (lists_in table) right) × (joins < state.terms.budget)
    × PassesKnown table near state head (after_left near state.counts.used (value left)) (right_at state joins right)
    × (value effect ≡ after_left near state.counts.used (value left) right)
    × Hints near state.counts.used head (value effect) covers slot

abbrev decreases-loop-right : tie.decreases-loop-right
decreases-loop-right near table head left first state terms counts place used columns joins₀ right₀ next₀ effect₀ covers₀ slot₀ joins right next effect covers slot =
    state.terms.budget - joins

loop-holds : tie.Need-loop-right-init invariant-loop-right decreases-loop-right
loop-holds c =
    let s = c in
    (s.requires.next, s.requires.paid, moves-none (stands_at s.args.tried.state), s.requires.effect, s.requires.hints)

may-pass-requires : tie.Need-may_pass-requires invariant-loop-right decreases-loop-right
may-pass-requires c κs = c.loop-right.invariant.1

add-joins : tie.Need-overflow_add-joins invariant-loop-right decreases-loop-right
add-joins c = omega (arith, (c.may_pass.ensures c.loop-right-test.true).paid, c.well_formed.1.1.0)

after-in-requires : tie.Need-after_in-next-requires invariant-loop-right decreases-loop-right
after-in-requires c κs = c.requires.table

row-effect-requires : tie.Need-row_effect-requires invariant-loop-right decreases-loop-right
row-effect-requires c κs = let p = c.requires in (p.near, p.used)

compose-by-requires : tie.Need-compose_by-effect-requires invariant-loop-right decreases-loop-right
compose-by-requires c κs = c.columns-columns.ensures

try-hints-requires : tie.Need-try_hints-hinted-requires invariant-loop-right decreases-loop-right
try-hints-requires c κs = let p = c.requires in (p.near, p.table, p.used)

loop-less : tie.Need-loop-right-smaller invariant-loop-right decreases-loop-right
loop-less c =
    let i = c in
    omega (arith, (i.may_pass.ensures i.loop-right-test.true).paid)

loop-again : tie.Need-loop-right-preserved invariant-loop-right decreases-loop-right
loop-again c =
    let k = c in
    let e = k in
    let n = e in
    let i = n in
    let m = i in
    let l = m.loop-right in
    let a = m.args in
    let g = m.may_pass.ensures i.loop-right-test.true in
    let past : GoesPast a.near.now a.tried.state a.head (after_left a.near.now a.tried.state.counts.used (value a.left)) l.joins l.right l.next =
    record { more = g.more; paid = g.paid; known = subst (KnownBelow a.near.now a.tried.state.counts.used a.head) l.invariant.3 (l.invariant.4.known g.covers) }
    in (
      n.after_in-next.ensures,
      g.paid,
      moves_next l.invariant.2 (l.next, l.invariant.0, past, refl),
      k.compose_by-effect.ensures ∙ ap (compose states (value a.left)) e.row_effect.ensures,
      c.try_hints-hinted.ensures,
    )

returns : tie.Need-returns invariant-loop-right decreases-loop-right
returns c =
    let l = c.loop-right in
    let s = c.args.tried.state in
    let at = right_at s l.joins l.right in
    record {
      passed = record { joins = l.joins; right = l.right; passes = l.invariant.2; paid = l.invariant.1; is = c.stand_at.ensures ∙ ap (standing s s.terms at.counts) c.with_right.ensures };
      effect = l.invariant.3;
      hints = l.invariant.4;
    }

pub over_known_spec : {M : Type 1} → statement M
over_known_spec =
    tie.close
    (tie.spec
    invariant-loop-right
    decreases-loop-right
    (λ c κs. search rules)
    loop-holds
    may-pass-requires
    add-joins
    after-in-requires
    row-effect-requires
    compose-by-requires
    try-hints-requires
    loop-less
    loop-again
    (λ c κs. search rules)
    (λ c κs. search rules)
    returns)
