-- The loop's invariant: `set` is a word that has `q`, and each of it is reached from `q`. The measure falls, for a round that adds something
-- makes the word larger. Assumes nothing.
use mathlib.Core.Path.{sym, subst}
use Prim.Native.Nat.{◌-◌, ◌^◌, ◌<◌}
use native.Mathlib.Omega.{arith}
use lib.Bits.{or_lt}
use borrow.Author.Rules.{rules}
use Rattle.member_laws.specs.UnitLaws.{ReachedSoFar, reached-first, larger, reached-next, reached-done}
use Rattle.member_units.proofs.closure.Statement.{statement}
use Rattle.member_units.proofs.closure.Tie as tie

abbrev invariant-loop-set : tie.invariant-loop-set
invariant-loop-set direct q set₀ set = (set < 2 ^ 64) × ReachedSoFar direct q set

abbrev decreases-loop-set : tie.decreases-loop-set
decreases-loop-set direct q set₀ set = 2 ^ 64 - set

loop-holds : tie.Need-loop-set-init invariant-loop-set decreases-loop-set
loop-holds c =
    let a = c.before.args in
    (c.with_one-set.type_inv, subst (ReachedSoFar a.direct.now a.q) (sym c.with_one-set.ensures) (reached-first a.direct.now a.q))

returns : tie.Need-returns-then-next-set invariant-loop-set decreases-loop-set
returns c =
    let a = c.before.before.before.before.args in
    let l = c.before.before.loop-set in
    reached-done a.direct.now a.q l.set c.before.union-more.result l.invariant.1 c.before.union-more.ensures c.if-next-set.true

loop-less : tie.Need-loop-set-smaller invariant-loop-set decreases-loop-set
loop-less c =
    let a = c.before.before.before.before.args in
    let l = c.before.before.loop-set in
    let r = c.before.union-more in
    let up = larger a.direct.now a.q l.set r.result l.invariant.1 r.ensures in
    omega (arith, up, or_lt 64 l.set r.result l.invariant.0 r.type_inv, c.if-next-set.false)

loop-again : tie.Need-loop-set-preserved invariant-loop-set decreases-loop-set
loop-again c =
    let a = c.before.before.before.before.args in
    let l = c.before.before.loop-set in
    let r = c.before.union-more in
    (or_lt 64 l.set r.result l.invariant.0 r.type_inv, reached-next a.direct.now a.q l.set r.result l.invariant.1 r.ensures)

pub closure_spec : {M : Type 1} → statement M
closure_spec =
    tie.close
    (tie.spec invariant-loop-set decreases-loop-set (λ c κs. search rules) loop-holds (λ c κs. search rules) returns loop-less loop-again)
