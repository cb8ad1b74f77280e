-- `search_skip::pass_left` meets its contract, whatever the test says: the candidate of the place, or its span, and then the next place.
-- Assumes nothing.
use mathlib.Core.Path.{◌≡◌, sym, subst}
use mathlib.Core.Bool.{true}
use Prim.Native.Nat.{ℕ}
use native.Mathlib.Omega.{arith}
use lib.ListN.{take}
use lib.Seq.{length-take-le}
use borrow.Author.Rules.{rules}
use Rattle.search_laws.specs.Steps.{passes_at}
use Rattle.search_laws.specs.StepLaws.{passes-paid, span-alone, over-span, span-later}
use Rattle.search_skip.proofs.pass_left.Statement.{statement}
use Rattle.search_skip.proofs.pass_left.Tie as tie

is-alone-requires : tie.Need-is_alone-requires
is-alone-requires c κs = c.before.before.before.before.requires.0.table

after-requires : tie.Need-after_in-right-requires
after-requires c κs = c.before.before.before.requires.0.table

next-requires : tie.Need-next_in-next-requires
next-requires c κs = let m = c.before.before.before.before.before.before.requires.0 in (m.table, m.count, c.before.before.after_in-right.ensures)

add-joins : tie.Need-overflow_add-counted
add-joins c =
    let s = c.before.before.before.before.before.before.before.before in
    omega (arith, passes-paid s.args.terms s.args.n s.args.at s.requires.1)

returns : tie.Need-returns-then-is_alone
returns c =
    let s = c.before.before.before.before.before.before.before.before in
    let a = s.args in
    let rs = take a.n a.rules.now in
    let passes = subst (λ (m : ℕ). passes_at a.terms m a.at ≡ true) (sym (length-take-le a.n a.rules.now s.requires.0.count)) s.requires.1 in
    let v = span-alone rs a.table.now a.terms s.requires.0.old a.at passes in
    let f = c.before.next_in-next.ensures in
    (over-span rs a.table.now a.terms v f, span-later rs a.table.now a.terms v f s.requires.0.places)

after-requires-2 : tie.Need-after_in-right-requires-2
after-requires-2 c κs = c.before.before.before.before.before.before.before.before.before.requires.0.table

next-requires-2 : tie.Need-next_in-next-requires-2
next-requires-2 c κs =
    let m = c.before.before.before.before.before.before.before.before.before.before.requires.0 in
    (m.table, m.count, c.after_in-right-2.ensures)

returns-2 : tie.Need-returns
returns-2 c =
    let s = c.before.before.before.before.before.before.before.before.before.before.before in
    let a = s.args in
    let rs = take a.n a.rules.now in
    let v = c.before.before.before.before.pass_span-last.ensures in
    let f = c.next_in-next-2.ensures in
    (over-span rs a.table.now a.terms v f, span-later rs a.table.now a.terms v f s.requires.0.places)

pub pass_left_spec : {M : Type 1} → statement M
pass_left_spec = tie.close (tie.spec after-requires is-alone-requires next-requires add-joins returns (λ c κs. search rules) after-requires-2 next-requires-2 returns-2)
