-- `search_skip::pass_over` meets its contract. The loop's invariant: from the first place to `at` every candidate was one that the pass before
-- formed, and is counted, and `at` is a place of the pass. The measure is what is left of the pass from `at` on: each turn comes to a later
-- place. Assumes nothing.
use mathlib.Core.Path.{sym, ◌∙◌}
use lib.ListN.{take}
use borrow.Author.Rules.{rules}
use Rattle.search_order.specs.PlacesLeft.{places_left, PassFrom}
use Rattle.search_state.specs.Layout.{lists_in}
use Rattle.search_laws.specs.Steps.{PassesOver}
use Rattle.search_laws.specs.StepLaws.{over_none, over-more}
use Rattle.search_skip.proofs.pass_over.Statement.{statement}
use Rattle.search_skip.proofs.pass_over.Tie as tie

abbrev invariant-loop-terms : tie.invariant-loop-terms
invariant-loop-terms rules table n terms at₀ at = PassesOver (take n rules) table terms at₀ at × PassFrom (lists_in table) (take n rules) at.place

abbrev decreases-loop-terms : tie.decreases-loop-terms
decreases-loop-terms rules table n terms at₀ at = places_left (lists_in table) (take n rules) at.place

loop-holds : tie.Need-loop-terms-init invariant-loop-terms decreases-loop-terms
loop-holds c =
    let a = c.before.args in
    (over_none (take a.n a.rules.now) a.table.now a.terms a.from, c.before.requires.places)

asked : tie.Need-pass_left-at-requires invariant-loop-terms decreases-loop-terms
asked c κs =
    let s = c.before.before.before.before in
    (record { table = s.requires.table; count = s.requires.count; old = s.requires.old; measured = s.requires.measured; places = c.before.before.loop-terms.invariant.1 }, sym c.before.may_pass.ensures ∙ c.loop-terms-test.true)

loop-less : tie.Need-loop-terms-smaller invariant-loop-terms decreases-loop-terms
loop-less c = c.pass_left-at.ensures.1.1

loop-again : tie.Need-loop-terms-preserved invariant-loop-terms decreases-loop-terms
loop-again c =
    let a = c.before.before.before.before.before.args in
    (over-more (take a.n a.rules.now) a.table.now a.terms c.before.before.before.loop-terms.invariant.0 c.pass_left-at.ensures.0, c.pass_left-at.ensures.1.0)

returns : tie.Need-returns invariant-loop-terms decreases-loop-terms
returns c = c.before.before.loop-terms.invariant.0

pub pass_over_spec : {M : Type 1} → statement M
pass_over_spec = tie.close (tie.spec invariant-loop-terms decreases-loop-terms loop-holds (λ c κs. search rules) asked loop-less loop-again returns)
