-- `search_skip::next_in` meets its contract: the next right, or the place after the last one. Assumes nothing.
use mathlib.Core.Path.{sym, ◌∙◌}
use lib.ListN.{take}
use borrow.Author.Rules.{rules}
use Rattle.search_order.specs.PlaceLaws.{follows-right}
use Rattle.search_state.specs.Layout.{lists_in}
use Rattle.search_skip.proofs.next_in.Statement.{statement}
use Rattle.search_skip.proofs.next_in.Tie as tie

returns : tie.Need-returns-then-right-ne-END
returns c =
    let s = c.before.before.before in
    let a = s.args in
    rw c.with_right.ensures (follows-right (lists_in a.table.now) (take a.n a.rules.now) a.place a.right s.requires.2 c.before.if-right-ne-END.true)

asked : tie.Need-next_row_in-requires
asked c κs =
    let s = c.before.before in
    (s.requires.0, s.requires.1, sym s.requires.2 ∙ c.if-right-ne-END.false)

pub next_in_spec : {M : Type 1} → statement M
next_in_spec = tie.close (tie.spec (λ c κs. search rules) returns asked (λ c. search rules))
