-- The next left, else the next rule. Assumes nothing.
use Rattle.std.proofs.Common.{ℕ, sym, ◌∙◌, subst, add-one}
use Rattle.search_order.specs.Places.{FirstPlace}
use Rattle.search_order.specs.PlaceLaws.{follows-left, follows-rule}
use Rattle.search_order.proofs.next_row.Goals as goal

pub returns-then-left-ne-END : goal.returns-then-left-ne-END
returns-then-left-ne-END c =
    let a = c.args in
    let l = c.after-left in
    let b = c.beginning-start in
    rw c.first.ensures (follows-left a.lists.now a.rules.now a.place c.requires.1 l.result b.result.right l.ensures c.if-left-ne-END.true b.ensures.2)

pub returns : goal.returns
returns c =
    let a = c.args in
    follows-rule a.lists.now a.rules.now a.place c.requires.1 (sym c.after-left.ensures ∙ c.if-left-ne-END.false) c.first_place.result
    (subst (λ (r : ℕ). FirstPlace a.lists.now a.rules.now r c.first_place.result) (add-one a.place.rule) c.first_place.ensures)
