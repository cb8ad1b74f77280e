-- By whether the list begins with two old rows. Assumes nothing.
use Rattle.std.proofs.Common.{ℕ, ◌<◌, subst, arith}
use Rattle.search_order.specs.Lists.{after_in}
use Rattle.search_order.specs.PlaceLaws.{begins-nonterminal}
use Rattle.search_spans.specs.SpanLaws.{spans-alone, spans-list}
use Rattle.search_spans.proofs.list_span.Goals as goal

pub returns-then-x-ge-PROCEDURES : goal.returns-then-x-ge-PROCEDURES
returns-then-x-ge-PROCEDURES c =
    let a = c.args in
    rw (c.alone.ensures, c.position-first.ensures) (spans-alone a.old a.lists.now _ _ (begins-nonterminal a.lists.now a.x c.requires.2))

pub returns : goal.returns
returns c =
    let a = c.args in
    let first = c.position-first in
    let more : after_in a.lists.now first.result < a.old = omega (arith, c.after.ensures) in
    rw (first.ensures, c.number-steps.ensures.0, c.position-last.ensures)
    (spans-list a.old a.lists.now a.x (omega arith) c.requires.1 (omega (arith, first.ensures)) (subst (λ (i : ℕ). after_in a.lists.now i < a.old) first.ensures more) (omega (arith, c.number-steps.ensures)))
