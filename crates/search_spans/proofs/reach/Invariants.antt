-- `steps` steps lead to the row `last`, and they rise: there are at most as many steps as rows up to the last. Assumes nothing.
use Rattle.std.proofs.Common.{◌≡◌, ◌≤◌, ◌-◌}
use Rattle.search_order.specs.Lists.{after_in}
use Rattle.search_spans.specs.Spans.{Along}
use Rattle.search_spans.proofs.reach.Given as goal

abbrev pub invariant-loop-last : goal.invariant-loop-last
invariant-loop-last l = (l.next ≡ after_in l.lists l.last) × Along l.lists l.old l.first l.steps l.last × (l.steps ≤ l.last) × (l.steps ≤ l.old)

abbrev pub decreases-loop-last : goal.decreases-loop-last
decreases-loop-last l = l.old - l.last
