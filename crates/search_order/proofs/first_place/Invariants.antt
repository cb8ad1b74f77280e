-- The rules from the first `r` to the current one form no candidate. Assumes nothing.
use Rattle.search_order.specs.PlaceLaws.{Skipped}
use Rattle.search_order.proofs.first_place.Given as goal

abbrev pub invariant-loop-r : goal.invariant-loop-r
invariant-loop-r l = Skipped l.lists l.rules l.fn.r l.r
