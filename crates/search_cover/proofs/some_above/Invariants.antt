-- No effect before place `i` contains `effect`. Assumes nothing.
use Rattle.relation.specs.Representation.{value}
use Rattle.search_cover.specs.Steps.{NoneAbove}
use Rattle.search_cover.proofs.some_above.Given as goal

abbrev pub invariant-loop-i : goal.invariant-loop-i
invariant-loop-i l = NoneAbove l.near l.i (value l.effect)
