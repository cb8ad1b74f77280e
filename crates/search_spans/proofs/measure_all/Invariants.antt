-- The first x procedures are measured. Assumes nothing.
use Rattle.search_spans.specs.SpanLaws.{MeasuresTo}
use Rattle.search_spans.proofs.measure_all.Given as goal

abbrev pub invariant-loop-x : goal.invariant-loop-x
invariant-loop-x l = MeasuresTo l.old l.x l.initial.lists l.lists
