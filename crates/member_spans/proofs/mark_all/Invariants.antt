-- The loop's invariant: the digit is set in the cells of the set's nonterminals below p.
use Rattle.member_laws.specs.SpanLaws.{MarksBelow}
use Rattle.member_spans.proofs.mark_all.Given as goal

abbrev pub invariant-loop-p : goal.invariant-loop-p
invariant-loop-p l = MarksBelow l.p l.base l.set l.place l.fn.cells l.cells
