-- No row below `i` leads to an old one.
use Rattle.search_spans.specs.Spans.{NoneLeads}
use Rattle.search_spans.proofs.leads_on.Given as goal

abbrev pub invariant-loop-i : goal.invariant-loop-i
invariant-loop-i l = NoneLeads l.old l.i l.lists
