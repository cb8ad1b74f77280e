-- The rows before the cursor are done, the others as they were, and the links lead along the live rows. The measure falls, since linked rows rise
-- and the new row comes last.
use Rattle.relation.specs.Relation.{contained}
use Rattle.spec_calls.specs.Rows.{row_of, blank}
use Rattle.search_rows.specs.Meanings.{candidate_of}
use Rattle.search_retire.specs.Clearing.{InClearing, clears_left}
use Rattle.search_loops.proofs.insert.Given as goal

abbrev pub invariant-loop-next : goal.invariant-loop-next
invariant-loop-next l = InClearing contained row_of blank l.state.terms.pass (candidate_of l.candidate) l.state.counts.used l.fn.found l.fn.journal l.fn.table l.next l.journal l.table

abbrev pub decreases-loop-next : goal.decreases-loop-next
decreases-loop-next l = clears_left l.next
