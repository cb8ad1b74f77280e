-- The search runs: what is left of the pass, and of the search, gives the answer that the working order gives, and the words have the effects of the
-- rows. The measure falls, since each candidate is one join more of the budget.
use Rattle.std.proofs.Common.{T}
use Rattle.search_laws.specs.OnRelations.{NearIn, Running}
use Rattle.search_laws.specs.Running.{candidates_left}
use Rattle.search_loops.proofs.run.Given as goal
use Rattle.search_state.specs.Phases.{is_going}

abbrev pub invariant-loop-state : goal.invariant-loop-state
invariant-loop-state l = record {
  runs : Running l.letters l.rules l.fn.state l.fn.journal l.state l.journal l.table;
  near : T (is_going l.state.phase) → NearIn l.state l.journal l.near;
}

abbrev pub decreases-loop-state : goal.decreases-loop-state
decreases-loop-state l = candidates_left l.state
