-- The cells of the states below `state` are the columns of these.
use Rattle.std.proofs.Common.{◌*◌}
use Rattle.relation.proofs.Cells.{Made}
use Rattle.relation.specs.Representation.{relation_words}
use Rattle.relation.proofs.Relation.columns.Given as goal

abbrev pub invariant-loop-state : goal.invariant-loop-state
invariant-loop-state l = Made l.self l.cells (l.state * relation_words)
