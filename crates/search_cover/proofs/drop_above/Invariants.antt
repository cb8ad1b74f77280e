-- Of the first `i` numbers `k` are kept, and the others are as they were. Assumes nothing.
use Rattle.relation.specs.Representation.{value}
use Rattle.search_cover.specs.DropLaws.{Dropping}
use Rattle.search_cover.proofs.drop_above.Given as goal

abbrev pub invariant-loop-i : goal.invariant-loop-i
invariant-loop-i l = Dropping (value l.effect) l.initial.near l.i l.k l.near
