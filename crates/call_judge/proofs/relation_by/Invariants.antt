-- `r` is the relation of the letters before `c`, which composed with that of the rest is that of the word.
use Rattle.relation.specs.Relation.{states}
use Rattle.relation.specs.Representation.{value}
use Rattle.call_judge.specs.TableRelationLaws.{Upto}
use Rattle.call_judge.proofs.relation_by.Given as goal

abbrev pub invariant-loop-c : goal.invariant-loop-c
invariant-loop-c l = Upto states l.table l.word l.c-index (value l.r)
