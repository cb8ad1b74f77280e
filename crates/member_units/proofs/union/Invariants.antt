-- The loop's invariant: `out` is the union of the entries below q of the set's nonterminals.
use Rattle.member_laws.specs.UnitLaws.{UnionBelow}
use Rattle.member_units.proofs.union.Given as goal

abbrev pub invariant-loop-q : goal.invariant-loop-q
invariant-loop-q l = UnionBelow l.entries l.set l.q l.out
