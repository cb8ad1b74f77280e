-- The loop's invariant: the entries below q are the closures of their nonterminals.
use Rattle.std.proofs.Common.{ℕ, ◌<◌, get_or}
use Rattle.member_laws.specs.Sets.{ClosureOf}
use Rattle.member_units.proofs.fill_units.Given as goal

abbrev pub invariant-loop-q : goal.invariant-loop-q
invariant-loop-q l = (k : ℕ) → k < l.q → ClosureOf l.direct k (get_or l.units k 0)
