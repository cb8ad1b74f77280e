-- The loop's invariant: the entries below q have the heads of the units of their nonterminals.
use Rattle.std.proofs.Common.{ℕ, ◌<◌, map, get_or}
use Rattle.spec_language.specs.Grammar.{nonterminal}
use Rattle.spec_file.specs.Entries.{entry_of}
use Rattle.member_laws.specs.Sets.{UnitHeads}
use Rattle.member_units.proofs.fill_direct.Given as goal

abbrev pub invariant-loop-q : goal.invariant-loop-q
invariant-loop-q l = (k : ℕ) → k < l.q → UnitHeads (map entry_of l.rules) l.empties (nonterminal k) (get_or l.direct k 0)
