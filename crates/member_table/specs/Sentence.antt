-- What is known of a sentence before its first cell. Definitions only. Assumes nothing.
use Rattle.std.specs.Prelude.{map}
use Rattle.spec_file.specs.Entries.{entry_of}
use Rattle.member_laws.specs.Filling.{Prepared}
use Rattle.member_table.specs.declared.Sentence.{Sentence}

-- the set and the closures are those of its rules
abbrev pub IsPrepared : Sentence → Type 0
IsPrepared s = Prepared (map entry_of s.rules.now) s.word.now s.empties s.units.now
