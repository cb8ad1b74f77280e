-- The tally of a walk before the first record. Definitions only. Assumes nothing.
use Rattle.file_whole.specs.declared.Tally.{Tally}

abbrev pub begun : Tally
begun = record { rules = 0; transitions = 0 }
