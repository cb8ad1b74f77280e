-- The walk is at record `i` with the counts of the records before it, and what is left refuses as all of it does (`At`).
use Rattle.spec_file.specs.Forms.{sixteen}
use Rattle.file_wide.specs.WalkLaws.{At}
use Rattle.file_wide.proofs.records_refusal.Given as goal

abbrev pub invariant-loop-i : goal.invariant-loop-i
invariant-loop-i l = At sixteen l.file l.i l.rules l.transitions
