-- `mask` has the final states among the first `i` records.
use Rattle.std.proofs.Common.{◌≡◌}
use Rattle.relation.specs.Relation.{states}
use Rattle.spec_file.specs.Records.{final_kind}
use Rattle.spec_file.specs.Views.{final_of, collect}
use Rattle.file_tables.specs.FinalLaws.{mask_of}
use Rattle.file_tables.proofs.final_states.Given as goal

abbrev pub invariant-loop-i : goal.invariant-loop-i
invariant-loop-i l = l.mask ≡ mask_of states (collect final_kind final_of l.file l.i 0)
