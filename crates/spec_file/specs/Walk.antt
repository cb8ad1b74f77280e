-- The walk over a file by steps: what a step says of the file, and what the rest of the walk gives. Definitions only. Assumes nothing.
use Rattle.std.specs.Prelude.{List, ℕ, ◌-◌}
use Rattle.spec_file.specs.Records.{record_count, Record, rule_record, transition_record, final_record}
use Rattle.spec_file.specs.Refusals.{Refusal, refuse, or_next, fault_from, length_fault}
use Rattle.spec_file.specs.Reading.{ReaderStep, gives, refuses, ended}

-- how many rules a record is
abbrev pub rules_in : Record → ℕ
rules_in (rule_record h n s t) = 1
rules_in (transition_record a c b) = 0
rules_in (final_record f) = 0

-- how many transitions
abbrev pub transitions_in : Record → ℕ
transitions_in (rule_record h n s t) = 0
transitions_in (transition_record a c b) = 1
transitions_in (final_record f) = 0

-- the refusal that a step gives; none where it gives a record or the end
abbrev pub refusal_in : ReaderStep → Refusal
refusal_in (gives r i) = refuse 0 0
refusal_in (refuses x) = x
refusal_in ended = refuse 0 0

-- what a whole walk gives from record i on
unfoldable pub rest : List ℕ → ℕ → Refusal
rest bs i = or_next (refuse (length_fault bs) 0) (fault_from bs (record_count bs - i) i)

-- a step, and then the rest
abbrev pub after : ReaderStep → Refusal → Refusal
after (gives r i) x = x
after (refuses y) x = y
after ended x = refuse 0 0
