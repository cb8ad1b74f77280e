-- The numbers that the library's functions give beside the refusals of document 01 and the verdicts of crate `host_result`. Definitions only.
-- Assumes nothing.
use Rattle.std.specs.Prelude.{Bool, true, false, List, [], ◌∷◌, ℕ}
use Rattle.spec_file.specs.Reading.{ReaderStep, gives, refuses, ended}
use Rattle.spec_file.specs.Records.{Record, rule_record, transition_record, final_record}
use Rattle.spec_calls.specs.Judging.{Judgement, accepted, turned_away}
use Rattle.spec_calls.specs.Replies.{Reply, refused, answered}

-- the version of this interface: 2 since it has `bolfrega_check_from`, 3 since a host may lend its own rows
abbrev pub version : ℕ
version = 3

-- ---- judgements

abbrev pub accepted_code : ℕ
accepted_code = 110

abbrev pub turned_away_code : ℕ
turned_away_code = 111

abbrev pub judgement_code : Judgement → ℕ
judgement_code accepted = accepted_code
judgement_code turned_away = turned_away_code

-- ---- whether the plan derives a run

abbrev pub derived_code : ℕ
derived_code = 112

abbrev pub not_derived_code : ℕ
not_derived_code = 113

abbrev pub derivation_code : Bool → ℕ
derivation_code true = derived_code
derivation_code false = not_derived_code

-- ---- the list of a sheet's gaps and doubles

abbrev pub listed_code : ℕ
listed_code = 114

-- the same number for every count of entries
abbrev pub listing_code : ℕ → ℕ
listing_code n = listed_code

-- ---- a file in the other form, or unfolded

abbrev pub converted_code : ℕ
converted_code = 115

-- the same number for every length of the result
abbrev pub conversion_code : ℕ → ℕ
conversion_code n = converted_code

-- ---- a run that is written

abbrev pub written_code : ℕ
written_code = 116

-- the same number for every length of the run
abbrev pub writing_code : ℕ → ℕ
writing_code n = written_code

-- ---- a step of the reader

abbrev pub rule_code : ℕ
rule_code = 117

abbrev pub move_code : ℕ
move_code = 118

abbrev pub finishing_code : ℕ
finishing_code = 119

abbrev pub ended_code : ℕ
ended_code = 120

abbrev pub record_code : Record → ℕ
record_code (rule_record head size first second) = rule_code
record_code (transition_record source letter target) = move_code
record_code (final_record state) = finishing_code

-- what a record says: a procedure, how many symbols, and two; stage, code, stage; or a stage
abbrev pub record_values : Record → List ℕ
record_values (rule_record head size first second) = head ∷ size ∷ first ∷ second ∷ []
record_values (transition_record source letter target) = source ∷ letter ∷ target ∷ 0 ∷ []
record_values (final_record state) = state ∷ 0 ∷ 0 ∷ 0 ∷ []

-- what came, as a number: a record, the number that refuses, or the end
abbrev pub step_code : ReaderStep → ℕ
step_code (gives r i) = record_code r
step_code (refuses x) = x.number
step_code ended = ended_code

-- the number of the refused record
abbrev pub step_record : ReaderStep → ℕ
step_record (gives r i) = 0
step_record (refuses x) = x.place
step_record ended = 0

abbrev pub step_values : ReaderStep → List ℕ
step_values (gives r i) = record_values r
step_values (refuses x) = 0 ∷ 0 ∷ 0 ∷ 0 ∷ []
step_values ended = 0 ∷ 0 ∷ 0 ∷ 0 ∷ []

-- ---- replies

-- the count of entries, or the length of a result or of a run; 0 where the call is refused
abbrev pub size_in : Reply ℕ → ℕ
size_in (refused r) = 0
size_in (answered n) = n

-- the number of the refused record; 0 where no record is refused
abbrev pub place_in : {A : Type 0} → Reply A → ℕ
place_in (refused r) = r.place
place_in (answered a) = 0
